use Rattle.std.proofs.Common.{◌≤◌, List, [], ◌∙◌, ap, length, sym, subst}
use Rattle.dimacs.specs.layout.BuilderState.{BuilderState}
use Rattle.dimacs.specs.logic.Literal.{Clause}
use Rattle.cube_solve.specs.Session.{AreGiven}
use Rattle.cube_solve.specs.SessionLog.{IsKnown}
use Rattle.dimacs.specs.logic.Cnf.{Cnf}
use Rattle.dimacs.specs.logic.ClauseMap.{map_of}
use Rattle.dimacs.proofs.Members.{Contains-nil}
use Rattle.incremental.proofs.HistoryLemmas.{begins, no_clauses}
use Rattle.incremental.proofs.proved_session.Session.new.Goals as goal

pub returns-clause-stands : goal.returns-clause-stands
returns-clause-stands g c = λ L valid few.
    let e = c.in_ok-new-2.ensures in
    let s = c.in_ok-new-2.field-0 in
    let is = no_clauses c.as_base.result.now c.args.vars c.in_ok-new.field-0.done (c.as_base.ensures ∙ c.in_ok-formula.ensures) (ap (λ (b : BuilderState). b.done) c.in_ok-new.ensures) in
    let none = ap (λ (f : Cnf). f.clauses) is in
    begins {L = L} (record { alloc = c.args.alloc; search = s; out = c.new-3.result; scratch = c.new-4.result }) valid (subst (λ v. v ≤ L.vars) (sym (e.vars ∙ ap (λ (f : Cnf). f.vars) is)) few) (subst (λ (F : List Clause). AreGiven F s) none e.given) e.log (e.last ∙ ap (λ (F : List Clause). length F) none)
    (subst (λ (f : Cnf). IsKnown [] (map_of f) s) is (e.known [] (λ n i. absurd (Contains-nil n i)))) c.new-3.ensures.items
