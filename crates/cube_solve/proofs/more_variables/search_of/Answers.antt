use Rattle.std.proofs.Common.{◌≤◌, ◌∙◌, ap, sym, subst}
use Rattle.dimacs.specs.layout.BuilderState.{BuilderState}
use Rattle.dimacs.specs.logic.Cnf.{Cnf}
use Rattle.clause_arena.specs.Clauses.{live_of}
use Rattle.cube_solve.proofs.CopiedClauseLemmas.{none_live, noted_by, within_more}
use Rattle.cube_solve.proofs.more_variables.search_of.Goals as goal

pub copy_clauses-requires-clause-within : goal.copy_clauses-requires-clause-within
copy_clauses-requires-clause-within g c =
    let e = c.in_ok-search.ensures.searching in
    let v = (e.learnt).vars in
    let f = ap (λ (f : Cnf). f.vars) (c.as_base.ensures ∙ c.in_ok-formula.ensures) in
    let m = c.requires.more in
    within_more (live_of c.args.old.state.arena) c.args.old.state.trail.vars c.in_ok-search.search.state.trail.vars (subst (λ n. c.args.old.state.trail.vars ≤ n) (sym (v ∙ f)) m) ((c.requires.steady).state).inside

pub copy_clauses-requires-clause-none : goal.copy_clauses-requires-clause-none
copy_clauses-requires-clause-none g c =
    none_live c.as_base.result.now (live_of c.in_ok-search.search.state.arena) (ap (λ (f : Cnf). f.clauses) (c.as_base.ensures ∙ c.in_ok-formula.ensures) ∙ ap (λ (b : BuilderState). b.done) c.in_ok-new.ensures) c.in_ok-search.ensures.linked

pub returns-clause-noted : goal.returns-clause-noted
returns-clause-noted g c = noted_by c.copy_clauses.new.search c.take_over_lemmas.new.self c.args.old c.take_over_lemmas.ensures c.in_ok-copy_clauses.ensures.noted
