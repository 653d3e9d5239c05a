use Rattle.std.proofs.Common.{◌≡◌, ◌+◌, ◌≤◌, inr, Bool, List, [], ◌∷◌, ◌++◌, refl, sym, subst, arith}
use Rattle.std.specs.List.{All}
use Rattle.std.specs.FinMap.{insert}
use Rattle.dimacs.specs.logic.Literal.{IsWithin}
use Rattle.elimination.specs.Kept.{HasEliminated}
use Rattle.lrat_text.specs.Log.{log_top}
use Rattle.shared_logs.specs.SharedLogs.{Import}
use Rattle.cell_worker.specs.WorkerLog.{last_in, log_state, vars_in}
use Rattle.cell_worker.specs.inner.SharedLines.{import_text}
use Rattle.cell_worker.proofs.PartLemmas.{part_insert}
use Rattle.cell_worker.proofs.SpellingLemmas.{import_open, import_spelled}
use Rattle.cell_worker.proofs.WrittenLemmas.{import_limits, top_few, top_more, written_line}
use Rattle.cell_worker.proofs.worker.CellWorker.lend.Goals as goal

pub put_import-requires : goal.put_import-requires
put_import-requires g c =
    let s = c.args.self.now in
    let within = subst (λ n. All (IsWithin n) c.args.clause.now) c.vars.ensures (c.is_within.ensures.inside (search c.if-not-is_within.false)) in
    import_limits (vars_in s) 199999999 1 c.args.clause.now c.args.log c.args.there ((c.requires.ready).session).few (omega arith, omega arith) within c.requires.named c.requires.there

pub returns-clause-stands : goal.returns-clause-stands
returns-clause-stands g c = λ F names steps text name h i.
    let s = c.args.self.now in
    let C = c.args.clause.now in
    let log = c.args.log in
    let there = c.args.there in
    let e = c.in_ok-lend.ensures in
    let u = record s { search = c.lend.new.self; log = c.put_import.new.out; line = c.put_import.new.line } in
    let n = last_in u in
    let st = log_state F steps in
    let within = subst (λ k. All (IsWithin k) C) c.vars.ensures (c.is_within.ensures.inside (search c.if-not-is_within.false)) in
    let most = log_top F in
    let few = top_few F (subst (λ k. k ≤ 199999999) h.vars ((c.requires.ready).session).few) in
    let le : vars_in s ≤ most = subst (λ k. k ≤ most) (sym h.vars) (top_more F) in
    let limits = import_limits (vars_in s) most n C log there le e.number within c.requires.named c.requires.there in
    let next : n ≡ st.last + 1 = (let a = e.last in let b = h.last in omega arith) in
    written_line F names steps text s u (import_text n C log there) (Import n C name there)
    (subst (λ k. u.log.items ≡ s.log.items ++ (import_text k C log there ++ 10 ∷ [])) c.last-id.ensures c.in_ok-put_import.ensures)
    (import_open most few n C log there limits) (log, i, import_spelled most few n C log there limits) next refl e.vars refl refl h.clock e.log (λ given M p k. (insert M n C, part_insert M st.live n C p, e.known given M k)) h

pub returns-then-has_eliminated-clause-lent : goal.returns-then-has_eliminated-clause-lent
returns-then-has_eliminated-clause-lent g c = inr (inr (subst (λ (gone : List Bool). HasEliminated gone c.args.clause.now) c.deref.ensures.value c.if-has_eliminated.ensures))
