use Rattle.std.proofs.Common.{◌≡◌, ℕ, ◌+◌, ◌≤◌, inl, inr, List, [], ◌++◌, map, refl, sym, ◌∙◌, ap, subst, arith}
use Rattle.std.specs.List.{All}
use Rattle.std.specs.FinMap.{insert}
use Rattle.std.proofs.lemmas.List.Elements.{All-nil}
use Rattle.dimacs.specs.logic.Literal.{Clause, IsWithin, negation}
use Rattle.lrat_text.specs.Grammar.{IsClauseNumber}
use Rattle.lrat_text.specs.Log.{log_top}
use Rattle.lrat_text.specs.WrittenLine.{line_of, line_text}
use Rattle.lrat_text.specs.declared.step.Step.TheVariants.{Add}
use Rattle.lrat_text.proofs.LineLemmas.{written_one_line_within, written_spells_within}
use Rattle.cube_solve.specs.SessionLog.{IsKnown}
use Rattle.cube_solve.proofs.SessionLemmas.{within_map}
use Rattle.shared_logs.specs.SharedLogs.{Lemma}
use Rattle.cell_worker.specs.WorkerLog.{last_in, log_state, vars_in}
use Rattle.cell_worker.proofs.PartLemmas.{part_insert}
use Rattle.cell_worker.proofs.SpellingLemmas.{open_of}
use Rattle.cell_worker.proofs.WrittenLemmas.{lemma_limits, top_few, top_more, written_line}
use Rattle.cell_worker.proofs.worker.CellWorker.close.Goals as goal

pub lend-requires-clause-within : goal.lend-requires-clause-within
lend-requires-clause-within g c =
    let s = c.args.self.now in
    let is = c.deref-2.ensures.value ∙ c.in_ok-lits.ensures ∙ ap (λ (C : Clause). map negation C) c.deref.ensures.value in
    subst (All (IsWithin (vars_in s))) (sym is) (within_map (vars_in s) c.args.failure.now.core.items c.requires.core)

pub put_lemma-requires : goal.put_lemma-requires
put_lemma-requires g c =
    let s = c.args.self.now in
    let is = c.deref-3.ensures.value ∙ c.in_ok-lits.ensures ∙ ap (λ (C : Clause). map negation C) c.deref.ensures.value in
    lemma_limits (vars_in s) 199999999 c.last-id.result c.deref-3.result.now c.deref-4.result.now ((c.requires.ready).session).few (subst IsClauseNumber (sym c.last-id.ensures) c.in_ok-lend.ensures.number)
    (subst (All (IsWithin (vars_in s))) (sym is) (within_map (vars_in s) c.args.failure.now.core.items c.requires.core))
    (subst (All IsClauseNumber) (sym c.deref-4.ensures.value) c.requires.hints)

pub put-requires : goal.put-requires
put-requires g c =
    let s = c.args.self.now in
    let is = c.deref-5.ensures.value ∙ c.in_ok-lits.ensures ∙ ap (λ (C : Clause). map negation C) c.deref.ensures.value in
    lemma_limits (vars_in s) 199999999 c.last-id.result c.deref-5.result.now [] ((c.requires.ready).session).few (subst IsClauseNumber (sym c.last-id.ensures) c.in_ok-lend.ensures.number)
    (subst (All (IsWithin (vars_in s))) (sym is) (within_map (vars_in s) c.args.failure.now.core.items c.requires.core)) (All-nil IsClauseNumber)

pub returns-clause-stands : goal.returns-clause-stands
returns-clause-stands g c = λ F names steps text h plain fails.
    let s = c.args.self.now in
    let core = c.args.failure.now.core.items in
    let hints = c.args.failure.now.hints.items in
    let C = map negation core in
    let e = c.in_ok-lend.ensures in
    let u = record s { search = c.lend.new.self; log = c.put_lemma.new.out; offers = c.put.new.self } in
    let n = c.last-id.result in
    let st = log_state F steps in
    let negs = c.in_ok-lits.ensures ∙ ap (λ (D : Clause). map negation D) c.deref.ensures.value in
    let most = log_top F in
    let few = top_few F (subst (λ k. k ≤ 199999999) h.vars ((c.requires.ready).session).few) in
    let le : vars_in s ≤ most = subst (λ k. k ≤ most) (sym h.vars) (top_more F) in
    let number : IsClauseNumber n = subst IsClauseNumber (sym c.last-id.ensures) e.number in
    let limits = lemma_limits (vars_in s) most n C hints le number (within_map (vars_in s) core c.requires.core) c.requires.hints in
    let step = Add n C hints [] in
    let next : n ≡ st.last + 1 = (let a = e.last in let b = h.last in let d = c.last-id.ensures in omega arith) in
    let bytes = c.in_ok-put_lemma.ensures ∙ ap (λ (D : Clause). s.log.items ++ line_of n (Add n D c.deref-4.result.now [])) (c.deref-3.ensures.value ∙ negs)
    ∙ ap (λ (hs : List ℕ). s.log.items ++ line_of n (Add n C hs [])) c.deref-4.ensures.value in
    written_line F names steps text s u (line_text n step) (Lemma n C hints) bytes (open_of (line_text n step) (written_one_line_within most few n step number limits))
    (written_spells_within most few n step number limits) (next, elim fails [ inl t ↦ absurd (plain t) | inr r ↦ r ]) refl e.vars refl c.last-id.ensures h.clock e.log
    (λ given M p k. (
      insert M n C,
      part_insert M st.live n C p,
      subst (λ m. IsKnown given (insert M m C) u.search) (sym c.last-id.ensures) (subst (λ (D : Clause). IsKnown given (insert M (last_in u) D) u.search) (c.deref-2.ensures.value ∙ negs) (e.known given M k)),
    )) h
