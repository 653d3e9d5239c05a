use Rattle.std.proofs.Common.{◌≡◌, ◌+◌, ◌<◌, ◌≤◌, [], ◌∷◌, length, get_or, refl, sym, ◌∙◌, ap, subst, arith}
use Rattle.std.specs.List.{All}
use Rattle.std.specs.FinMap.{insert}
use Rattle.std.proofs.lemmas.List.Elements.{All-cons, All-nil}
use Rattle.dimacs.specs.logic.Literal.{Clause, IsTautology, IsWithin}
use Rattle.dimacs.specs.logic.ClauseMap.{live_in}
use Rattle.dimacs.specs.logic.Cnf.{Cnf}
use Rattle.lrat_text.specs.Grammar.{IsClauseNumber}
use Rattle.lrat_text.specs.Log.{log_top}
use Rattle.lrat_text.specs.WrittenLine.{line_text}
use Rattle.lrat_text.specs.declared.step.Step.TheVariants.{Add}
use Rattle.lrat_text.proofs.LineLemmas.{written_one_line_within, written_spells_within}
use Rattle.cube_solve.specs.SessionLog.{IsKnown}
use Rattle.shared_logs.specs.SharedLogs.{Lemma}
use Rattle.cell_worker.specs.WorkerLog.{IsOwn, last_in, log_state, vars_in}
use Rattle.cell_worker.proofs.PartLemmas.{part_insert}
use Rattle.cell_worker.proofs.RestoredLemmas.{known_fewer, rup_itself, still_lives}
use Rattle.cell_worker.proofs.SpellingLemmas.{open_of}
use Rattle.cell_worker.proofs.WrittenLemmas.{lemma_limits, top_few, top_more, written_line}
use Rattle.cell_worker.proofs.worker.CellWorker.give_back.Goals as goal

pub overflow_add-place : goal.overflow_add-place
overflow_add-place g c =
    let few : length (c.args.self.now.formula.now).clauses ≤ 99999999 = (c.vars.ensures.valid).clauses in
    let below = c.requires.place in
    omega arith

pub put_lemma-requires : goal.put_lemma-requires
put_lemma-requires g c =
    let s = c.args.self.now in
    let C = c.clause-clause.result.now in
    let place = c.args.place in
    let few : length (s.formula.now).clauses ≤ 99999999 = (c.vars.ensures.valid).clauses in
    let below = c.requires.place in
    let number : IsClauseNumber (place + 1) = (omega arith, omega arith) in
    lemma_limits (vars_in s) 199999999 c.last-id.result C ((place + 1) ∷ []) ((c.requires.ready).session).few (subst IsClauseNumber (sym c.last-id.ensures) c.in_ok-give.ensures.number)
    (subst (λ n. All (IsWithin n) C) (sym (c.requires.ready).whole) c.clause-clause.ensures.within) (All-cons IsClauseNumber (place + 1) [] number (All-nil IsClauseNumber))

pub returns-clause-stands : goal.returns-clause-stands
returns-clause-stands g c = λ F names steps text h.
    let s = c.args.self.now in
    let place = c.args.place in
    let C = c.clause-clause.result.now in
    let hints = (place + 1) ∷ [] in
    let e = c.in_ok-give.ensures in
    let u = record s { search = c.give.new.self; log = c.put_lemma.new.out } in
    let n = c.last-id.result in
    let st = log_state F steps in
    let most = log_top F in
    let few = top_few F (subst (λ k. k ≤ 199999999) h.vars ((c.requires.ready).session).few) in
    let le : vars_in s ≤ most = subst (λ k. k ≤ most) (sym h.vars) (top_more F) in
    let number : IsClauseNumber n = subst IsClauseNumber (sym c.last-id.ensures) e.number in
    let small : length (s.formula.now).clauses ≤ 99999999 = (c.vars.ensures.valid).clauses in
    let below = c.requires.place in
    let hint : IsClauseNumber (place + 1) = (omega arith, omega arith) in
    let within = subst (λ k. All (IsWithin k) C) (sym (c.requires.ready).whole) c.clause-clause.ensures.within in
    let limits = lemma_limits (vars_in s) most n C hints le number within (All-cons IsClauseNumber (place + 1) [] hint (All-nil IsClauseNumber)) in
    let step = Add n C hints [] in
    let next : n ≡ st.last + 1 = (let a = e.last in let b = h.last in let d = c.last-id.ensures in omega arith) in
    let here : place < length F.clauses = subst (λ (f : Cnf). place < length f.clauses) h.over below in
    let same : get_or F.clauses place [] ≡ C = ap (λ (f : Cnf). get_or f.clauses place []) (sym h.over) ∙ sym c.clause-clause.ensures.clause in
    let plain = subst (λ (D : Clause). ¬ (IsTautology D)) (sym c.clause-clause.ensures.clause) c.requires.plain in
    let lives = subst (λ (D : Clause). live_in st.live (place + 1) D) same (still_lives F names steps text s place h here) in
    let line = Lemma n C hints in (
      line ∷ [],
      All-cons IsOwn line [] tt (All-nil IsOwn),
      written_line F names steps text s u (line_text n step) line c.in_ok-put_lemma.ensures (open_of (line_text n step) (written_one_line_within most few n step number limits))
          (written_spells_within most few n step number limits) (next, rup_itself (live_in st.live) (place + 1) C plain lives) refl e.vars refl c.last-id.ensures h.clock e.log
          (λ given M p k. (
            insert M n C,
            part_insert M st.live n C p,
            subst (λ m. IsKnown given (insert M m C) u.search) (sym c.last-id.ensures) (known_fewer given (last_in u ∷ []) (insert M (last_in u) C) u.search (e.known given M k)),
          )) h,
    )
