-- What a solver tells of an input, with and without MiniSat's result.
use Rattle.std.specs.Prelude.{◌≤◌}
use Rattle.std.proofs.Common.{◌≡◌, ◌≢◌, ◌⊎◌, inl, inr, ℕ, ◌<◌, Bool, true, false, List, [], Option, Some, None, Result, Ok, Err, IfOk, length, take, codes, if◌then◌else◌, refl, sym, ◌∙◌, ap, subst, append-nil, arith}
use Rattle.commands.specs.Decide.{DecidesInput}
use Rattle.commands.specs.Known.{HoldsOf}
use Rattle.commands.specs.Solver.{GivesUp, IsSatisfiedBy, Solves, SolvesInput, asking, no_result_text, nowhere, sat_text}
use Rattle.commands.specs.declared.decide.Deciding.{Deciding}
use Rattle.commands.specs.declared.solver.Solved.{Solved}
use Rattle.commands.specs.inner.Solver.{IsWritten}
use Rattle.commands.proofs.DecideLemmas.{decides_weaker, formula_true, other_true}
use Rattle.commands.proofs.KnownLemmas.{of_any}
use Rattle.commands.proofs.OfLemmas.{of_map}
use Rattle.dimacs.specs.logic.Cnf.{Cnf}
use Rattle.dimacs.specs.logic.Limits.{AreNoMore, Limits, large}
use Rattle.dimacs.specs.text.Answer.{satisfied_lines}
use Rattle.dimacs.proofs.SpellingLemmas.{parse_spells_within}
use Rattle.formula_search.specs.Decisions.{DecidesTo}
use Rattle.formula_search.specs.declared.decision.Asked.{Asked}
use Rattle.lrat_check.specs.Soundness.{Soundness}
use Rattle.proof_check.specs.Truth.{IsTrueReport}
use Rattle.reports.specs.declared.report.Report.{Report}

-- ---- what `decide` tells is what the solver tells
not_one : {A : Type 0} (m n : ℕ) → m ≡ 1 → m ≡ n → 1 < n ⊎ n < 1 → A
not_one m n one e (inl l) = absurd (omega (arith, one, e, l))
not_one m n one e (inr l) = absurd (omega (arith, one, e, l))

module _ (L : Limits) (d : Deciding) (has : List ℕ → Type 0) where
  refused_input : (text reason : List ℕ) (r : Report) (s : Solved) → d.quiet ≡ false → r.status ≡ 1 → r.stdout.items ≡ reason
      → DecidesInput L d has text r → GivesUp reason s → SolvesInput L d.asked has text s
  refused_input text reason r s loud one is (inl (told, refuses, hushed)) gives =
      let P : Bool → Type 0 = λ q. r.stdout.items ≡ (if q then [] else told.stdout.items) in
      let Q : List ℕ → Type 0 = λ t. GivesUp t s in
      inl (told, refuses, subst Q (sym is ∙ subst P loud hushed.text) gives)
  refused_input text reason r s loud one is (inr (F, parsed, inl h)) gives = not_one r.status 10 one h.status (inl (omega arith))
  refused_input text reason r s loud one is (inr (F, parsed, inr (inl h))) gives = not_one r.status 20 one h.status (inl (omega arith))
  refused_input text reason r s loud one is (inr (F, parsed, inr (inr h))) gives = not_one r.status 0 one h.status (inr (omega arith))

  -- a fault of the input
  pub refused_so : {E : Type 0} (known : Option (List ℕ)) (reason : List ℕ) (r : Report) (result : Result Solved E) → d.quiet ≡ false → r.status ≡ 1 → r.stdout.items ≡ reason
      → HoldsOf known (λ text. DecidesInput L d has text r) → IfOk result (GivesUp reason) → IfOk result (Solves L d.asked has known)
  refused_so known reason r (Ok s) loud one is h gives =
      inr (of_map (λ text. DecidesInput L d has text r) (λ text. SolvesInput L d.asked has text s) known (λ text decides. refused_input text reason r s loud one is decides gives) h)
  refused_so known reason r (Err e) loud one is h gives = tt

  answered_input : (text : List ℕ) (r : Report) (s : Solved) → r.status ≢ 1 → s.report ≡ r → s.told.items ≡ [] → DecidesInput L d has text r → SolvesInput L d.asked has text s
  answered_input text r s other same empty (inl (told, (fault, parsed, prints), hushed)) = absurd (other (hushed.status ∙ prints.status_is))
  answered_input text r s other same empty (inr (F, parsed, h)) =
      let P : Report → Type 0 = λ t. DecidesTo F d.asked has t in
      inr (F, parsed, (subst P (sym same) h, empty))

  -- an answer
  pub answered_so : (known : Option (List ℕ)) (r : Report) (s : Solved) → r.status ≢ 1 → s.report ≡ r → s.told.items ≡ []
      → HoldsOf known (λ text. DecidesInput L d has text r) → Solves L d.asked has known s
  answered_so known r s other same empty h =
      inr (of_map (λ text. DecidesInput L d has text r) (λ text. SolvesInput L d.asked has text s) known (λ text decides. answered_input text r s other same empty decides) h)

-- ---- what the solver tells is true
input_true : Soundness → (L : Limits) → AreNoMore L large → (asked : Asked) (has : List ℕ → Type 0) (text : List ℕ) (s : Solved) → SolvesInput L asked has text s → IsTrueReport L text s.report
input_true sound L few asked has text s (inl (told, refuses, gives)) = other_true L text s.report 0 gives.prints.status_is (omega arith)
input_true sound L few asked has text s (inr (F, parsed, (h, empty))) = formula_true sound L text F (parse_spells_within L text F few parsed) asked has s.report h

pub solved_true : Soundness → (L : Limits) → AreNoMore L large → (asked : Asked) (has : List ℕ → Type 0) (known : Option (List ℕ)) (s : Solved)
    → Solves L asked has known s → HoldsOf known (λ text. IsTrueReport L text s.report)
solved_true sound L few asked has known s (inl (reason, is, gives)) =
    of_any (λ text. IsTrueReport L text s.report) known (λ text. other_true L text s.report 0 gives.prints.status_is (omega arith))
solved_true sound L few asked has known s (inr h) =
    of_map (λ text. SolvesInput L asked has text s) (λ text. IsTrueReport L text s.report) known (λ text is. input_true sound L few asked has text s is) h

pub all_true : {E : Type 0} → Soundness → (L : Limits) → AreNoMore L large → (asked : Asked) (has : List ℕ → Type 0) (known : Option (List ℕ)) (result : Result Solved E)
    → IfOk result (Solves L asked has known) → IfOk result (λ s. HoldsOf known (λ text. IsTrueReport L text s.report))
all_true sound L few asked has known (Ok s) h = solved_true sound L few asked has known s h
all_true sound L few asked has known (Err e) h = tt

-- ---- a proof that is kept nowhere
unkept_input : (L : Limits) (asked : Asked) (has : List ℕ → Type 0) (text : List ℕ) (s : Solved) → SolvesInput L asked has text s → SolvesInput L asked nowhere text s
unkept_input L asked has text s (inl h) = inl h
unkept_input L asked has text s (inr (F, parsed, (h, empty))) = inr (F, parsed, (decides_weaker F asked has nowhere s.report (λ is proof there. tt) h, empty))

pub unkept : (L : Limits) (asked : Asked) (has : List ℕ → Type 0) (known : Option (List ℕ)) (s : Solved) → Solves L asked has known s → Solves L asked nowhere known s
unkept L asked has known s (inl h) = inl h
unkept L asked has known s (inr h) =
    inr (of_map (λ text. SolvesInput L asked has text s) (λ text. SolvesInput L asked nowhere text s) known (λ text is. unkept_input L asked has text s is) h)

-- ---- MiniSat's result
apart : {A : Type 0} (m n k : ℕ) → m ≡ n → m ≡ k → n < k ⊎ k < n → A
apart m n k e f (inl l) = absurd (omega (arith, e, f, l))
apart m n k e f (inr l) = absurd (omega (arith, e, f, l))

-- an assignment is not printed
hidden : (F : Cnf) (limit : Option ℕ) (r : Report) → r.status ≢ 10 → DecidesTo F (asking limit true) nowhere r → DecidesTo F (asking limit false) nowhere r
hidden F limit r other (inl is) = absurd (other is.status)
hidden F limit r other (inr (inl is)) =
    inr (inl (record { status = is.status; proof = is.proof; proves = is.proves; there = is.there; counts = is.counts; counted = is.counted; bytes = is.bytes; text = is.text }))
hidden F limit r other (inr (inr is)) =
    inr (inr (record { status = is.status; named = is.named; limit = is.limit; log = is.log; learnt = is.learnt; conflict = is.conflict; counts = is.counts; counted = is.counted; conflicts = is.conflicts; bytes = is.bytes; text = is.text; proof = is.proof }))

hidden_input : (L : Limits) (limit : Option ℕ) (text : List ℕ) (s : Solved) → s.report.status ≢ 10 → SolvesInput L (asking limit true) nowhere text s → SolvesInput L (asking limit false) nowhere text s
hidden_input L limit text s other (inl h) = inl h
hidden_input L limit text s other (inr (F, parsed, (h, empty))) = inr (F, parsed, (hidden F limit s.report other h, empty))

hidden_so : (L : Limits) (limit : Option ℕ) (known : Option (List ℕ)) (s : Solved) → s.report.status ≢ 10 → Solves L (asking limit true) nowhere known s → Solves L (asking limit false) nowhere known s
hidden_so L limit known s other (inl h) = inl h
hidden_so L limit known s other (inr h) =
    inr (of_map (λ text. SolvesInput L (asking limit true) nowhere text s) (λ text. SolvesInput L (asking limit false) nowhere text s) known (λ text is. hidden_input L limit text s other is) h)

module _ (keeps : List ℕ → Type 0) (left : Type 0) (L : Limits) (limit : Option ℕ) (known : Option (List ℕ)) where
  -- the result could not be written
  unwritten : (s : Solved) → GivesUp no_result_text s → left → IsWritten keeps left L limit known s
  unwritten s gives stays =
      let none = gives.prints.status_is in
      record {
        solves = inl (no_result_text, inr (inr refl), gives);
        result = record {
          satisfiable = λ e. apart s.report.status 0 10 none e (inl (omega arith));
          unsatisfiable = λ e. apart s.report.status 0 20 none e (inl (omega arith));
          unknown = λ e. inl stays;
        };
      }

  -- the result was written beside this answer, or could not be
  pub written_so : {E : Type 0} (solved : Solved) (text : List ℕ) (result : Result Solved E) → IfOk result (λ s. ((s ≡ solved) × keeps text) ⊎ (GivesUp no_result_text s × left))
      → (keeps text → IsWritten keeps left L limit known solved) → IfOk result (IsWritten keeps left L limit known)
  written_so solved text (Ok s) (inl (same, stands)) f =
      let P : Solved → Type 0 = λ t. IsWritten keeps left L limit known t in
      subst P (sym same) (f stands)
  written_so solved text (Ok s) (inr (gives, stays)) f = unwritten s gives stays
  written_so solved text (Err e) h f = tt

  pub refuted_so : (s : Solved) → s.report.status ≡ 20 → Solves L (asking limit true) nowhere known s → keeps (codes "UNSAT\n") → IsWritten keeps left L limit known s
  refuted_so s is h stands = record {
    solves = hidden_so L limit known s (λ e. apart s.report.status 20 10 is e (inr (omega arith))) h;
    result = record {
      satisfiable = λ e. apart s.report.status 20 10 is e (inr (omega arith));
      unsatisfiable = λ e. stands;
      unknown = λ e. apart s.report.status 20 0 is e (inr (omega arith));
    };
  }

  pub unknown_so : (s : Solved) → s.report.status ≢ 10 → s.report.status ≢ 20 → Solves L (asking limit true) nowhere known s → left ⊎ keeps (codes "INDET\n") → IsWritten keeps left L limit known s
  unknown_so s one other h stands = record {
    solves = hidden_so L limit known s one h;
    result = record { satisfiable = λ e. absurd (one e); unsatisfiable = λ e. absurd (other e); unknown = λ e. stands };
  }

  -- of an answer that has an assignment the first line is printed, and the result kept
  module _ (few : AreNoMore L large) (old cut : Solved) (text : List ℕ) (ten : old.report.status ≡ 10) (told : cut.told.items ≡ old.told.items)
      (status : cut.report.status ≡ old.report.status) (proof : cut.report.proof ≡ old.report.proof) (first : cut.report.stdout.items ≡ take 14 old.report.stdout.items)
      (made : (values : List Bool) → length values ≤ 99999999 → old.report.stdout.items ≡ satisfied_lines values true → text ≡ sat_text values) where
    cut_input : (input : List ℕ) → SolvesInput L (asking limit true) nowhere input old → SolvesInput L (asking limit false) nowhere input cut
    cut_input input (inl (t, refuses, gives)) = apart old.report.status 0 10 gives.prints.status_is ten (inl (omega arith))
    cut_input input (inr (F, parsed, (inl is, empty))) =
        inr (
          F,
          parsed,
          (
            inl (record {
              status = status ∙ ten;
              values = is.values;
              whole = is.whole;
              satisfies = is.satisfies;
              counts = is.counts;
              log = is.log;
              counted = is.counted;
              bytes = is.bytes;
              text = first ∙ ap (take 14) is.text;
              proof = proof ∙ is.proof;
            }),
            told ∙ empty,
          ),
        )
    cut_input input (inr (F, parsed, (inr (inl is), empty))) = apart old.report.status 20 10 is.status ten (inr (omega arith))
    cut_input input (inr (F, parsed, (inr (inr is), empty))) = apart old.report.status 0 10 is.status ten (inl (omega arith))

    kept_input : keeps text → (input : List ℕ) → SolvesInput L (asking limit true) nowhere input old → IsSatisfiedBy keeps L input
    kept_input stands input (inl (t, refuses, gives)) = apart old.report.status 0 10 gives.prints.status_is ten (inl (omega arith))
    kept_input stands input (inr (F, parsed, (inl is, empty))) =
        let fits = (parse_spells_within L input F few parsed).2 in
        let few_values : length is.values ≤ 99999999 = omega (arith, is.whole, fits.vars, few.0) in
        let P : List ℕ → Type 0 = λ t. keeps t in
        (F, parsed, (is.values, is.whole, is.satisfies, subst P (made is.values few_values (is.text ∙ append-nil (satisfied_lines is.values true))) stands))
    kept_input stands input (inr (F, parsed, (inr (inl is), empty))) = apart old.report.status 20 10 is.status ten (inr (omega arith))
    kept_input stands input (inr (F, parsed, (inr (inr is), empty))) = apart old.report.status 0 10 is.status ten (inl (omega arith))

    pub satisfied_so : Solves L (asking limit true) nowhere known old → keeps text → IsWritten keeps left L limit known cut
    satisfied_so (inl (reason, is, gives)) stands = apart old.report.status 0 10 gives.prints.status_is ten (inl (omega arith))
    satisfied_so (inr h) stands = record {
      solves = inr (of_map (λ input. SolvesInput L (asking limit true) nowhere input old) (λ input. SolvesInput L (asking limit false) nowhere input cut) known cut_input h);
      result = record {
        satisfiable = λ e. of_map (λ input. SolvesInput L (asking limit true) nowhere input old) (IsSatisfiedBy keeps L) known (kept_input stands) h;
        unsatisfiable = λ e. apart cut.report.status 10 20 (status ∙ ten) e (inl (omega arith));
        unknown = λ e. apart cut.report.status 10 0 (status ∙ ten) e (inr (omega arith));
      };
    }
