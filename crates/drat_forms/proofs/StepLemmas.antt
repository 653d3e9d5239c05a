-- Steps that are half read, and tests that decide to which place a byte leads.
use Rattle.std.proofs.Common.{◌≡◌, ℕ, Bool, true, false, cond, List, [], ◌∷◌, ◌++◌, map, Result, refl, ap, ◌∙◌}
use Rattle.dimacs.specs.logic.Literal.{Literal, index_of}
use Rattle.drat_forms.specs.Grammar.{DratStep, words_of}
use Rattle.drat_forms.specs.Moves.{with_literal}
use Rattle.drat_forms.specs.declared.fault.DratFault.{DratFault}
use Rattle.drat_forms.specs.declared.moves.Moved.{Moved}
use Rattle.drat_forms.specs.declared.place.Begun.{Begun}
use Rattle.drat_forms.specs.declared.place.Begun.TheVariants.{Nothing, Addition, Deletion}
use Rattle.drat_forms.proofs.SpelledSoFar.{end_word, GoesOn, StepGoesOn, StepEnds, LiteralCame, FromMove}

-- ---- steps

module _ (Literals : List ℕ → List Literal → List ℕ → Type 0) (Steps : List ℕ → List DratStep → Type 0) where
  pub ends_here : (begun : Begun) (bytes rest words : List ℕ) → Literals bytes [] rest → StepEnds Steps begun rest words → StepGoesOn Literals Steps begun bytes words
  ends_here begun bytes rest words spelled h = record { literals = []; rest = rest; steps = h.steps; spelled = spelled; later = h.later; is = h.is }

  with_later : (begun : Begun) (l : Literal) (literals : List Literal) (rest : List ℕ) (steps : List DratStep) → GoesOn Steps (with_literal begun) literals rest steps → GoesOn Steps begun (l ∷ literals) rest steps
  with_later Nothing l literals rest steps h = h
  with_later Addition l literals rest steps h = h
  with_later Deletion l literals rest steps h = h

  same_end : (begun : Begun) → end_word (with_literal begun) ≡ end_word begun
  same_end Nothing = refl
  same_end Addition = refl
  same_end Deletion = refl

  pub literal_here : (begun : Begun) (most : ℕ) (l : Literal) (bytes more words : List ℕ) → ((literals : List Literal) (rest : List ℕ) → Literals more literals rest → Literals bytes (l ∷ literals) rest)
      → LiteralCame Literals Steps most (with_literal begun) l more words → StepGoesOn Literals Steps begun bytes words
  literal_here begun most l bytes more words before h = record {
    literals = l ∷ h.goes_on.literals;
    rest = h.goes_on.rest;
    steps = h.goes_on.steps;
    spelled = before h.goes_on.literals h.goes_on.rest h.goes_on.spelled;
    later = with_later begun l h.goes_on.literals h.goes_on.rest h.goes_on.steps h.goes_on.later;
    is = h.is ∙ ap (λ (xs : List ℕ). index_of l ∷ xs) (h.goes_on.is ∙ ap (λ (w : ℕ). map index_of h.goes_on.literals ++ w ∷ words_of h.goes_on.steps) (same_end begun));
  }

-- ---- tests

pub by_test : (most : ℕ) (P : Type 0) (bytes words : List ℕ) (c : Bool) (x y : Result Moved DratFault) → FromMove most (cond c x y) bytes words → (c ≡ true → FromMove most x bytes words → P) → (c ≡ false → FromMove most y bytes words → P) → P
by_test most P bytes words true x y h f g = f refl h
by_test most P bytes words false x y h f g = g refl h
