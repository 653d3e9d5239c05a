-- Words are those of one list of steps at most, and so bytes spell one at most.
use Rattle.std.proofs.Common.{◌≡◌, ℕ, ◌+◌, ◌*◌, ◌/◌, ◌%◌, ◌≤◌, ◌==◌, cond, List, [], ◌∷◌, ◌++◌, map, Option, Some, None, refl, sym, ap, subst, ◌∙◌, arith, append_assoc, append-nil}
use Rattle.std.proofs.lemmas.Bool.{eq-eqb, ne_eqb, cond-true, cond-false}
use Rattle.dimacs.specs.logic.Literal.{Literal, Pos, Neg, IsWithin, index_of, literal_of}
use Rattle.drat_forms.specs.Form.{form_of}
use Rattle.drat_forms.specs.Grammar.{DratStep, Add, Delete, SpellsSteps, IsGap, TextLiterals, TextStep, BinaryLiterals, BinaryStep, SpellsIn, Spells, words_of}
use Rattle.drat_forms.specs.Reading.{Reading, ends}
use Rattle.drat_forms.specs.Whole.{GivesWords}
use Rattle.drat_forms.specs.declared.form.Form.{Form}
use Rattle.drat_forms.specs.declared.form.Form.TheVariants.{Text, Binary}
use Rattle.drat_forms.proofs.FoundLemmas.{same_ok}
use Rattle.drat_forms.proofs.WholeSpelledLemmas.{spelled_whole}

-- ---- the steps of words

-- the steps of these words, if these literals of the first step came before them
abbrev steps_of : List Literal → List ℕ → List DratStep
steps_of came [] = []
steps_of came (w ∷ words) = cond (w == 0) (Add came ∷ steps_of [] words) (cond (w == 1) (Delete came ∷ steps_of [] words) (steps_of (came ++ literal_of w ∷ []) words))

-- the literals have variables from 1
abbrev AreLiterals : List Literal → Type 0
AreLiterals [] = Unit {0}
AreLiterals (l ∷ literals) = (2 ≤ index_of l) × AreLiterals literals

abbrev AreSteps : List DratStep → Type 0
AreSteps [] = Unit {0}
AreSteps (Add literals ∷ steps) = AreLiterals literals × AreSteps steps
AreSteps (Delete literals ∷ steps) = AreLiterals literals × AreSteps steps

literal_back : (l : Literal) → literal_of (index_of l) ≡ l
literal_back (Pos v) = cond-true ((2 * v) % 2 == 0) (Pos ((2 * v) / 2)) (Neg ((2 * v) / 2)) (eq-eqb ((2 * v) % 2) 0 (omega arith)) ∙ ap Pos (let h : (2 * v) / 2 ≡ v = omega arith in h)
literal_back (Neg v) =
    cond-false ((2 * v + 1) % 2 == 0) (Pos ((2 * v + 1) / 2)) (Neg ((2 * v + 1) / 2)) (ne_eqb ((2 * v + 1) % 2) 0 (λ e. omega arith)) ∙ ap Neg (let h : (2 * v + 1) / 2 ≡ v = omega arith in h)

literals_back : (literals came : List Literal) (words : List ℕ) → AreLiterals literals → steps_of came (map index_of literals ++ words) ≡ steps_of (came ++ literals) words
literals_back [] came words h = ap (λ (ls : List Literal). steps_of ls words) (sym (append-nil came))
literals_back (l ∷ literals) came words h =
    let rest : List ℕ = map index_of literals ++ words in
    cond-false (index_of l == 0) (Add came ∷ steps_of [] rest) (cond (index_of l == 1) (Delete came ∷ steps_of [] rest) (steps_of (came ++ literal_of (index_of l) ∷ []) rest)) (ne_eqb (index_of l) 0 (λ e. omega (arith, e, h.0)))
    ∙ cond-false (index_of l == 1) (Delete came ∷ steps_of [] rest) (steps_of (came ++ literal_of (index_of l) ∷ []) rest) (ne_eqb (index_of l) 1 (λ e. omega (arith, e, h.0)))
    ∙ ap (λ (x : Literal). steps_of (came ++ x ∷ []) rest) (literal_back l) ∙ literals_back literals (came ++ l ∷ []) words h.1 ∙ ap (λ (ls : List Literal). steps_of ls words) (append_assoc came (l ∷ []) literals)

steps_back : (steps : List DratStep) → AreSteps steps → steps_of [] (words_of steps) ≡ steps
steps_back [] h = refl
steps_back (Add literals ∷ steps) h = literals_back literals [] (0 ∷ words_of steps) h.0 ∙ ap (λ (ss : List DratStep). Add literals ∷ ss) (steps_back steps h.1)
steps_back (Delete literals ∷ steps) h = literals_back literals [] (1 ∷ words_of steps) h.0 ∙ ap (λ (ss : List DratStep). Delete literals ∷ ss) (steps_back steps h.1)

-- ---- the literals of steps that are spelled

module _ (most : ℕ) where
  is_literal : (l : Literal) → IsWithin most l → 2 ≤ index_of l
  is_literal (Pos v) h = omega (arith, h.0)
  is_literal (Neg v) h = omega (arith, h.0)

  text_literals : (literals : List Literal) (bytes rest : List ℕ) → TextLiterals most bytes literals rest → AreLiterals literals
  text_literals [] bytes rest h = tt
  text_literals (l ∷ literals) bytes rest h = (is_literal l h.4, text_literals literals h.1 rest h.5)

  binary_literals : (literals : List Literal) (bytes rest : List ℕ) → BinaryLiterals most bytes literals rest → AreLiterals literals
  binary_literals [] bytes rest h = tt
  binary_literals (l ∷ literals) bytes rest h = (is_literal l h.4, binary_literals literals h.1 rest h.5)

  text_steps : (steps : List DratStep) (bytes : List ℕ) → SpellsSteps (TextStep most) IsGap bytes steps → AreSteps steps
  text_steps [] bytes h = tt
  text_steps (Add [] ∷ steps) bytes h = (tt, subst AreSteps (sym h.2) tt)
  text_steps (Add (l ∷ literals) ∷ steps) bytes h = (text_literals (l ∷ literals) bytes h.0 h.1, text_steps steps h.0 h.2)
  text_steps (Delete literals ∷ steps) bytes h = (text_literals literals h.1.0 h.0 h.1.2, text_steps steps h.0 h.2)

  binary_steps : (steps : List DratStep) (bytes : List ℕ) → SpellsSteps (BinaryStep most) (λ left. left ≡ []) bytes steps → AreSteps steps
  binary_steps [] bytes h = tt
  binary_steps (Add [] ∷ steps) bytes h = (tt, subst AreSteps (sym h.2) tt)
  binary_steps (Add (l ∷ literals) ∷ steps) bytes h = (binary_literals (l ∷ literals) h.1.0 h.0 h.1.2, binary_steps steps h.0 h.2)
  binary_steps (Delete literals ∷ steps) bytes h = (binary_literals literals h.1.0 h.0 h.1.2, binary_steps steps h.0 h.2)

  are_steps : (form : Option Form) (bytes : List ℕ) (steps : List DratStep) → SpellsIn form most bytes steps → AreSteps steps
  are_steps None bytes steps h = absurd h
  are_steps (Some Text) bytes steps h = text_steps steps (bytes ++ 10 ∷ []) h
  are_steps (Some Binary) bytes steps h = binary_steps steps bytes h

  -- ---- one list

  gives_one : (bytes words others : List ℕ) → GivesWords most bytes words → GivesWords most bytes others → words ≡ others
  gives_one bytes words others h k =
      let same : h.taken ≡ k.taken = same_ok h.taken k.taken (sym h.takes_all ∙ k.takes_all) in
      let end : h.ended ≡ k.ended = same_ok h.ended k.ended (sym h.ends_there ∙ ap (λ (r : Reading). ends r.form r) same ∙ k.ends_there) in
      sym h.gives ∙ ap (λ (r : Reading). r.words) end ∙ k.gives

  pub spells_one : (bytes : List ℕ) (steps others : List DratStep) → most ≤ 199999999 → Spells most bytes steps → Spells most bytes others → steps ≡ others
  spells_one bytes steps others bounded h k =
      sym (steps_back steps (are_steps (form_of bytes) bytes steps h))
      ∙ ap (steps_of []) (gives_one bytes (words_of steps) (words_of others) (spelled_whole most bytes steps bounded h) (spelled_whole most bytes others bounded k))
      ∙ steps_back others (are_steps (form_of bytes) bytes others k)
