-- Small proofs and the steps that they spell.
use Rattle.std.proofs.Common.{◌≡◌, ◌≢◌, true, ℕ, List, [], ◌∷◌, ◌++◌, codes, refl, arith}
use Rattle.std.proofs.lemmas.List.Elements.{All-nil, All-cons}
use Rattle.dimacs.specs.logic.Literal.{Pos, Neg}
use Rattle.dimacs.specs.text.Words.{is_white}
use Rattle.drat_forms.specs.Grammar.{DratStep, Add, Delete, nothing, comment, FirstWord, Spells}

word : (w : List ℕ) (b : ℕ) (rest : List ℕ) → is_white b ≡ true → FirstWord (w ++ b ∷ rest) w rest
word w b rest e = record { gap = []; behind = b; between = nothing; ended = e; split = refl }

-- a zero before a number, and bytes behind the empty clause
pub text : Spells 2 (codes "01 -2 0\n0\nany") (Add (Pos 1 ∷ Neg 2 ∷ []) ∷ Add [] ∷ [])
text = (
  codes "0\nany\n",
  (
    codes "01",
    codes "-2 0\n0\nany\n",
    word (codes "01") 32 (codes "-2 0\n0\nany\n") refl,
    refl,
    (omega arith, omega arith),
    (
      codes "-2",
      codes "0\n0\nany\n",
      word (codes "-2") 32 (codes "0\n0\nany\n") refl,
      (codes "2", refl, refl),
      (omega arith, omega arith),
      (codes "0", word (codes "0") 10 (codes "0\nany\n") refl, refl),
    ),
  ),
  (codes "any\n", (codes "0", word (codes "0") 10 (codes "any\n") refl, refl), refl),
)

-- a comment in the middle of a step, and no LF at the end
pub middle : Spells 2 (codes "c\n1 cx\n0") (Add (Pos 1 ∷ []) ∷ [])
middle = (
  [],
  (
    codes "1",
    codes "cx\n0\n",
    record { gap = codes "c\n"; behind = 32; between = comment [] [] (All-nil _) nothing; ended = refl; split = refl },
    refl,
    (omega arith, omega arith),
    (codes "0", record { gap = codes "cx\n"; behind = 10; between = comment (codes "x") [] (All-cons (λ (b : ℕ). b ≢ 10) 120 [] (λ e. omega (arith, e)) (All-nil (λ (b : ℕ). b ≢ 10))) nothing; ended = refl; split = refl }, refl),
  ),
  nothing,
)

-- a number of two bytes
pub binary : Spells 65 (97 ∷ 2 ∷ 5 ∷ 0 ∷ 100 ∷ 130 ∷ 1 ∷ 0 ∷ []) (Add (Pos 1 ∷ Neg 2 ∷ []) ∷ Delete (Pos 65 ∷ []) ∷ [])
binary = (
  100 ∷ 130 ∷ 1 ∷ 0 ∷ [],
  (
    2 ∷ 5 ∷ 0 ∷ 100 ∷ 130 ∷ 1 ∷ 0 ∷ [],
    refl,
    (
      2 ∷ [],
      5 ∷ 0 ∷ 100 ∷ 130 ∷ 1 ∷ 0 ∷ [],
      refl,
      (omega arith, refl),
      (omega arith, omega arith),
      (5 ∷ [], 0 ∷ 100 ∷ 130 ∷ 1 ∷ 0 ∷ [], refl, (omega arith, refl), (omega arith, omega arith), refl),
    ),
  ),
  ([], (130 ∷ 1 ∷ 0 ∷ [], refl, (130 ∷ 1 ∷ [], 0 ∷ [], refl, (omega arith, 1, omega arith, refl, (omega arith, refl)), (omega arith, omega arith), refl)), refl),
)

-- bytes that do not tell their form spell nothing
pub untold : (steps : List DratStep) → Spells 2 (codes "d 0") steps → ⊥
untold steps h = h
