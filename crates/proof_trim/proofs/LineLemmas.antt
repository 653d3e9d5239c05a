-- The number of lines, counted by LFs.
use Rattle.std.proofs.Common.{◌≡◌, ℕ, zero, suc, ◌+◌, ◌<◌, ◌≤◌, ◌==◌, Bool, cond, List, [], ◌∷◌, ◌++◌, length, take, drop, refl, sym, ◌∙◌, ap, arith, length-append}
use Rattle.std.specs.List.{count_by}
use Rattle.std.proofs.lemmas.List.{drop-drop, length-drop}
use Rattle.std.proofs.lemmas.List.Sums.{sum_by-append, count_by-le-length}
use Rattle.lrat_text.specs.Grammar.{LineSpellsWithin}
use Rattle.lrat_text.specs.Log.{additions}
use Rattle.lrat_text.specs.declared.step.Step.{Step}
use Rattle.lrat_text.specs.declared.step.Step.TheVariants.{Add, Delete}

abbrev is_lf : ℕ → Bool
is_lf b = b == 10

front_rest : (n : ℕ) (xs : List ℕ) → take n xs ++ drop (length (take n xs)) xs ≡ xs
front_rest zero xs = refl
front_rest (suc n) [] = refl
front_rest (suc n) (x ∷ xs) = ap (λ (ys : List ℕ). x ∷ ys) (front_rest n xs)

-- what is left is a block and what is left after it
block_rest : (more text : List ℕ) (from n most : ℕ) → more ≡ take most (drop from text) → n ≡ length more → more ++ drop (from + n) text ≡ drop from text
block_rest more text from n most is len =
    ap (λ (k : ℕ). more ++ drop (from + k) text) len
    ∙ ap (λ (t : List ℕ). more ++ t) (sym (drop-drop (length more) from text))
    ∙ ap (λ (m : List ℕ). m ++ drop (length m) (drop from text)) is
    ∙ front_rest most (drop from text)

-- a block ends within the text
pub block_inside : (more text : List ℕ) (from n most : ℕ) → more ≡ take most (drop from text) → n ≡ length more → from < length text → from + n ≤ length text
block_inside more text from n most is len lt =
    let whole : length more + length (drop (from + n) text) ≡ length (drop from text) =
    sym (length-append more (drop (from + n) text)) ∙ ap length (block_rest more text from n most is len) in
    omega (arith, len, whole, length-drop from text, lt)

-- a block's LFs and those that are left after it
pub block_counted : (more text : List ℕ) (from n most : ℕ) → more ≡ take most (drop from text) → n ≡ length more
    → count_by (λ b. b == 10) more + count_by (λ b. b == 10) (drop (from + n) text) ≡ count_by (λ b. b == 10) (drop from text)
block_counted more text from n most is len =
    sym (sum_by-append (λ b. cond (is_lf b) 1 0) more (drop (from + n) text))
    ∙ ap (λ (t : List ℕ). count_by is_lf t) (block_rest more text from n most is len)

-- one block more is counted
pub block_more : (lines n here rest left all : ℕ) → n ≡ here → here + rest ≡ left → lines + left ≡ all → lines + n + rest ≡ all
block_more lines n here rest left all e f g = omega arith

-- there are no more LFs than bytes
pub lines_fit : (lines n here rest left : ℕ) (text : List ℕ) → n ≡ here → here + rest ≡ left → lines + left ≡ count_by (λ b. b == 10) text → lines + n ≤ length text
lines_fit lines n here rest left text e f g = let few : count_by is_lf text ≤ length text = count_by-le-length is_lf text in omega arith

-- each step's line has an LF
pub steps_few : (most : ℕ) (text : List ℕ) (steps : List Step) → LineSpellsWithin most text steps → length steps ≤ count_by (λ b. b == 10) text
steps_few most text [] spelled = omega arith
steps_few most text (step ∷ steps) (own, rest, splits, one, spells, more) =
    let later = steps_few most rest steps more in
    let lf_more : count_by is_lf (10 ∷ rest) ≡ 1 + count_by is_lf rest = sum_by-append (λ b. cond (is_lf b) 1 0) (10 ∷ []) rest in
    let whole : count_by is_lf text ≡ count_by is_lf own + (1 + count_by is_lf rest) =
    ap (λ (t : List ℕ). count_by is_lf t) splits ∙ sum_by-append (λ b. cond (is_lf b) 1 0) own (10 ∷ rest) ∙ ap (λ (k : ℕ). count_by is_lf own + k) lf_more in
    omega arith

-- not each step is an addition
pub additions_few : (steps : List Step) → additions steps ≤ length steps
additions_few [] = omega arith
additions_few (Add id lits hints groups ∷ steps) = let r = additions_few steps in omega arith
additions_few (Delete ids ∷ steps) = let r = additions_few steps in omega arith
