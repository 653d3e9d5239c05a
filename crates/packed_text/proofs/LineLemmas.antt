-- What is left of a packed text, line by line.
use Rattle.std.proofs.Common.{◌≡◌, ℕ, zero, suc, ◌+◌, ◌<◌, ◌≤◌, List, [], ◌∷◌, ◌++◌, length, take, drop, refl, sym, ap, ◌∙◌, append_assoc, length-append, arith}
use Rattle.std.proofs.lemmas.List.{drop-drop, length-drop}
use Rattle.lrat_text.specs.Lines.{IsCut}

front_rest : (n : ℕ) (xs : List ℕ) → take n xs ++ drop (length (take n xs)) xs ≡ xs
front_rest zero xs = refl
front_rest (suc n) [] = refl
front_rest (suc n) (x ∷ xs) = ap (λ (ys : List ℕ). x ∷ ys) (front_rest n xs)

-- a block ends within the text
pub block_inside : (more text : List ℕ) (from n count : ℕ) → more ≡ take count (drop from text) → n ≡ length more → from < length text → from + n ≤ length text
block_inside more text from n count is len lt =
    let whole : length (take count (drop from text)) + length (drop (length (take count (drop from text))) (drop from text)) ≡ length (drop from text) =
    sym (length-append (take count (drop from text)) (drop (length (take count (drop from text))) (drop from text))) ∙ ap length (front_rest count (drop from text)) in
    omega (arith, len ∙ ap length is, whole, length-drop from text, lt)

-- a block more is unpacked, and the line goes on after the block before
pub next_block : (line left more text whole : List ℕ) (from n count : ℕ) → more ≡ take count (drop from text) → n ≡ length more → line ++ (left ++ drop from text) ≡ whole
    → (line ++ left) ++ (more ++ drop (from + n) text) ≡ whole
next_block line left more text whole from n count is len e =
    let rest : more ++ drop (from + n) text ≡ drop from text =
    ap (λ (k : ℕ). more ++ drop (from + k) text) len
    ∙ ap (λ (t : List ℕ). more ++ t) (sym (drop-drop (length more) from text))
    ∙ ap (λ (m : List ℕ). m ++ drop (length m) (drop from text)) is
    ∙ front_rest count (drop from text) in
    append_assoc line left (more ++ drop (from + n) text) ∙ ap (λ (t : List ℕ). line ++ (left ++ t)) rest ∙ e

-- the line ends in the block
pub line_ends : (line left new later rest whole : List ℕ) → IsCut (line ++ left) new later → line ++ (left ++ rest) ≡ whole → IsCut whole new (later ++ rest)
line_ends line left new later rest whole cut e =
    (sym e ∙ sym (append_assoc line left rest) ∙ ap (λ (t : List ℕ). t ++ rest) cut.0 ∙ append_assoc new (10 ∷ later) rest, cut.1)
