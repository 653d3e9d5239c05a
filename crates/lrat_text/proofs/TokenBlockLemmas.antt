-- Tokens that are written from the end of a room on.
use Rattle.std.proofs.Common.{◌≡◌, ℕ, ◌+◌, ◌-◌, ◌≤◌, List, ◌∷◌, ◌++◌, length, length-set, set, take, drop, sym, ap, ◌∙◌, arith, append_assoc}
use Rattle.std.specs.List.{flat_map}
use Rattle.std.proofs.lemmas.Grind.{flat_map-append}
use Rattle.std.proofs.lemmas.List.{drop-set}
use Rattle.std.proofs.Math.Seq.{take-add}

-- one byte more, before what stands from a place on
pub byte_before : (room word rest : List ℕ) (w b : ℕ) → 1 ≤ w → w ≤ length room → drop w room ≡ word ++ rest → drop (w - 1) (set room (w - 1) b) ≡ (b ∷ word) ++ rest
byte_before room word rest w b some inside h =
    let at : w - 1 + 1 ≡ w = omega arith in
    drop-set room (w - 1) b (omega arith) ∙ ap (λ n. b ∷ drop n room) at ∙ ap (λ (x : List ℕ). b ∷ x) h

-- two bytes more
pub two_before : (room word rest : List ℕ) (w a b : ℕ) → 2 ≤ w → w ≤ length room → drop w room ≡ word ++ rest
    → drop (w - 2) (set (set room (w - 1) b) (w - 2) a) ≡ (a ∷ b ∷ word) ++ rest
two_before room word rest w a b some inside h =
    let at : w - 2 ≡ w - 1 - 1 = omega arith in
    let one = byte_before room word rest w b (omega arith) inside h in
    rw at (byte_before (set room (w - 1) b) (b ∷ word) rest (w - 1) a (omega arith) (omega (arith, length-set room (w - 1) b)) one)

module _ {X : Type 0} (f : X → List ℕ) where
  -- some tokens more, after those of the first elements
  pub tokens_behind : (old : List ℕ) (xs : List X) (i k : ℕ) → (old ++ flat_map f (take i xs)) ++ flat_map f (take k (drop i xs)) ≡ old ++ flat_map f (take (i + k) xs)
  tokens_behind old xs i k =
      append_assoc old (flat_map f (take i xs)) (flat_map f (take k (drop i xs)))
      ∙ ap (λ (t : List ℕ). old ++ t) (sym (flat_map-append f (take i xs) (take k (drop i xs))) ∙ ap (flat_map f) (sym (take-add i k xs)))
