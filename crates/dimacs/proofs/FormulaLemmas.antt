-- Clauses that lie one after the other in a list.
use Rattle.std.proofs.Common.{◌≡◌, ℕ, suc, ◌+◌, ◌-◌, ◌≤◌, List, [], ◌∷◌, length, take, drop, arith, length-take, length-drop}
use Rattle.dimacs.specs.logic.Literal.{Literal, IsWithin}
use Rattle.dimacs.specs.logic.Cnf.{literal_count, IsFormula}
use Rattle.std.specs.List.{All}
use Rattle.std.proofs.lemmas.List.Elements.{All-cons, All-drop, All-nil, All-take}
use Rattle.dimacs.specs.layout.Flat.{parts, ArePlaces}
use Rattle.dimacs.proofs.FlatLemmas.{length_parts}

-- after the first place
pub places_tail : (a b : ℕ) (places : List ℕ) (len : ℕ) → ArePlaces (a ∷ b ∷ places) len → ArePlaces (b ∷ places) len
places_tail a b places len h = record {
  some = omega arith;
  rise = λ i lt. let e : suc i + 1 ≡ suc (i + 1) = omega arith in rw e at (h.rise (suc i) (omega arith));
  inside = λ i lt. h.inside (suc i) (omega arith);
}

parts_count : (xs : List Literal) (a : ℕ) (places : List ℕ) → ArePlaces (a ∷ places) (length xs) → literal_count (parts xs (a ∷ places)) + a ≤ length xs
parts_count xs a [] h = omega (arith, h.inside 0 (omega arith))
parts_count xs a (b ∷ places) h =
    let low : a ≤ b = h.rise 0 (omega arith) in
    let high : b ≤ length xs = h.inside 1 (omega arith) in
    omega (arith, parts_count xs b places (places_tail a b places (length xs) h), length-take (b - a) (drop a xs), length-drop a xs)

pub parts_within : (P : Literal → Type 0) (xs : List Literal) (places : List ℕ) → All P xs → All (All P) (parts xs places)
parts_within P xs [] h = All-nil (All P)
parts_within P xs (a ∷ []) h = All-nil (All P)
parts_within P xs (a ∷ b ∷ places) h = All-cons (All P) (take (b - a) (drop a xs)) (parts xs (b ∷ places)) (All-take P (b - a) (drop a xs) (All-drop P a xs h)) (parts_within P xs (b ∷ places) h)

count_le : (xs : List Literal) (places : List ℕ) → ArePlaces places (length xs) → literal_count (parts xs places) ≤ length xs
count_le xs [] h = omega arith
count_le xs (a ∷ places) h = omega (arith, parts_count xs a places h)

-- a formula that lies in two lists is within the limits
pub is_formula : (vars n : ℕ) (xs : List Literal) (places : List ℕ) → n ≡ length xs → vars ≤ 99999999 → ArePlaces places n → length places ≤ 100000000 → n ≤ 999999999 → All (IsWithin vars) xs → IsFormula (record { vars = vars; clauses = parts xs places })
is_formula vars n xs places e v h count total w =
    let at : ArePlaces places (length xs) = rw e at h in
    record { vars = v; clauses = omega (arith, length_parts xs places); literals = omega (arith, count_le xs places at); within = parts_within (IsWithin vars) xs places w }
