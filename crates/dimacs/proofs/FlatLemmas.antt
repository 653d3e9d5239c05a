-- The parts of a list.
use Rattle.std.proofs.Common.{◌≡◌, ℕ, zero, suc, ◌+◌, ◌-◌, ◌<◌, ◌≤◌, List, [], ◌∷◌, length, get_or, take, drop, refl, arith}
use Rattle.std.proofs.lemmas.List.{get_or_read}
use Rattle.dimacs.specs.logic.Literal.{Literal}
use Rattle.dimacs.specs.layout.Flat.{parts, ArePlaces}

pub length_parts : (xs : List Literal) (places : List ℕ) → length (parts xs places) ≡ length places - 1
length_parts xs [] = refl
length_parts xs (a ∷ []) = omega arith
length_parts xs (a ∷ b ∷ places) = omega (arith, length_parts xs (b ∷ places))

parts_at_suc : (xs : List Literal) (places : List ℕ) (i : ℕ) → suc i < length places
    → get_or (parts xs places) i [] ≡ take (get_or places (suc i) 0 - get_or places i 0) (drop (get_or places i 0) xs)
parts_at_suc xs [] i h = absurd (omega arith)
parts_at_suc xs (a ∷ []) i h = absurd (omega arith)
parts_at_suc xs (a ∷ b ∷ places) zero h = refl
parts_at_suc xs (a ∷ b ∷ places) (suc i) h = parts_at_suc xs (b ∷ places) i (omega arith)

pub parts_at : (xs : List Literal) (places : List ℕ) (i j a b : ℕ) → j ≡ i + 1 → j < length places → a ≡ get_or places i 0 → b ≡ get_or places j 0
    → get_or (parts xs places) i [] ≡ take (b - a) (drop a xs)
parts_at xs places i j a b e h p q =
    let k : j ≡ suc i = omega arith in
    let s : suc i < length places = omega arith in
    rw (p, q, k) (parts_at_suc xs places i s)

-- places rise
pub places_rise : (places : List ℕ) (len i j a b : ℕ) → ArePlaces places len → j ≡ i + 1 → j < length places → a ≡ get_or places i a → b ≡ get_or places j b → a ≤ b
places_rise places len i j a b h e lt p q =
    let r : get_or places i 0 ≤ get_or places (i + 1) 0 = h.rise i (omega arith) in
    let x = get_or_read places i a (omega arith) p 0 in
    let y = get_or_read places j b (omega arith) q 0 in
    let z : get_or places j 0 ≡ get_or places (i + 1) 0 = rw e refl in
    omega arith

pub ruleset flat = (length_parts, parts_at, places_rise)
