-- One more clause after the clauses of a list.
use Rattle.std.proofs.Common.{◌≡◌, ℕ, ◌+◌, ◌-◌, ◌≤◌, ◌<◌, List, [], ◌∷◌, ◌++◌, length, drop, refl, ◌∙◌, arith, length-append, length-take, length-drop}
use Rattle.std.proofs.Math.Seq.{drop-append_seam}
use Rattle.std.proofs.lemmas.List.{get_or_append_left}
use Rattle.dimacs.specs.logic.Literal.{Literal, Clause}
use Rattle.dimacs.specs.logic.Cnf.{literal_count}
use Rattle.dimacs.specs.layout.Flat.{parts, ArePlaces, last_place, Fills}
use Rattle.dimacs.proofs.FormulaLemmas.{places_tail}
use Rattle.dimacs.proofs.BuilderLemmas.{parts_append, parts_end, last_cons, last_push, places_push, places_longer}

count_behind : (xs : List Literal) (a : ℕ) (places : List ℕ) → ArePlaces (a ∷ places) (length xs) → literal_count (parts xs (a ∷ places)) + a ≡ last_place (a ∷ places)
count_behind xs a [] h = omega arith
count_behind xs a (b ∷ places) h =
    let low : a ≤ b = h.rise 0 (omega arith) in
    let high : b ≤ length xs = h.inside 1 (omega arith) in
    rw (last_cons a b places) (omega (arith, count_behind xs b places (places_tail a b places (length xs) h), length-take (b - a) (drop a xs), length-drop a xs))

-- parts that fill a list have all its literals
pub fills_count : (xs : List Literal) (places : List ℕ) → Fills xs places → literal_count (parts xs places) ≡ length xs
fills_count xs [] h = absurd (omega (arith, h.rise.some))
fills_count xs (a ∷ places) h = omega (arith, count_behind xs a places h.rise, h.begins, h.ends)

-- a clause after them
pub fills_push : (xs : List Literal) (places : List ℕ) (n : ℕ) (C : Clause) → n ≡ length xs → Fills xs places → Fills (xs ++ C) (places ++ (n + length C) ∷ [])
fills_push xs places n C e h =
    let some : 0 < length places = h.rise.some in
    let end : n + length C ≡ length (xs ++ C) = omega (arith, length-append xs C) in
    let low : length xs ≤ length (xs ++ C) = omega arith in
    rw end record {
      rise = places_push places (length (xs ++ C)) (length (xs ++ C)) refl (places_longer places (length xs) (length (xs ++ C)) low h.rise);
      begins = rw (get_or_append_left places (length (xs ++ C) ∷ []) 0 0 some) h.begins;
      ends = last_push places (length (xs ++ C));
    }

pub parts_push : (xs : List Literal) (places : List ℕ) (n : ℕ) (C : Clause) → n ≡ length xs → Fills xs places → parts (xs ++ C) (places ++ (n + length C) ∷ []) ≡ parts xs places ++ C ∷ []
parts_push xs places n C e h =
    let end : n + length C ≡ length (xs ++ C) = omega (arith, length-append xs C) in
    let longer = places_longer places (length xs) (n + length C) (omega arith) h.rise in
    parts_end (xs ++ C) places (n + length C) end longer ∙ rw (parts_append xs C places h.rise, h.ends, drop-append_seam xs C) refl

pub ruleset pushes = (fills_push, parts_push)
