-- A cube grows by one literal.
use Rattle.std.proofs.Common.{◌≡◌, ◌<◌, Bool, true, false, not, eqb, ltb, leb, List, [], ◌∷◌, ◌++◌, length, map, refl, arith, length-append}
use Rattle.std.specs.Prelude.{nat_eq, ◌&&◌, ◌||◌}
use Rattle.std.specs.List.{AllByRecursion, IsDistinct, list_any}
use Rattle.std.proofs.lemmas.Bool.{ltb-true, leb-true}
use Rattle.std.proofs.lemmas.List.Elements.{All-from_recursion, recursion_from_All}
use Rattle.dimacs.specs.logic.Literal.{Literal, var_of, IsWithin}
use Rattle.frames.specs.Cubes.{IsCube, names, takes}

pub empty_cube : IsCube []
unfolding IsDistinct
empty_cube = record { short = omega arith; within = All-from_recursion (IsWithin 2000000) [] tt; distinct = tt }

pub all_more : {A : Type 0} (P : A → Type 0) (xs : List A) (x : A) → AllByRecursion P xs → P x → AllByRecursion P (xs ++ x ∷ [])
all_more P [] x h p = (p, tt)
all_more P (y ∷ ys) x h p = (h.0, all_more P ys x h.1 p)

pub neither : (a b : Bool) → (a || b) ≡ false → (a ≡ false) × (b ≡ false)
neither true b e = absurd cc
neither false b e = (refl, e)

pub both : (a b : Bool) → (a && b) ≡ true → (a ≡ true) × (b ≡ true)
both true b e = (refl, e)
both false b e = absurd cc

pub not_true : (a : Bool) → not a ≡ true → a ≡ false
not_true true e = absurd cc
not_true false e = refl

pub apart_more : (xs : List Literal) (l : Literal) → list_any (names (var_of l)) xs ≡ false → IsDistinct nat_eq (map var_of xs) → IsDistinct nat_eq (map var_of (xs ++ l ∷ []))
unfolding IsDistinct
apart_more [] l none apart = (tt, tt)
apart_more (x ∷ xs) l none apart =
    let n = neither (names (var_of l) x) (list_any (names (var_of l)) xs) none in
    (apart_front x xs l n.0 apart.0, apart_more xs l n.1 apart.1)
  where
    apart_front : (x : Literal) (xs : List Literal) (l : Literal) → eqb (var_of x) (var_of l) ≡ false → AllByRecursion (λ y. nat_eq (var_of x) y ≡ false) (map var_of xs) → AllByRecursion (λ y. nat_eq (var_of x) y ≡ false) (map var_of (xs ++ l ∷ []))
    apart_front x [] l e h = (e, tt)
    apart_front x (y ∷ ys) l e h = (h.0, apart_front x ys l e h.1)

pub cube_more : (xs : List Literal) (l : Literal) → IsCube xs → 0 < var_of l → takes xs l ≡ true → IsCube (xs ++ l ∷ [])
cube_more xs l cube above taken =
    let a = both (ltb (length xs) 64) (leb (var_of l) 2000000 && not (list_any (names (var_of l)) xs)) taken in
    let b = both (leb (var_of l) 2000000) (not (list_any (names (var_of l)) xs)) a.1 in
    let room : length xs < 64 = ltb-true _ _ a.0 in
    record {
      short = omega (arith, length-append xs (l ∷ []));
      within = All-from_recursion (IsWithin 2000000) (xs ++ l ∷ []) (all_more (IsWithin 2000000) xs l (recursion_from_All (IsWithin 2000000) xs cube.within) (above, leb-true _ _ b.0));
      distinct = apart_more xs l (not_true _ b.1) cube.distinct;
    }
