-- Trees by the split rule with definitions.
use Rattle.std.proofs.Common.{◌≡◌, ◌≢◌, ℕ, suc, ◌+◌, ◌<◌, ◌≤◌, ◌⊎◌, inl, inr, List, [], ◌∷◌, ◌++◌, length, Some, None, sym, ap, ◌∙◌, subst, arith, append_assoc, Result, Ok, Err, IfOk}
use Rattle.std.specs.List.{All}
use Rattle.std.proofs.lemmas.Bool.{cases_eq, cases_lt}
use Rattle.std.proofs.lemmas.List.Elements.{All-nil, All-cons, All-append}
use Rattle.std.proofs.lemmas.Option.{slice_get_within}
use Rattle.dimacs.specs.logic.Cnf.{Cnf, AreWithin}
use Rattle.dimacs.specs.logic.Literal.{Literal, Pos, Neg, IsWithin, var_of}
use Rattle.icnf.specs.Leaves.{Cube, IsFree, Leaves}
use Rattle.cube_split.specs.ChoiceWithDefinitions.{Chooses, IsChosen, held_by, holding, IsTreeWith}
use Rattle.cube_split.specs.SplitTree.{IsSplitBy}
use Rattle.cube_split.specs.inner.AppendedCubes.{AppendsChosen}
use Rattle.cube_split.specs.Definitions.{Opening}
use Rattle.cube_split.proofs.ChoiceLemmas.{stands_nowhere}
use Rattle.cube_split.proofs.LowestLemmas.{all_back, all_front}

same_number : (v w : ℕ) → Some v ≡ Some w → v ≡ w
same_number v w e = cc

-- what is free of all that holds is free of the cube
free_below : (F : Cnf) (o : Opening) (path : Cube) (v : ℕ) → IsFree (holding F o path) v → IsFree path v
free_below F o path v free =
    all_back (λ l. var_of l ≢ v) o.units path (all_front (λ l. var_of l ≢ v) (o.units ++ path) (held_by (o.units ++ path) (F.vars + 1) o.pairs) free)

pub chosen_free : (F : Cnf) (o : Opening) (path : Cube) (v : ℕ) → Chooses F o path (Some v) → IsFree path v
chosen_free F o path v (IsChosen.defined i unknown lowest e) = subst (IsFree path) (sym (same_number v (F.vars + 1 + i) e)) (free_below F o path (F.vars + 1 + i) unknown.itself)
chosen_free F o path v (IsChosen.plain none choice) = free_below F o path v choice.free

pub chosen_within : (F : Cnf) (o : Opening) (path : Cube) (v : ℕ) → AreWithin F.vars F.clauses → Chooses F o path (Some v) → (0 < v) × (v ≤ F.vars + length o.pairs)
chosen_within F o path v within (IsChosen.defined i unknown lowest e) =
    let below : i < length o.pairs = slice_get_within o.pairs i unknown.pair unknown.there in
    let is : v ≡ F.vars + 1 + i = same_number v (F.vars + 1 + i) e in
    (omega arith, omega arith)
chosen_within F o path v within (IsChosen.plain none choice) =
    let some = choice.some in
    elim (cases_eq v 0) [
      | inl z ↦ let nowhere = stands_nowhere F.vars v F.clauses (holding F o path) (inl z) within in absurd (omega arith)
      | inr pos ↦ elim (cases_lt F.vars v) [
        | inl above ↦ let nowhere = stands_nowhere F.vars v F.clauses (holding F o path) (inr above) within in absurd (omega arith)
        | inr up_to ↦ (omega arith, omega arith)
      ]
    ]

split_leaves : (F : Cnf) (o : Opening) (levels : ℕ) (path : Cube) (cubes : List Cube) → IsSplitBy (Chooses F o) levels path cubes → Leaves path cubes
split_leaves F o _ path _ IsSplitBy.full = Leaves.leaf
split_leaves F o _ path _ (IsSplitBy.whole rule) = Leaves.leaf
split_leaves F o _ path _ (IsSplitBy.split {levels = levels} {left = left} {right = right} v rule one two) =
    Leaves.fork (Pos v) (chosen_free F o path v rule) (split_leaves F o levels (path ++ Pos v ∷ []) left one) (split_leaves F o levels (path ++ Neg v ∷ []) right two)

abbrev Inside : Cnf → Opening → Cube → Type 0
Inside F o q = All (IsWithin (F.vars + length o.pairs)) q

inside_push : (F : Cnf) (o : Opening) (path : Cube) (l : Literal) → Inside F o path → IsWithin (F.vars + length o.pairs) l → Inside F o (path ++ l ∷ [])
inside_push F o path l h g =
    let P : Literal → Type 0 = IsWithin (F.vars + length o.pairs) in All-append P path (l ∷ []) h (All-cons P l [] g (All-nil P))

split_inside : (F : Cnf) (o : Opening) (levels : ℕ) (path : Cube) (cubes : List Cube) → AreWithin F.vars F.clauses → Inside F o path → IsSplitBy (Chooses F o) levels path cubes → All (Inside F o) cubes
split_inside F o _ path _ within h IsSplitBy.full = All-cons (Inside F o) path [] h (All-nil (Inside F o))
split_inside F o _ path _ within h (IsSplitBy.whole rule) = All-cons (Inside F o) path [] h (All-nil (Inside F o))
split_inside F o _ path _ within h (IsSplitBy.split {levels = levels} {left = left} {right = right} v rule one two) =
    let here = chosen_within F o path v within rule in
    All-append (Inside F o) left right
    (split_inside F o levels (path ++ Pos v ∷ []) left within (inside_push F o path (Pos v) h here) one)
    (split_inside F o levels (path ++ Neg v ∷ []) right within (inside_push F o path (Neg v) h here) two)

pub tree_leaves : (F : Cnf) (o : Opening) (depth : ℕ) (cubes : List Cube) → IsTreeWith F o depth cubes → Leaves [] cubes
tree_leaves F o depth cubes h = split_leaves F o depth [] cubes h

pub tree_inside : (F : Cnf) (o : Opening) (depth : ℕ) (cubes : List Cube) → AreWithin F.vars F.clauses → IsTreeWith F o depth cubes → AreWithin (F.vars + length o.pairs) cubes
tree_inside F o depth cubes within h = split_inside F o depth [] cubes within (All-nil (IsWithin (F.vars + length o.pairs))) h

-- ---- what is appended
pub chosen_leaf : (F : Cnf) (o : Opening) (levels : ℕ) (path : Cube) (before after : List Cube) → after ≡ before ++ path ∷ [] → (levels ≡ 0) ⊎ Chooses F o path None → AppendsChosen F o levels path before after
chosen_leaf F o levels path before after e why = record { cubes = path ∷ []; appended = e; below = why_leaf F o levels path why }
  where
    why_leaf : (F : Cnf) (o : Opening) (levels : ℕ) (path : Cube) → (levels ≡ 0) ⊎ Chooses F o path None → IsSplitBy (Chooses F o) levels path (path ∷ [])
    why_leaf F o levels path (inl z) = subst (λ (n : ℕ). IsSplitBy (Chooses F o) n path (path ∷ [])) (sym z) IsSplitBy.full
    why_leaf F o levels path (inr none) = IsSplitBy.whole none

pub chosen_both : (F : Cnf) (o : Opening) (levels less v : ℕ) (path : Cube) (before between after : List Cube) → levels ≡ suc less → Chooses F o path (Some v)
    → AppendsChosen F o less (path ++ Pos v ∷ []) before between → AppendsChosen F o less (path ++ Neg v ∷ []) between after → AppendsChosen F o levels path before after
chosen_both F o levels less v path before between after e choice left right = record {
  cubes = left.cubes ++ right.cubes;
  appended = right.appended ∙ ap (λ (cs : List Cube). cs ++ right.cubes) left.appended ∙ append_assoc before left.cubes right.cubes;
  below = subst (λ (n : ℕ). IsSplitBy (Chooses F o) n path (left.cubes ++ right.cubes)) (sym e) (IsSplitBy.split v choice left.below right.below);
}

pub chosen_all : (F : Cnf) (o : Opening) (levels : ℕ) (path : Cube) (before after : List Cube) → before ≡ [] → path ≡ [] → AppendsChosen F o levels path before after → IsTreeWith F o levels after
chosen_all F o levels path before after none start h =
    let all : after ≡ h.cubes = h.appended ∙ ap (λ (cs : List Cube). cs ++ h.cubes) none in
    subst (λ (q : Cube). IsSplitBy (Chooses F o) levels q after) start (subst (IsSplitBy (Chooses F o) levels path) (sym all) h.below)

-- a tree of no levels is one leaf
pub leaf_alone : (E : Type 0) (F : Cnf) (o : Opening) (r : Result (List Cube) E) → IfOk r (λ t. t ≡ [] ∷ []) → IfOk r (IsTreeWith F o 0)
leaf_alone E F o (Ok t) h = rw h IsSplitBy.full
leaf_alone E F o (Err e) h = tt
