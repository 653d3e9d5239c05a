-- The log's numbers of the foreign clauses.
use mathlib.Core.Path.{fun_ext}
use Rattle.std.proofs.Common.{◌≡◌, ◌≢◌, ℕ, ◌%◌, ◌<◌, ◌⊎◌, inl, inr, List, Option, Some, cond, sym, ◌∙◌, ap, length, get_or, set, eqb, arith}
use Rattle.std.specs.Prelude.{slice_get}
use Rattle.std.specs.Ordering.{nat_cmp}
use Rattle.std.specs.BTreeMap as tree
use Rattle.std.specs.BTreeMap.{BTreeMap, is_at}
use Rattle.std.proofs.lemmas.Option.{slice_get_past, slice_get-get_or}
use Rattle.std.proofs.lemmas.List.{get_or-set_same, get_or-set_other, length-set}
use Rattle.std.proofs.lemmas.Bool.{cases_eq, eq-eqb, ne_eqb, cases_lt}
use Rattle.std.proofs.lemmas.Bool.Decides.{nat_tests}
use Rattle.lidrup.specs.Lidrup.{Names, with_name}
use Rattle.lidrup.specs.NameMaps.{name_in_map, name_in_maps, number_in}
use Rattle.lidrup.specs.declared.log_number.LogNumber.{LogNumber}

is_at_number : (k q : ℕ) → is_at (nat_cmp k) q ≡ eqb k q
is_at_number k q = grind (arith, nat_tests)

-- a change of a map
pub map_changed : (old new : BTreeMap ℕ LogNumber) (id : ℕ) (w : Option LogNumber) → ((q : ℕ) → tree.get nat_cmp new q ≡ cond (is_at (nat_cmp id) q) w (tree.get nat_cmp old q))
    → name_in_map (Some new) ≡ with_name (name_in_map (Some old)) id (number_in w)
map_changed old new id w changes = fun_ext (λ n. at n (cases_eq n id))
  where
    at : (n : ℕ) → (n ≡ id) ⊎ (n ≢ id) → name_in_map (Some new) n ≡ with_name (name_in_map (Some old)) id (number_in w) n
    at n (inl e) =
        ap number_in (changes n)
        ∙ ap (λ b. number_in (cond b w (tree.get nat_cmp old n))) (is_at_number id n ∙ eq-eqb id n (sym e))
        ∙ sym (ap (λ b. cond b (number_in w) (name_in_map (Some old) n)) (eq-eqb n id e))
    at n (inr d) =
        ap number_in (changes n)
        ∙ ap (λ b. number_in (cond b w (tree.get nat_cmp old n))) (is_at_number id n ∙ ne_eqb id n (λ e. d (sym e)))
        ∙ sym (ap (λ b. cond b (number_in w) (name_in_map (Some old) n)) (ne_eqb n id d))

-- ---- many maps
get_set : (maps : List (BTreeMap ℕ LogNumber)) (m : BTreeMap ℕ LogNumber) (i j : ℕ) → i < length maps → j ≡ i → slice_get (set maps i m) j ≡ Some m
get_set maps m i j inside e = slice_get-get_or (set maps i m) j m (omega (arith, length-set maps i m)) ∙ ap (λ x. Some x) (ap (λ k. get_or (set maps i m) k m) e ∙ get_or-set_same maps i m m inside)

get_set_other : (maps : List (BTreeMap ℕ LogNumber)) (m : BTreeMap ℕ LogNumber) (i j : ℕ) → j ≢ i → slice_get (set maps i m) j ≡ slice_get maps j
get_set_other maps m i j d = elim (cases_lt j (length maps)) [
  | inl t ↦ slice_get-get_or (set maps i m) j m (omega (arith, length-set maps i m)) ∙ ap (λ x. Some x) (get_or-set_other maps i j m m d) ∙ sym (slice_get-get_or maps j m t)
  | inr f ↦ slice_get_past (set maps i m) j (omega (arith, length-set maps i m)) ∙ sym (slice_get_past maps j (omega arith))
]

-- the map of a number is one of them
pub map_here : (maps : List (BTreeMap ℕ LogNumber)) (m : BTreeMap ℕ LogNumber) (p n : ℕ) → p ≡ n % 8192 → p < length maps → m ≡ get_or maps p m → name_in_map (Some m) n ≡ name_in_maps maps n
map_here maps m p n is inside at =
    ap (λ o. name_in_map o n) (ap (λ x. Some x) at ∙ sym (slice_get-get_or maps p m inside) ∙ ap (slice_get maps) is)

-- a change of the map of a number
pub maps_changed : (maps : List (BTreeMap ℕ LogNumber)) (old new : BTreeMap ℕ LogNumber) (p id : ℕ) (w : Option ℕ) → p ≡ id % 8192 → p < length maps → old ≡ get_or maps p old
    → name_in_map (Some new) ≡ with_name (name_in_map (Some old)) id w → name_in_maps (set maps p new) ≡ with_name (name_in_maps maps) id w
maps_changed maps old new p id w is inside at changes = fun_ext (λ n. by_place n (cases_eq (n % 8192) p))
  where
    by_place : (n : ℕ) → (n % 8192 ≡ p) ⊎ (n % 8192 ≢ p) → name_in_maps (set maps p new) n ≡ with_name (name_in_maps maps) id w n
    by_place n (inl e) =
        ap (λ o. name_in_map o n) (get_set maps new p (n % 8192) inside e)
        ∙ ap (λ (T : Names). T n) changes
        ∙ ap (λ o. cond (eqb n id) w o) (map_here maps old p n (sym e) inside at)
    by_place n (inr d) =
        ap (λ o. name_in_map o n) (get_set_other maps new p (n % 8192) d)
        ∙ sym (ap (λ b. cond b w (name_in_maps maps n)) (ne_eqb n id (λ e. d (ap (λ k. k % 8192) e ∙ sym is))))
