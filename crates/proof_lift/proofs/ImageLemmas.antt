-- The images of clauses, by number.
use mathlib.Core.Path.{fun_ext}
use Rattle.proof_lift.specs.View.{image_of_lemma, entries_of, lemmas_of}
use Rattle.std.proofs.Common.{◌≡◌, ◌≢◌, ℕ, ◌+◌, ◌-◌, ◌%◌, ◌<◌, ◌≤◌, ◌⊎◌, inl, inr, Bool, true, false, List, [], ◌∷◌, Option, Some, None, cond, refl, sym, ◌∙◌, ap, subst, zero, suc, length, get_or, set, eqb, replicate, arith}
use Rattle.std.specs.Prelude.{nat_le, nat_lt, slice_get, map, option_map}
use Rattle.std.specs.Ordering.{nat_cmp}
use Rattle.std.specs.Map.{lookup}
use Rattle.std.specs.BTreeMap as tree
use Rattle.std.specs.BTreeMap.{BTreeMap, is_at}
use Rattle.std.proofs.lemmas.Option.{slice_get_past, slice_get-get_or}
use Rattle.std.proofs.lemmas.List.{get_or-replicate, length-replicate, get_or-set_same, get_or-set_other, length-set}
use Rattle.std.proofs.lemmas.Bool.{cases_eq, eq-eqb, ne_eqb, cases_lt}
use Rattle.std.proofs.lemmas.Bool.Decides.{nat_tests}
use Rattle.dimacs.specs.logic.Cnf.{Cnf}
use Rattle.proof_lift.specs.HintWalk.{ClauseImage, Gone, Kept, ClauseImages}
use Rattle.dimacs.specs.logic.Literal.{Literal, Clause}
use Rattle.proof_lift.specs.LiftedText.{with_image, place_image, leaf_images}
use Rattle.proof_lift.specs.Stream.{lemma_image, lemma_in, lemma_among, by_live, images_in}
use Rattle.proof_lift.specs.inner.Images.{image_in_map, image_in_maps, lemma_images_of}
use Rattle.proof_lift.specs.declared.lemma_images.LogLemma.{LogLemma}
use Rattle.proof_lift.specs.declared.lemma_images.LemmaImages.{LemmaImages}

pub is_at_number : (k q : ℕ) → is_at (nat_cmp k) q ≡ eqb k q
is_at_number k q = grind (arith, nat_tests)

-- a change of a map
pub map_changed : (old new : BTreeMap ℕ (Option LogLemma)) (id : ℕ) (w : Option (Option LogLemma)) → ((q : ℕ) → tree.get nat_cmp new q ≡ cond (is_at (nat_cmp id) q) w (tree.get nat_cmp old q))
    → image_in_map (Some new) ≡ with_image (image_in_map (Some old)) id (option_map image_of_lemma w)
map_changed old new id w changes = fun_ext (λ n. at n (cases_eq n id))
  where
    at : (n : ℕ) → (n ≡ id) ⊎ (n ≢ id) → image_in_map (Some new) n ≡ with_image (image_in_map (Some old)) id (option_map image_of_lemma w) n
    at n (inl e) =
        ap (option_map image_of_lemma) (changes n ∙ ap (λ b. cond b w (tree.get nat_cmp old n)) (is_at_number id n ∙ eq-eqb id n (sym e)))
        ∙ sym (ap (λ b. cond b (option_map image_of_lemma w) (image_in_map (Some old) n)) (eq-eqb n id e))
    at n (inr d) =
        ap (option_map image_of_lemma) (changes n ∙ ap (λ b. cond b w (tree.get nat_cmp old n)) (is_at_number id n ∙ ne_eqb id n (λ e. d (sym e))))
        ∙ sym (ap (λ b. cond b (option_map image_of_lemma w) (image_in_map (Some old) n)) (ne_eqb n id d))

-- ---- many maps
get_map : (maps : List (BTreeMap ℕ (Option LogLemma))) (i : ℕ) → slice_get (map entries_of maps) i ≡ option_map entries_of (slice_get maps i)
get_map [] i = refl
get_map (m ∷ maps) zero = refl
get_map (m ∷ maps) (suc i) = get_map maps i

lemma_lookup : (es : List (ℕ × Option LogLemma)) (n : ℕ) → lemma_image (map (λ e. (e.0, image_of_lemma e.1)) es) n ≡ option_map image_of_lemma (lookup (is_at (nat_cmp n)) es)
lemma_lookup [] n = refl
lemma_lookup (e ∷ es) n = at (eqb n e.0) (is_at_number n e.0) (lemma_lookup es n)
  where
    at : (b : Bool) → is_at (nat_cmp n) e.0 ≡ b → lemma_image (map (λ f. (f.0, image_of_lemma f.1)) es) n ≡ option_map image_of_lemma (lookup (is_at (nat_cmp n)) es)
        → cond b (Some (image_of_lemma e.1)) (lemma_image (map (λ f. (f.0, image_of_lemma f.1)) es) n) ≡ option_map image_of_lemma (lookup (is_at (nat_cmp n)) (e ∷ es))
    at true is rest = sym (ap (λ b. option_map image_of_lemma (cond b (Some e.1) (lookup (is_at (nat_cmp n)) es))) is)
    at false is rest = rest ∙ sym (ap (λ b. option_map image_of_lemma (cond b (Some e.1) (lookup (is_at (nat_cmp n)) es))) is)

in_map : (o : Option (BTreeMap ℕ (Option LogLemma))) (n : ℕ) → lemma_in (option_map entries_of o) n ≡ image_in_map o n
in_map None n = refl
in_map (Some m) n = lemma_lookup m.entries n

-- what the lists say is what the maps say
pub among_is : (maps : List (BTreeMap ℕ (Option LogLemma))) → lemma_among (map entries_of maps) ≡ image_in_maps maps
among_is maps = fun_ext (λ n. ap (λ o. lemma_in o n) (get_map maps (n % 8192)) ∙ in_map (slice_get maps (n % 8192)) n)

get_set : (maps : List (BTreeMap ℕ (Option LogLemma))) (m : BTreeMap ℕ (Option LogLemma)) (i j : ℕ) → i < length maps → j ≡ i → slice_get (set maps i m) j ≡ Some m
get_set maps m i j inside e = slice_get-get_or (set maps i m) j m (omega (arith, length-set maps i m)) ∙ ap (λ x. Some x) (ap (λ k. get_or (set maps i m) k m) e ∙ get_or-set_same maps i m m inside)

get_set_other : (maps : List (BTreeMap ℕ (Option LogLemma))) (m : BTreeMap ℕ (Option LogLemma)) (i j : ℕ) → j ≢ i → slice_get (set maps i m) j ≡ slice_get maps j
get_set_other maps m i j d = elim (cases_lt j (length maps)) [
  | inl t ↦ slice_get-get_or (set maps i m) j m (omega (arith, length-set maps i m)) ∙ ap (λ x. Some x) (get_or-set_other maps i j m m d) ∙ sym (slice_get-get_or maps j m t)
  | inr f ↦ slice_get_past (set maps i m) j (omega (arith, length-set maps i m)) ∙ sym (slice_get_past maps j (omega arith))
]

-- the map of a number is one of them
pub map_here : (maps : List (BTreeMap ℕ (Option LogLemma))) (m : BTreeMap ℕ (Option LogLemma)) (p n : ℕ) → p ≡ n % 8192 → p < length maps → m ≡ get_or maps p m → image_in_map (Some m) n ≡ image_in_maps maps n
map_here maps m p n is inside at =
    ap (λ o. image_in_map o n) (ap (λ x. Some x) at ∙ sym (slice_get-get_or maps p m inside) ∙ ap (slice_get maps) is)

pub no_map : (maps : List (BTreeMap ℕ (Option LogLemma))) (p n : ℕ) → p ≡ n % 8192 → length maps ≤ p → None ≡ image_in_maps maps n
no_map maps p n is past = sym (ap (λ o. image_in_map o n) (slice_get_past maps (n % 8192) (subst (λ k. length maps ≤ k) is past)))

-- a change of the map of a number
pub maps_changed : (maps : List (BTreeMap ℕ (Option LogLemma))) (old new : BTreeMap ℕ (Option LogLemma)) (p id : ℕ) (w : Option ClauseImage) → p ≡ id % 8192 → p < length maps → old ≡ get_or maps p old
    → image_in_map (Some new) ≡ with_image (image_in_map (Some old)) id w → image_in_maps (set maps p new) ≡ with_image (image_in_maps maps) id w
maps_changed maps old new p id w is inside at changes = fun_ext (λ n. by_place n (cases_eq (n % 8192) p))
  where
    by_place : (n : ℕ) → (n % 8192 ≡ p) ⊎ (n % 8192 ≢ p) → image_in_maps (set maps p new) n ≡ with_image (image_in_maps maps) id w n
    by_place n (inl e) =
        ap (λ o. image_in_map o n) (get_set maps new p (n % 8192) inside e)
        ∙ ap (λ (T : ClauseImages). T n) changes
        ∙ ap (λ o. cond (eqb n id) w o) (map_here maps old p n (sym e) inside at)
    by_place n (inr d) =
        ap (λ o. image_in_map o n) (get_set_other maps new p (n % 8192) d)
        ∙ sym (ap (λ b. cond b w (image_in_maps maps n)) (ne_eqb n id (λ e. d (ap (λ k. k % 8192) e ∙ sym is))))

-- no map changes
pub maps_same : (maps : List (BTreeMap ℕ (Option LogLemma))) (p id : ℕ) → p ≡ id % 8192 → length maps ≤ p → image_in_maps maps ≡ with_image (image_in_maps maps) id None
maps_same maps p id is past = fun_ext (λ n. at n (cases_eq n id))
  where
    at : (n : ℕ) → (n ≡ id) ⊎ (n ≢ id) → image_in_maps maps n ≡ with_image (image_in_maps maps) id None n
    at n (inl e) = sym (no_map maps p n (is ∙ ap (λ k. k % 8192) (sym e)) past) ∙ sym (ap (λ b. cond b None (image_in_maps maps n)) (eq-eqb n id e))
    at n (inr d) = sym (ap (λ b. cond b None (image_in_maps maps n)) (ne_eqb n id d))

-- ---- beside the formula's clauses
abbrev pub beside : Cnf → List Bool → ClauseImages → ClauseImages
beside F live lemmas n = by_live F n (lemmas n) (slice_get live n)

-- a change at a number after the leaf's formula
beside_changed : (F : Cnf) (live : List Bool) (old new : ClauseImages) (id : ℕ) (w : Option ClauseImage) → length live ≤ id → new ≡ with_image old id w
    → beside F live new ≡ with_image (beside F live old) id w
beside_changed F live old new id w beyond changes = fun_ext (λ n. at n (cases_eq n id))
  where
    at : (n : ℕ) → (n ≡ id) ⊎ (n ≢ id) → beside F live new n ≡ with_image (beside F live old) id w n
    at n (inl e) =
        ap (by_live F n (new n)) (slice_get_past live n (subst (λ k. length live ≤ k) (sym e) beyond))
        ∙ ap (λ (T : ClauseImages). T n) changes
        ∙ ap (λ b. cond b w (old n)) (eq-eqb n id e)
        ∙ sym (ap (λ b. cond b w (beside F live old n)) (eq-eqb n id e))
    at n (inr d) =
        ap (λ o. by_live F n o (slice_get live n)) (ap (λ (T : ClauseImages). T n) changes ∙ ap (λ b. cond b w (old n)) (ne_eqb n id d))
        ∙ sym (ap (λ b. cond b w (beside F live old n)) (ne_eqb n id d))

pub lemma_changed : (F : Cnf) (live : List Bool) (old new : LemmaImages) (id : ℕ) (w : Option ClauseImage) → length live ≤ id → lemma_images_of new ≡ with_image (lemma_images_of old) id w
    → images_in F live (lemmas_of new) ≡ with_image (images_in F live (lemmas_of old)) id w
lemma_changed F live old new id w beyond changes =
    ap (beside F live) (among_is new.maps.items)
    ∙ beside_changed F live (lemma_images_of old) (lemma_images_of new) id w beyond changes
    ∙ ap (λ T. with_image (beside F live T) id w) (sym (among_is old.maps.items))

-- a number after the leaf's formula is a lemma's
pub lemma_behind : (F : Cnf) (live : List Bool) (x : LemmaImages) (n : ℕ) → length live ≤ n → lemma_images_of x n ≡ images_in F live (lemmas_of x) n
lemma_behind F live x n beyond =
    sym (ap (λ (T : ClauseImages). T n) (among_is x.maps.items))
    ∙ sym (ap (by_live F n (lemma_among (lemmas_of x) n)) (slice_get_past live n beyond))

-- at the beginning each clause of the leaf's formula is live
pub all_stand : (F : Cnf) (live : List Bool) (none : LemmaImages) (q : List Literal) (units total : ℕ) → ((n : ℕ) → lemma_images_of none n ≡ None) → live ≡ false ∷ replicate total true → total ≡ length F.clauses + units → length q ≡ units
    → images_in F live (lemmas_of none) ≡ leaf_images q F
all_stand F live none q units total no_lemma is count cube = fun_ext at
  where
    no : (n : ℕ) → lemma_among (lemmas_of none) n ≡ None
    no n = ap (λ (T : ClauseImages). T n) (among_is none.maps.items) ∙ no_lemma n

    some : (n : ℕ) → slice_get (replicate total true) n ≡ cond (nat_lt n total) (Some true) None
    some n = elim (cases_lt n total) [
      | inl t ↦
          let yes : nat_lt n total ≡ true = grind (arith, nat_tests, t) in
          slice_get-get_or (replicate total true) n true (omega (arith, length-replicate total true)) ∙ ap (λ (b : Bool). Some b) (get_or-replicate total n true true t) ∙ sym (ap (λ b. cond b (Some true) None) yes)
      | inr f ↦
          let no : nat_lt n total ≡ false = grind (arith, nat_tests, f) in
          slice_get_past (replicate total true) n (omega (arith, length-replicate total true)) ∙ sym (ap (λ b. cond b (Some true) None) no)
    ]

    chosen : (n : ℕ) (b : Bool) → by_live F n None (cond b (Some true) None) ≡ cond b (Some (place_image F n)) None
    chosen n true = refl
    chosen n false = refl

    at : (n : ℕ) → images_in F live (lemmas_of none) n ≡ leaf_images q F n
    at zero = ap (λ o. by_live F 0 o (slice_get live 0)) (no 0) ∙ ap (λ (xs : List Bool). by_live F 0 None (slice_get xs 0)) is
    at (suc n) =
        ap (λ o. by_live F (suc n) o (slice_get live (suc n))) (no (suc n)) ∙ ap (λ (xs : List Bool). by_live F (suc n) None (slice_get xs (suc n))) is
        ∙ ap (by_live F (suc n) None) (some n)
        ∙ chosen (suc n) (nat_lt n total)
        ∙ (let total_is : total ≡ length F.clauses + length q = omega arith in
        let same : nat_lt n total ≡ nat_le (suc n) (length F.clauses + length q) = grind (arith, nat_tests, total_is) in
        ap (λ b. cond b (Some (place_image F (suc n))) None) same
        ∙ sym (ap (λ b. cond b None (cond (nat_le (suc n) (length F.clauses + length q)) (Some (place_image F (suc n))) None)) (ne_eqb (suc n) 0 (λ e. absurd (omega arith)))))

-- a live clause of the formula stands for itself
pub formula_stands : (F : Cnf) (live : List Bool) (lemmas : List (List (ℕ × ClauseImage))) (n place : ℕ) (b : Bool) (D : Clause) → n < length live → b ≡ get_or live n b → b ≡ true → place ≡ n - 1 → place < length F.clauses
    → D ≡ get_or F.clauses place [] → ◌≡◌ {A = Option ClauseImage} (Some (Kept n D)) (images_in F live lemmas n)
formula_stands F live lemmas n place b D inside read holds at below is =
    let here : slice_get live n ≡ Some true = slice_get-get_or live n b inside ∙ ap (λ (x : Bool). Some x) (sym read ∙ holds) in
    let short : nat_lt (n - 1) (length F.clauses) ≡ true = grind (arith, nat_tests, at, below) in
    ap (λ (E : Clause). Some (Kept n E)) (is ∙ ap (λ i. get_or F.clauses i []) at)
    ∙ sym (ap (by_live F n (lemma_among lemmas n)) here ∙ ap (λ c. Some (cond c (Kept n (get_or F.clauses (n - 1) [])) Gone)) short)
