-- The numbers of the clauses that have an image.
use Rattle.std.proofs.Common.{◌≡◌, ℕ, ◌%◌, ◌<◌, ◌≤◌, ◌⊎◌, inl, inr, Bool, true, false, List, [], ◌∷◌, ◌++◌, Option, Some, None, cond, refl, sym, ◌∙◌, subst, length, get_or, arith}
use Rattle.std.specs.Prelude.{Contains, map, option_map}
use Rattle.std.specs.Ordering.{nat_cmp}
use Rattle.std.specs.Map.{lookup}
use Rattle.std.specs.BTreeMap as tree
use Rattle.std.specs.BTreeMap.{BTreeMap, is_at}
use Rattle.std.proofs.lemmas.Bool.{cases_eq, ne_eqb, cases_lt, both_ways}
use Rattle.std.proofs.lemmas.List.Elements.{All-push, Contains-push, Contains-append_left}
use Rattle.dimacs.specs.logic.Literal.{Clause}
use Rattle.dimacs.proofs.Members.{Contains-head, Contains-cons}
use Rattle.lrat_text.specs.Grammar.{IsClauseNumber}
use Rattle.proof_lift.specs.HintWalk.{ClauseImage, Kept, ClauseImages}
use Rattle.proof_lift.specs.View.{image_of_lemma}
use Rattle.proof_lift.specs.inner.Images.{image_in_map, images_of}
use Rattle.proof_lift.specs.inner.Propagation.{Lists, HasKey}
use Rattle.proof_lift.specs.declared.images.Images.{Images}
use Rattle.proof_lift.specs.declared.lemma_images.LogLemma.{LogLemma}
use Rattle.proof_lift.proofs.ReadyLemmas.{none_kept}
use Rattle.proof_lift.proofs.ImageLemmas.{is_at_number, map_here, no_map, lemma_behind}

-- nothing is put
pub lists_none : (T : ClauseImages) (P : ℕ → Type 0) (xs : List ℕ) → ((n i : ℕ) (D : Clause) → P n → T n ≡ Some (Kept i D) → IsClauseNumber n → ⊥) → Lists T P xs xs
lists_none T P xs none = record { numbers = λ h. h; stay = λ n h. h; each = λ n i D p e u. absurd (none n i D p e u) }

pub lists_one : (T : ClauseImages) (n : ℕ) (xs : List ℕ) → IsClauseNumber n → Lists T (λ k. k ≡ n) xs (xs ++ n ∷ [])
lists_one T n xs number = record {
  numbers = λ h. All-push IsClauseNumber xs n h number;
  stay = λ k h. Contains-append_left xs (n ∷ []) k h;
  each = λ k i D e at u. subst (λ x. Contains (xs ++ n ∷ []) x) (sym e) (Contains-push xs n);
}

pub lists_then : (T : ClauseImages) (P Q R : ℕ → Type 0) (a b c : List ℕ) → Lists T P a b → Lists T Q b c → ((n i : ℕ) (D : Clause) → R n → T n ≡ Some (Kept i D) → P n ⊎ Q n) → Lists T R a c
lists_then T P Q R a b c first second one = record {
  numbers = λ h. second.numbers (first.numbers h);
  stay = λ n h. second.stay n (first.stay n h);
  each = λ n i D r e u. elim (one n i D r e) [ inl p ↦ second.stay n (first.each n i D p e u) | inr q ↦ second.each n i D q e u ];
}

-- what is found in a map has a key there
found_key : (es : List (ℕ × Option LogLemma)) (n : ℕ) (o : Option LogLemma) → lookup (is_at (nat_cmp n)) es ≡ Some o → Contains (map (λ e. e.0) es) n
found_key [] n o e = absurd cc
found_key (x ∷ es) n o e = at (is_at (nat_cmp n) x.0) refl e (λ h. found_key es n o h)
  where
    at : (b : Bool) → is_at (nat_cmp n) x.0 ≡ b → cond b (Some x.1) (lookup (is_at (nat_cmp n)) es) ≡ Some o → (lookup (is_at (nat_cmp n)) es ≡ Some o → Contains (map (λ f. f.0) es) n)
        → Contains (x.0 ∷ map (λ f. f.0) es) n
    at true is h on = elim (cases_eq n x.0) [
      | inl same ↦ subst (λ k. Contains (k ∷ map (λ f. f.0) es) n) same (Contains-head n (map (λ f. f.0) es))
      | inr apart ↦ absurd (both_ways (is_at (nat_cmp n) x.0) (is_at_number n x.0 ∙ ne_eqb n x.0 apart) is)
    ]
    at false is h on = Contains-cons x.0 n (map (λ f. f.0) es) (on h)

some_mapped : (o : Option (Option LogLemma)) (s : ClauseImage) → option_map image_of_lemma o ≡ Some s → (own : Option LogLemma) × (o ≡ Some own)
some_mapped None s e = absurd cc
some_mapped (Some own) s e = (own, refl)

pub key_found : (m : BTreeMap ℕ (Option LogLemma)) (n : ℕ) (s : ClauseImage) → image_in_map (Some m) n ≡ Some s → HasKey m n
key_found m n s e = let f = some_mapped (tree.get nat_cmp m n) s e in found_key m.entries n f.0 f.1

-- in the map of the number's remainder
pub key_in_maps : (x : Images) (m : BTreeMap ℕ (Option LogLemma)) (p n k : ℕ) (D : Clause) → length x.live.items ≤ n → p ≡ n % 8192 → p < length x.lemmas.maps.items → m ≡ get_or x.lemmas.maps.items p m → images_of x n ≡ Some (Kept k D) → HasKey m n
key_in_maps x m p n k D beyond is inside at e =
    key_found m n (Kept k D) (map_here x.lemmas.maps.items m p n is inside at ∙ lemma_behind x.formula x.live.items x.lemmas n beyond ∙ e)

pub place_in_maps : (x : Images) (i n k : ℕ) (D : Clause) → length x.live.items ≤ n → length x.lemmas.maps.items ≤ i → images_of x n ≡ Some (Kept k D) → n % 8192 < i
place_in_maps x i n k D beyond past e = elim (cases_lt (n % 8192) (length x.lemmas.maps.items)) [
  | inl t ↦ omega arith
  | inr f ↦ absurd (none_kept k D (no_map x.lemmas.maps.items (n % 8192) n refl f ∙ lemma_behind x.formula x.live.items x.lemmas n beyond ∙ e))
]
