-- The resolvent, literal by literal.
use Rattle.std.proofs.Common.{◌≡◌, ◌∙◌, ◌||◌, ℕ, ◌+◌, ◌<◌, Bool, true, false, List, [], ◌∷◌, ◌++◌, append-nil, length, map, take, get_or, ap, sym, refl}
use Rattle.std.specs.List.{filter}
use Rattle.std.proofs.lemmas.List.{map_more}
use Rattle.std.proofs.lemmas.List.Elements.{filter-append}
use Rattle.dimacs.specs.logic.Literal.{Clause, Literal, has, negation}
use Rattle.icnf.specs.Leaves.{Cube}

pub one_of : (a b : Bool) → a ≡ true → (a || b) ≡ true
one_of true b is = refl
one_of false b is = absurd (cc)

pub other_of : (a b : Bool) → b ≡ true → (a || b) ≡ true
other_of true b is = refl
other_of false b is = is

pub none_of : (a b : Bool) → a ≡ false → b ≡ false → (a || b) ≡ false
none_of true b is other = absurd (cc)
none_of false b is other = other

module _ (path : Cube) (C D : Clause) (i : ℕ) (l negated : Literal) (items : List Literal) where
  more : i < length path → l ≡ get_or path i l → negated ≡ negation l → items ≡ filter (λ k. has C k || has D k) (map negation (take i path))
      → filter (λ k. has C k || has D k) (map negation (take (i + 1) path)) ≡ items ++ filter (λ k. has C k || has D k) (negated ∷ [])
  more at is negates so_far =
      let last : negation (get_or path i l) ≡ negated = ap negation (sym is) ∙ sym negates in
      ap (filter (λ k. has C k || has D k)) (map_more negation path i l at)
      ∙ (filter-append (λ k. has C k || has D k) (map negation (take i path)) (negation (get_or path i l) ∷ [])
      ∙ (ap (λ (k : Literal). filter (λ k. has C k || has D k) (map negation (take i path)) ++ filter (λ k. has C k || has D k) (k ∷ [])) last
      ∙ ap (λ (xs : List Literal). xs ++ filter (λ k. has C k || has D k) (negated ∷ [])) (sym so_far)))

  pub kept_one : (new : List Literal) → i < length path → l ≡ get_or path i l → negated ≡ negation l
      → items ≡ filter (λ k. has C k || has D k) (map negation (take i path)) → new ≡ items ++ negated ∷ [] → (has C negated || has D negated) ≡ true
      → new ≡ filter (λ k. has C k || has D k) (map negation (take (i + 1) path))
  kept_one new at is negates so_far pushed holds =
      let one : filter (λ k. has C k || has D k) (negated ∷ []) ≡ negated ∷ [] = rw holds refl in
      pushed ∙ sym (more at is negates so_far ∙ ap (λ (xs : List Literal). items ++ xs) one)

  pub left_one : (new : List Literal) → i < length path → l ≡ get_or path i l → negated ≡ negation l
      → items ≡ filter (λ k. has C k || has D k) (map negation (take i path)) → new ≡ items → (has C negated || has D negated) ≡ false
      → new ≡ filter (λ k. has C k || has D k) (map negation (take (i + 1) path))
  left_one new at is negates so_far same fails =
      let none : filter (λ k. has C k || has D k) (negated ∷ []) ≡ [] = rw fails refl in
      same ∙ sym (more at is negates so_far ∙ (ap (λ (xs : List Literal). items ++ xs) none ∙ append-nil items))
