-- A walk along the places of a literal, which closes or reopens the clauses that have it.
use Rattle.std.proofs.Common.{◌≡◌, ◌≢◌, ℕ, suc, ◌+◌, ◌-◌, ◌<◌, ◌≤◌, true, false, List, [], ◌∷◌, length, get_or, set, map, drop, refl, sym, ap, subst, ◌∙◌, arith, ⊎_elim, ◌⊎◌, inl, inr, get_or-set_same, get_or-set_other, length-set, length-drop}
use Rattle.std.specs.List.{slice_range}
use Rattle.std.proofs.lemmas.Bool.{cases_eq, cases_lt, or_cases, both_ways}
use Rattle.std.proofs.lemmas.List.{get_or-map, get_or-take, get_or-drop, length-take-le, length-map}
use Rattle.std.proofs.lemmas.List.Folds.{list_any_at}
use Rattle.dimacs.specs.logic.Literal.{Literal, index_of, same, has}
use Rattle.dimacs.proofs.LiteralLemmas.{same-true, same-is}
use Rattle.cube_split.specs.inner.OpenClauses.{AreIndexed, AreTurned}
use Rattle.cube_split.specs.inner.Places.{nowhere, place_at, places_of, clause_of, IsLast}
use Rattle.cube_split.specs.declared.places.Place.{Place}

-- what stands in a part of the places
in_part : (places : List Place) (a b k : ℕ) → a + k < b → b ≤ length places → place_at (slice_range places a b) k ≡ place_at places (a + k)
in_part places a b k inside fits =
    get_or-take (b - a) (drop a places) k nowhere (omega arith) ∙ get_or-drop a places k nowhere

part_length : (places : List Place) (a b : ℕ) → a ≤ b → b ≤ length places → length (slice_range places a b) ≡ b - a
part_length places a b le fits = length-take-le (b - a) (drop a places) (omega (arith, length-drop a places))

-- a literal of a clause has a place there
place_in : (ps : List Place) (l : Literal) → has (map (λ e. e.literal) ps) l ≡ true → (k : ℕ) × (k < length ps) × ((place_at ps k).literal ≡ l)
place_in [] l h = absurd (both_ways false refl h)
place_in (e ∷ ps) l h = ⊎_elim
    (λ (here : same l e.literal ≡ true). (0, omega arith, sym (same-true l e.literal here)))
    (λ (there : has (map (λ x. x.literal) ps) l ≡ true). let rest = place_in ps l there in (suc rest.0, omega (arith, rest.1), rest.2))
    (or_cases (same l e.literal) (has (map (λ x. x.literal) ps) l) h)

-- the clause of a place holds its literal
holds : (n : ℕ) (places : List Place) (starts latest : List ℕ) (p : ℕ) → AreIndexed n places starts latest → p < length places → has (clause_of places starts (place_at places p).clause) (place_at places p).literal ≡ true
holds n places starts latest p h below =
    let c = (place_at places p).clause in
    let own = h.inside_own p below in
    let span = h.inside c (h.owned p below) in
    let k = p - get_or starts c 0 in
    let size = part_length places (get_or starts c 0) (get_or starts (c + 1) 0) span.0 span.1 in
    let part = places_of places starts c in
    let here : place_at part k ≡ place_at places p = in_part places (get_or starts c 0) (get_or starts (c + 1) 0) k (omega (arith, own)) span.1 ∙ ap (place_at places) (omega (arith, own)) in
    let literal : get_or (map (λ (e : Place). e.literal) part) k (place_at places p).literal ≡ (place_at places p).literal =
    get_or-map (λ (e : Place). e.literal) part k nowhere (place_at places p).literal (omega (arith, own)) ∙ ap (λ (e : Place). e.literal) here in
    list_any_at (same (place_at places p).literal) (map (λ (e : Place). e.literal) part) k (place_at places p).literal (omega (arith, own, length-map part (λ (e : Place). e.literal))) (same-is _ _ (sym literal))

-- the places from at on were walked
pub record IsTurning (n : ℕ) (places : List Place) (starts : List ℕ) (l : Literal) (from to : ℕ) (old new : List ℕ) (at : ℕ) : Type 0 where
  pub below : at ≤ length places
  pub here : 0 < at → (place_at places (at - 1)).literal ≡ l
  pub size : length new ≡ length old
  pub kept : (i : ℕ) → i < n → (get_or new i 0 ≡ get_or old i 0) ⊎ ((get_or old i 0 ≡ from) × (get_or new i 0 ≡ to) × (has (clause_of places starts i) l ≡ true))
  pub done : (p : ℕ) → at ≤ p → p < length places → (place_at places p).literal ≡ l → get_or new (place_at places p).clause 0 ≢ from

pub turning_begin : (n : ℕ) (places : List Place) (starts latest : List ℕ) (l : Literal) (from to : ℕ) (old : List ℕ) (at : ℕ) → AreIndexed n places starts latest → index_of l < length latest → at ≡ get_or latest (index_of l) 0
    → IsTurning n places starts l from to old old at
turning_begin n places starts latest l from to old at h inside is =
    let last = subst (IsLast places (length places) l) (sym is) (h.chained.table l inside) in
    record {
      below = last.below;
      here = last.stands;
      size = refl;
      kept = λ i b. inl refl;
      done = λ p a b same. absurd (last.none p a b same);
    }

-- what lies between a place and the one before it with its literal
between : (places : List Place) (l : Literal) (at before p : ℕ) → 0 < at → (place_at places (at - 1)).literal ≡ l → IsLast places (at - 1) (place_at places (at - 1)).literal before → before ≤ p → p < at
    → (place_at places p).literal ≡ l → p ≡ at - 1
between places l at before p some here last a b same = ⊎_elim
    (λ (lt : p < at - 1). absurd (last.none p a lt (same ∙ sym here)))
    (λ (ge : at - 1 ≤ p). omega arith)
    (cases_lt p (at - 1))

before_here : (places : List Place) (l : Literal) (at before : ℕ) → (place_at places (at - 1)).literal ≡ l → IsLast places (at - 1) (place_at places (at - 1)).literal before → 0 < before → (place_at places (before - 1)).literal ≡ l
before_here places l at before here last some = last.stands some ∙ here

-- the clause of the place was turned before, or need not be
pub turning_skip : (n : ℕ) (places : List Place) (starts latest : List ℕ) (l : Literal) (from to : ℕ) (old new : List ℕ) (at : ℕ) → AreIndexed n places starts latest → 0 < at
    → get_or new (place_at places (at - 1)).clause 0 ≢ from → IsTurning n places starts l from to old new at → IsTurning n places starts l from to old new (place_at places (at - 1)).before
turning_skip n places starts latest l from to old new at x some stands h =
    let last = x.chained.back (at - 1) (omega (arith, h.below)) in
    record {
      below = omega (arith, last.below, h.below);
      here = before_here places l at (place_at places (at - 1)).before (h.here some) last;
      size = h.size;
      kept = h.kept;
      done = λ p a b same. ⊎_elim
          (λ (lt : p < at).
          let is : p ≡ at - 1 = between places l at (place_at places (at - 1)).before p some (h.here some) last a lt same in
          subst (λ (q : ℕ). get_or new (place_at places q).clause 0 ≢ from) (sym is) stands)
          (λ (ge : at ≤ p). h.done p ge b same)
          (cases_lt p at);
    }

-- the clause of the place is turned
pub turning_set : (n : ℕ) (places : List Place) (starts latest : List ℕ) (l : Literal) (from to : ℕ) (old new : List ℕ) (at : ℕ) → AreIndexed n places starts latest → n ≡ length old → from ≢ to → 0 < at
    → get_or new (place_at places (at - 1)).clause 0 ≡ from → IsTurning n places starts l from to old new at
    → IsTurning n places starts l from to old (set new (place_at places (at - 1)).clause to) (place_at places (at - 1)).before
turning_set n places starts latest l from to old new at x rows apart some stands h =
    let last = x.chained.back (at - 1) (omega (arith, h.below)) in
    let c = (place_at places (at - 1)).clause in
    let inside : c < length new = omega (arith, x.owned (at - 1) (omega (arith, h.below)), h.size) in
    let here : get_or (set new c to) c 0 ≡ to = get_or-set_same new c to 0 inside in
    record {
      below = omega (arith, last.below, h.below);
      here = before_here places l at (place_at places (at - 1)).before (h.here some) last;
      size = length-set new c to ∙ h.size;
      kept = λ i b. ⊎_elim
          (λ (e : i ≡ c).
          let holds_it : has (clause_of places starts c) l ≡ true = subst (λ (k : Literal). has (clause_of places starts c) k ≡ true) (h.here some) (holds n places starts latest (at - 1) x (omega (arith, h.below))) in
          ⊎_elim
          (λ (same : get_or new c 0 ≡ get_or old c 0). inr (ap (λ (k : ℕ). get_or old k 0) e ∙ sym same ∙ stands, ap (λ (k : ℕ). get_or (set new c to) k 0) e ∙ here, subst (λ (k : ℕ). has (clause_of places starts k) l ≡ true) (sym e) holds_it))
          (λ (turned : (get_or old c 0 ≡ from) × (get_or new c 0 ≡ to) × (has (clause_of places starts c) l ≡ true)). absurd (apart (sym stands ∙ turned.1)))
          (h.kept c (subst (λ (k : ℕ). k < n) e b)))
          (λ (ne : i ≡ c → ⊥).
          let stays : get_or (set new c to) i 0 ≡ get_or new i 0 = get_or-set_other new c i to 0 ne in
          ⊎_elim
          (λ (same : get_or new i 0 ≡ get_or old i 0). inl (stays ∙ same))
          (λ (turned : (get_or old i 0 ≡ from) × (get_or new i 0 ≡ to) × (has (clause_of places starts i) l ≡ true)). inr (turned.0, stays ∙ turned.1, turned.2))
          (h.kept i b))
          (cases_eq i c);
      done = λ p a b same. ⊎_elim
          (λ (e : (place_at places p).clause ≡ c). λ z. apart (sym z ∙ ap (λ (k : ℕ). get_or (set new c to) k 0) e ∙ here))
          (λ (ne : (place_at places p).clause ≡ c → ⊥).
          let stays = get_or-set_other new c (place_at places p).clause to 0 ne in
          ⊎_elim
          (λ (lt : p < at). absurd (ne (ap (λ (q : ℕ). (place_at places q).clause) (between places l at (place_at places (at - 1)).before p some (h.here some) last a lt same))))
          (λ (ge : at ≤ p). λ z. h.done p ge b same (sym stays ∙ z))
          (cases_lt p at))
          (cases_eq (place_at places p).clause c);
    }

-- after the first place
pub turning_end : (n : ℕ) (places : List Place) (starts latest : List ℕ) (l : Literal) (from to : ℕ) (old new : List ℕ) (at : ℕ) → AreIndexed n places starts latest → at ≡ 0
    → IsTurning n places starts l from to old new at → AreTurned n (clause_of places starts) l from to old new
turning_end n places starts latest l from to old new at x none h = record {
  size = h.size;
  turned = λ i b held was. ⊎_elim
      (λ (same : get_or new i 0 ≡ get_or old i 0).
      let here = place_in (places_of places starts i) l held in
      let span = x.inside i b in
      let size = part_length places (get_or starts i 0) (get_or starts (i + 1) 0) span.0 span.1 in
      let there = in_part places (get_or starts i 0) (get_or starts (i + 1) 0) here.0 (omega (arith, here.1)) span.1 in
      let owner : (place_at places (get_or starts i 0 + here.0)).clause ≡ i = ap (λ (e : Place). e.clause) (sym there) ∙ (x.here i b).clause here.0 here.1 in
      let literal : (place_at places (get_or starts i 0 + here.0)).literal ≡ l = ap (λ (e : Place). e.literal) (sym there) ∙ here.2 in
      absurd (h.done (get_or starts i 0 + here.0) (omega arith) (omega (arith, here.1)) literal (ap (λ (k : ℕ). get_or new k 0) owner ∙ same ∙ was)))
      (λ (turned : (get_or old i 0 ≡ from) × (get_or new i 0 ≡ to) × (has (clause_of places starts i) l ≡ true)). turned.1)
      (h.kept i b);
  kept = λ i b other. ⊎_elim
      (λ (same : get_or new i 0 ≡ get_or old i 0). same)
      (λ (turned : (get_or old i 0 ≡ from) × (get_or new i 0 ≡ to) × (has (clause_of places starts i) l ≡ true)). absurd (other turned.2 turned.0))
      (h.kept i b);
}
