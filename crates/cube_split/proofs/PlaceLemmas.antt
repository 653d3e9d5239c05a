-- Places of literals.
use Rattle.std.proofs.Common.{◌≡◌, ℕ, zero, suc, ◌+◌, ◌-◌, ◌<◌, ◌≤◌, Bool, true, false, not, cond, List, [], ◌∷◌, ◌++◌, length, get_or, set, map, take, drop, eqb, All, refl, sym, ap, subst, ◌∙◌, arith, ⊎_elim, length-append, append_assoc, get_or-set_same, get_or-set_other, length-set, length-drop}
use Rattle.std.specs.List.{slice_range}
use Rattle.std.proofs.Math.Seq.{get_or-append_seam, take-append_seam, drop-append_seam, get_or-append_right}
use Rattle.std.proofs.lemmas.Bool.{cases_eq, cases_lt, eq-eqb, ne_eqb, cond-true}
use Rattle.std.proofs.lemmas.List.Elements.{All-append}
use Rattle.std.proofs.lemmas.List.{get_or_append_left, take-append-le, drop-append-le, length-map, get_or-map, map-append, take_all, take_more, append-nil}
use Rattle.dimacs.specs.logic.Cnf.{literal_count}
use Rattle.dimacs.specs.logic.Literal.{Literal, Clause, var_of, index_of, literal_of}
use Rattle.cube_split.specs.Choice.{has_variable}
use Rattle.cube_split.specs.inner.OpenClauses.{AreIndexed}
use Rattle.cube_split.specs.inner.Places.{nowhere, place_at, places_of, AreOf, Appends, IsLast, AreChained, ArePlaced}
use Rattle.cube_split.specs.declared.places.Place.{Place}
use Rattle.cube_split.proofs.CountLemmas.{variable_at, variable_other}
use Rattle.cube_split.proofs.MarkLemmas.{literal_of-index_of}

pub same_index : (l m : Literal) → index_of l ≡ index_of m → l ≡ m
same_index l m e = sym (literal_of-index_of l) ∙ ap literal_of e ∙ literal_of-index_of m

at_end : (xs : List Place) (e : Place) (k : ℕ) → k ≡ length xs → place_at (xs ++ e ∷ []) k ≡ e
at_end xs e k is = ap (place_at (xs ++ e ∷ [])) is ∙ get_or-append_seam xs e [] nowhere

before_end : (xs : List Place) (e : Place) (k : ℕ) → k < length xs → place_at (xs ++ e ∷ []) k ≡ place_at xs k
before_end xs e k below = get_or_append_left xs (e ∷ []) nowhere k below

of_none : (i : ℕ) → AreOf i [] []
of_none i = record { literals = refl; clause = λ k below. absurd (omega arith); first = λ k below. absurd (omega arith) }

-- one more literal of the clause
of_push : (i : ℕ) (D : Clause) (more : List Place) (e : Place) → AreOf i D more → e.clause ≡ i → e.first ≡ not (has_variable D (var_of e.literal))
    → AreOf i (D ++ e.literal ∷ []) (more ++ e ∷ [])
of_push i D more e h is first =
    let size : length more ≡ length D = sym (length-map more (λ (x : Place). x.literal)) ∙ ap (λ (xs : Clause). length xs) h.literals in
    record {
      literals = map-append (λ (x : Place). x.literal) more (e ∷ []) ∙ ap (λ (xs : Clause). xs ++ e.literal ∷ []) h.literals;
      clause = λ k below. ⊎_elim
          (λ (lt : k < length more). ap (λ (x : Place). x.clause) (before_end more e k lt) ∙ h.clause k lt)
          (λ (ge : length more ≤ k). let last : k ≡ length more = omega (arith, length-append more (e ∷ [])) in ap (λ (x : Place). x.clause) (at_end more e k last) ∙ is)
          (cases_lt k (length more));
      first = λ k below. ⊎_elim
          (λ (lt : k < length more).
          let here : k ≤ length D = omega arith in
          let shorter = take-append-le k D (e.literal ∷ []) here in
          rw (before_end more e k lt, shorter) (h.first k lt))
          (λ (ge : length more ≤ k).
          let last : k ≡ length more = omega (arith, length-append more (e ∷ [])) in
          let all : take k (D ++ e.literal ∷ []) ≡ D = ap (λ (n : ℕ). take n (D ++ e.literal ∷ [])) (last ∙ size) ∙ take-append_seam D (e.literal ∷ []) in
          rw (at_end more e k last, all) first)
          (cases_lt k (length more));
    }

last_kept : (xs : List Place) (e : Place) (n : ℕ) (l : Literal) (q : ℕ) → n ≤ length xs → IsLast xs n l q → IsLast (xs ++ e ∷ []) n l q
last_kept xs e n l q fits h = record {
  below = h.below;
  stands = λ s. ap (λ (x : Place). x.literal) (before_end xs e (q - 1) (omega (arith, h.below))) ∙ h.stands s;
  none = λ r a b same. h.none r a b (sym (ap (λ (x : Place). x.literal) (before_end xs e r (omega arith))) ∙ same);
}

-- a place after the others, and the table that leads to it
pub chain_push : (places : List Place) (latest : List ℕ) (e : Place) (n : ℕ) → AreChained places latest → e.before ≡ get_or latest (index_of e.literal) 0 → index_of e.literal < length latest
    → n ≡ length places + 1 → AreChained (places ++ e ∷ []) (set latest (index_of e.literal) n)
chain_push places latest e n h is inside count =
    let long = length-append places (e ∷ []) in
    record {
      back = λ p b. ⊎_elim
          (λ (lt : p < length places). rw (before_end places e p lt) (last_kept places e p (place_at places p).literal (place_at places p).before (omega arith) (h.back p lt)))
          (λ (ge : length places ≤ p).
          let last : p ≡ length places = omega arith in
          let here : IsLast (places ++ e ∷ []) (length places) e.literal e.before = subst (IsLast (places ++ e ∷ []) (length places) e.literal) (sym is) (last_kept places e (length places) e.literal (get_or latest (index_of e.literal) 0) (omega arith) (h.table e.literal inside)) in
          rw (at_end places e p last) (subst (λ (m : ℕ). IsLast (places ++ e ∷ []) m e.literal e.before) (sym last) here))
          (cases_lt p (length places));
      table = λ l b. ⊎_elim
          (λ (same : index_of l ≡ index_of e.literal).
          let is_n : get_or (set latest (index_of e.literal) n) (index_of l) 0 ≡ n = ap (λ (k : ℕ). get_or (set latest (index_of e.literal) n) k 0) same ∙ get_or-set_same latest (index_of e.literal) n 0 inside in
          rw is_n (record {
            below = omega arith;
            stands = λ s. ap (λ (x : Place). x.literal) (at_end places e (n - 1) (omega arith)) ∙ sym (same_index l e.literal same);
            none = λ r a c. absurd (omega arith);
          }))
          (λ (ne : index_of l ≡ index_of e.literal → ⊥).
          let stays = get_or-set_other latest (index_of e.literal) (index_of l) n 0 ne in
          let old = h.table l (omega (arith, length-set latest (index_of e.literal) n)) in
          let kept = last_kept places e (length places) l (get_or latest (index_of l) 0) (omega arith) old in
          rw stays (record {
            below = omega (arith, old.below);
            stands = kept.stands;
            none = λ r a c. ⊎_elim
                (λ (lt : r < length places). kept.none r a lt)
                (λ (ge : length places ≤ r). λ (eq : (place_at (places ++ e ∷ []) r).literal ≡ l). ne (ap index_of (sym eq ∙ ap (λ (x : Place). x.literal) (at_end places e r (omega arith)))))
                (cases_lt r (length places));
          }))
          (cases_eq (index_of l) (index_of e.literal));
    }

pub chain_none : (latest : List ℕ) → ((k : ℕ) → k < length latest → get_or latest k 0 ≡ 0) → AreChained [] latest
chain_none latest zeros = record {
  back = λ p b. absurd (omega arith);
  table = λ l b. rw (zeros (index_of l) b) (record { below = omega arith; stands = λ s. absurd (omega arith); none = λ r a c. absurd (omega arith) });
}

-- the places of a front of a clause were appended
pub record IsBegun (old places : List Place) (latest start last : List ℕ) (i : ℕ) (D : Clause) : Type 0 where
  pub more : List Place
  pub appended : places ≡ old ++ more
  pub parts : AreOf i D more
  pub chained : AreChained places latest
  pub size : length last ≡ length start
  pub met : (w : ℕ) → w < length start → get_or last w 0 ≡ cond (has_variable D w) (i + 1) (get_or start w 0)

pub begun_none : (old : List Place) (latest start : List ℕ) (i : ℕ) → AreChained old latest → IsBegun old old latest start start i []
begun_none old latest start i h = record {
  more = [];
  appended = sym (append-nil old);
  parts = of_none i;
  chained = h;
  size = refl;
  met = λ w b. refl;
}

-- whether a variable was met in this clause
not_met : (start last : List ℕ) (i v : ℕ) (b : Bool) → get_or start v 0 ≤ i → get_or last v 0 ≡ cond b (i + 1) (get_or start v 0) → (get_or last v 0 ≡ i + 1 → ⊥) → b ≡ false
not_met start last i v true low e ne = absurd (ne e)
not_met start last i v false low e ne = refl

was_met : (start last : List ℕ) (i v : ℕ) (b : Bool) → get_or start v 0 ≤ i → get_or last v 0 ≡ cond b (i + 1) (get_or start v 0) → get_or last v 0 ≡ i + 1 → b ≡ true
was_met start last i v true low e is = refl
was_met start last i v false low e is = absurd (omega arith)

pub begun_more : (old places : List Place) (latest start last : List ℕ) (i : ℕ) (C : Clause) (k v n : ℕ) (l : Literal) (e : Place)
    → k < length C → l ≡ get_or C k l → v ≡ var_of l → v < length start → index_of l < length latest → n ≡ length places + 1
    → e.literal ≡ l → e.clause ≡ i → e.before ≡ get_or latest (index_of l) 0 → e.first ≡ not (has_variable (take k C) v)
    → IsBegun old places latest start last i (take k C) → IsBegun old (places ++ e ∷ []) (set latest (index_of l) n) start (set last v (i + 1)) i (take (k + 1) C)
begun_more old places latest start last i C k v n l e below is var inside within count literal clause before first h = record {
  more = h.more ++ e ∷ [];
  appended = ap (λ (xs : List Place). xs ++ e ∷ []) h.appended ∙ append_assoc old h.more (e ∷ []);
  parts = rw (longer, ← literal) (of_push i (take k C) h.more e h.parts clause (first ∙ ap (λ (w : ℕ). not (has_variable (take k C) w)) (var ∙ ap var_of (sym literal))));
  chained = rw (← literal) (chain_push places latest e n h.chained (before ∙ ap (λ (x : Literal). get_or latest (index_of x) 0) (sym literal)) (rw literal within) count);
  size = length-set last v (i + 1) ∙ h.size;
  met = λ w b. ⊎_elim
      (λ (same : w ≡ v).
      ap (λ (j : ℕ). get_or (set last v (i + 1)) j 0) same ∙ get_or-set_same last v (i + 1) 0 (omega (arith, h.size)) ∙ sym (cond-true (has_variable (take (k + 1) C) w) (i + 1) (get_or start w 0) (variable_at C k l w below is (sym var ∙ sym same))))
      (λ (other : w ≡ v → ⊥).
      get_or-set_other last v w (i + 1) 0 other ∙ h.met w b ∙ ap (λ (t : Bool). cond t (i + 1) (get_or start w 0)) (sym (variable_other C k l w below is (λ e. other (sym e ∙ sym var)))))
      (cases_eq w v);
} where
  longer : take (k + 1) C ≡ take k C ++ l ∷ []
  longer = take_more C k l below ∙ ap (λ (x : Literal). take k C ++ x ∷ []) (sym is)

-- the first flag of a literal, by the last clause in which its variable was met
pub first_of : (start last : List ℕ) (i v : ℕ) (b t : Bool) → get_or start v 0 ≤ i → get_or last v 0 ≡ cond b (i + 1) (get_or start v 0) → t ≡ not (eqb (get_or last v 0) (i + 1)) → t ≡ not b
first_of start last i v b t low e is = is ∙ ap not (⊎_elim
    (λ (same : get_or last v 0 ≡ i + 1). eq-eqb _ _ same ∙ sym (was_met start last i v b low e same))
    (λ (ne : get_or last v 0 ≡ i + 1 → ⊥). ne_eqb _ _ ne ∙ sym (not_met start last i v b low e ne))
    (cases_eq (get_or last v 0) (i + 1)))

-- after a whole clause
pub begun_last : (old places : List Place) (latest start last : List ℕ) (i : ℕ) (C : Clause) (w : ℕ) → IsBegun old places latest start last i C → w < length start → get_or start w 0 ≤ i → get_or last w 0 ≤ i + 1
begun_last old places latest start last i C w h below low = at_most (has_variable C w) (h.met w below) where
  at_most : (b : Bool) → get_or last w 0 ≡ cond b (i + 1) (get_or start w 0) → get_or last w 0 ≤ i + 1
  at_most true e = omega arith
  at_most false e = omega arith

-- ---- all clauses

slice_kept : (xs more : List Place) (a b : ℕ) → a ≤ b → b ≤ length xs → slice_range (xs ++ more) a b ≡ slice_range xs a b
slice_kept xs more a b le fits =
    ap (take (b - a)) (drop-append-le a xs more (omega arith)) ∙ take-append-le (b - a) (drop a xs) more (omega (arith, length-drop a xs))

slice_last : (xs more : List Place) (a b : ℕ) → a ≡ length xs → b ≡ length (xs ++ more) → slice_range (xs ++ more) a b ≡ more
slice_last xs more a b start end =
    let rest : drop a (xs ++ more) ≡ more = ap (λ (n : ℕ). drop n (xs ++ more)) start ∙ drop-append_seam xs more in
    let count : b - a ≡ length more = omega (arith, length-append xs more) in
    ap (take (b - a)) rest ∙ take_all (b - a) more (omega arith)

pub placed_none : (clauses : List Clause) (starts : List ℕ) → starts ≡ 0 ∷ [] → ArePlaced clauses 0 [] starts
placed_none clauses starts is = rw is (record {
  long = refl;
  last = refl;
  inside = λ i b. absurd (omega arith);
  here = λ i b. absurd (omega arith);
  owned = λ p b. absurd (omega arith);
  inside_own = λ p b. absurd (omega arith);
})

pub placed_more : (clauses : List Clause) (n m : ℕ) (places new : List Place) (starts : List ℕ) (C : Clause) → ArePlaced clauses n places starts → C ≡ get_or clauses n []
    → Appends places n C new → m ≡ length new → ArePlaced clauses (n + 1) new (starts ++ m ∷ [])
placed_more clauses n m places new starts C h is more count =
    let old : (i : ℕ) → i < n + 1 → get_or (starts ++ m ∷ []) i 0 ≡ get_or starts i 0 = λ i b. get_or_append_left starts (m ∷ []) 0 i (omega (arith, h.long)) in
    let end : get_or (starts ++ m ∷ []) (n + 1) 0 ≡ m = ap (λ (k : ℕ). get_or (starts ++ m ∷ []) k 0) (sym h.long) ∙ get_or-append_seam starts m [] 0 in
    let all : length new ≡ length places + length more.more = ap (λ (xs : List Place). length xs) more.appended ∙ length-append places more.more in
    record {
      long = omega (arith, length-append starts (m ∷ []), h.long);
      last = end ∙ count;
      inside = λ i b. ⊎_elim
          (λ (e : i ≡ n). rw (e, old n (omega arith), end, h.last) (omega arith, omega arith))
          (λ (ne : i ≡ n → ⊥). let was = h.inside i (omega arith) in rw (old i (omega arith), old (i + 1) (omega arith)) (was.0, omega (arith, was.1)))
          (cases_eq i n);
      here = λ i b. ⊎_elim
          (λ (e : i ≡ n).
          let slice : slice_range new (get_or (starts ++ m ∷ []) i 0) (get_or (starts ++ m ∷ []) (i + 1) 0) ≡ more.more =
          ap (λ (xs : List Place). slice_range xs (get_or (starts ++ m ∷ []) i 0) (get_or (starts ++ m ∷ []) (i + 1) 0)) more.appended
          ∙ slice_last places more.more (get_or (starts ++ m ∷ []) i 0) (get_or (starts ++ m ∷ []) (i + 1) 0)
          (ap (λ (k : ℕ). get_or (starts ++ m ∷ []) k 0) e ∙ old n (omega arith) ∙ h.last)
          (ap (λ (k : ℕ). get_or (starts ++ m ∷ []) (k + 1) 0) e ∙ end ∙ count ∙ ap (λ (xs : List Place). length xs) more.appended) in
          rw (slice, e, ← is) more.places)
          (λ (ne : i ≡ n → ⊥).
          let was = h.inside i (omega arith) in
          let slice : slice_range new (get_or (starts ++ m ∷ []) i 0) (get_or (starts ++ m ∷ []) (i + 1) 0) ≡ slice_range places (get_or starts i 0) (get_or starts (i + 1) 0) =
          rw (old i (omega arith), old (i + 1) (omega arith), more.appended) (slice_kept places more.more (get_or starts i 0) (get_or starts (i + 1) 0) was.0 was.1) in
          rw slice (h.here i (omega arith)))
          (cases_eq i n);
      owned = λ p b. ⊎_elim
          (λ (lt : p < length places).
          let same : place_at new p ≡ place_at places p = ap (λ (xs : List Place). place_at xs p) more.appended ∙ get_or_append_left places more.more nowhere p lt in
          rw same (omega (arith, h.owned p lt)))
          (λ (ge : length places ≤ p).
          let same : place_at new p ≡ place_at more.more (p - length places) = ap (λ (xs : List Place). place_at xs p) more.appended ∙ get_or-append_right places more.more p nowhere ge in
          rw same (omega (arith, more.places.clause (p - length places) (omega arith))))
          (cases_lt p (length places));
      inside_own = λ p b. ⊎_elim
          (λ (lt : p < length places).
          let same : place_at new p ≡ place_at places p = ap (λ (xs : List Place). place_at xs p) more.appended ∙ get_or_append_left places more.more nowhere p lt in
          let own = h.owned p lt in
          let was = h.inside_own p lt in
          rw (same, old (place_at places p).clause (omega arith), old ((place_at places p).clause + 1) (omega arith)) was)
          (λ (ge : length places ≤ p).
          let same : place_at new p ≡ place_at more.more (p - length places) = ap (λ (xs : List Place). place_at xs p) more.appended ∙ get_or-append_right places more.more p nowhere ge in
          let own : (place_at new p).clause ≡ n = ap (λ (x : Place). x.clause) same ∙ more.places.clause (p - length places) (omega arith) in
          rw (own, old n (omega arith), end, h.last) (ge, omega arith))
          (cases_lt p (length places));
    }

pub appended_count : (old new : List Place) (i : ℕ) (C : Clause) → Appends old i C new → length new ≡ length old + length C
appended_count old new i C h =
    let size : length h.more ≡ length C = sym (length-map h.more (λ (x : Place). x.literal)) ∙ ap (λ (xs : Clause). length xs) h.places.literals in
    omega (arith, ap (λ (xs : List Place). length xs) h.appended, length-append old h.more)

pub count_more : (clauses : List Clause) (i : ℕ) → i < length clauses → literal_count (take (i + 1) clauses) ≡ literal_count (take i clauses) + length (get_or clauses i [])
count_more [] i below = absurd (omega arith)
count_more (C ∷ clauses) zero below = omega arith
count_more (C ∷ clauses) (suc i) below = let next : suc i + 1 ≡ suc (i + 1) = omega arith in rw next (omega (arith, count_more clauses i (omega arith)))

pub appended_within : (old new : List Place) (i n : ℕ) (C : Clause) → Appends old i C new → All (λ (e : Place). var_of e.literal < n) old → All (λ l. var_of l < n) C → All (λ (e : Place). var_of e.literal < n) new
appended_within old new i n C h before clause = rw h.appended (All-append (λ (e : Place). var_of e.literal < n) old h.more before (λ k d b.
    let literal : get_or C k (get_or h.more k d).literal ≡ (get_or h.more k d).literal = ap (λ (xs : Clause). get_or xs k (get_or h.more k d).literal) (sym h.places.literals) ∙ get_or-map (λ (e : Place). e.literal) h.more k d (get_or h.more k d).literal b in
    let size : length h.more ≡ length C = sym (length-map h.more (λ (x : Place). x.literal)) ∙ ap (λ (xs : Clause). length xs) h.places.literals in
    subst (λ (l : Literal). var_of l < n) literal (clause k (get_or h.more k d).literal (omega arith))))

-- what a walk looks up in the places
pub indexed : (clauses : List Clause) (places : List Place) (starts latest : List ℕ) → ArePlaced clauses (length clauses) places starts → AreChained places latest → AreIndexed (length clauses) places starts latest
indexed clauses places starts latest p h = record {
  long = p.long;
  inside = p.inside;
  here = λ i b. own i (get_or clauses i []) (places_of places starts i) (p.here i b);
  owned = p.owned;
  inside_own = p.inside_own;
  chained = h;
} where
  own : (i : ℕ) (C : Clause) (ps : List Place) → AreOf i C ps → AreOf i (map (λ (e : Place). e.literal) ps) ps
  own i C ps x = subst (λ (D : Clause). AreOf i D ps) (sym x.literals) x
