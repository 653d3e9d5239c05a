-- Blocks of the trail without a met entry are skipped.
use Rattle.std.proofs.Common.{◌≡◌, ℕ, zero, suc, ◌+◌, ◌-◌, ◌/◌, ◌<◌, ◌≤◌, ◌⊎◌, inl, inr, Bool, true, false, eqb, ◌||◌, ◌&&◌, List, [], ◌∷◌, ◌++◌, length, get_or, set, take, refl, ap, sym, ◌∙◌, subst, arith, drop, None}
use Rattle.std.specs.List.{IsDistinct}
use Rattle.std.proofs.lemmas.Bool.{both_ways, cases_lt, eq-eqb, eqb-true, false_from_ne_true, or_cases, or_left, or_right}
use Rattle.std.proofs.lemmas.List.{get_or-map, length-map, take_more, take-append-drop}
use Rattle.std.proofs.lemmas.Map.Keys.{apart_from_distinct}
use Rattle.clause_arena.specs.Clauses.{Clauses, live_of}
use Rattle.dimacs.specs.logic.Literal.{Pos, var_of}
use Rattle.watches.specs.Trails.{TrailValue, variables}
use Rattle.watches.specs.declared.trail.Assigned.{Assigned}
use Rattle.conflict_analysis.specs.declared.lemma.Lemma.{Lemma}
use Rattle.conflict_analysis.specs.declared.first_uip.TrailWalk.{TrailWalk}
use Rattle.conflict_analysis.specs.BuiltTrails.{AreBuilt}
use Rattle.conflict_analysis.specs.inner.Seen.{met}
use Rattle.conflict_analysis.specs.inner.TrailWalk.{AreMarked, ArePlaced, IsUnderWay, IsWalk, is_lower, is_present, waiting}
use Rattle.conflict_analysis.proofs.EntryLemmas.{one_if, waiting_cons}
use Rattle.conflict_analysis.proofs.MetLiteralLemmas.{met_set}
use Rattle.conflict_analysis.proofs.EntryStepLemmas.{past_unmet}

-- an entry stands at one place
one_place : (es : List Assigned) (k p : ℕ) (d : Assigned) → IsDistinct eqb (variables es) → k < length es → p < length es
    → var_of (get_or es k d).literal ≡ var_of (get_or es p d).literal → k ≡ p
one_place es k p d apart a b same = elim (cases_lt k p) [
  | inl less ↦ absurd (differ k p less b same)
  | inr over ↦ elim (cases_lt p k) [
    | inl less ↦ absurd (differ p k less a (sym same))
    | inr under ↦ omega arith
  ]
]
  where
    variable_at : (i : ℕ) → i < length es → get_or (variables es) i (var_of d.literal) ≡ var_of (get_or es i d).literal
    variable_at i lt = get_or-map (λ (e : Assigned). var_of e.literal) es i d (var_of d.literal) lt

    differ : (i j : ℕ) → i < j → j < length es → var_of (get_or es i d).literal ≡ var_of (get_or es j d).literal → ⊥
    differ i j lt below q =
        let n : length (variables es) ≡ length es = length-map es (λ (e : Assigned). var_of e.literal) in
        let h = apart_from_distinct eqb (variables es) i j (var_of d.literal) apart lt (omega (arith, n, below)) in
        both_ways (eqb (get_or (variables es) i (var_of d.literal)) (get_or (variables es) j (var_of d.literal))) h
        (eq-eqb _ _ (variable_at i (omega arith) ∙ q ∙ sym (variable_at j below)))

-- one more is met, and its block is marked
pub marks_more : (es : List Assigned) (f g : ℕ → Bool) (blocks : List Bool) (v p : ℕ) → IsDistinct eqb (variables es) → length es / 8 < length blocks → p < length es
    → ((d : Assigned) → var_of (get_or es p d).literal ≡ v) → ((u : ℕ) → g u ≡ (f u || eqb u v)) → AreMarked es f blocks → AreMarked es g (set blocks (p / 8) true)
marks_more es f g blocks v p apart wide here is grown marked k d lt h =
    let room : p / 8 < length blocks = omega arith in
    met_set blocks (p / 8) (k / 8) room ∙ elim (or_cases (f (var_of (get_or es k d).literal)) (eqb (var_of (get_or es k d).literal) v) (sym (grown (var_of (get_or es k d).literal)) ∙ h)) [
      | inl t ↦ or_left (met blocks (k / 8)) (eqb (k / 8) (p / 8)) (marked k d lt t)
      | inr t ↦
          let q : k ≡ p = one_place es k p d apart lt here (eqb-true _ _ t ∙ sym (is d)) in
          or_right (met blocks (k / 8)) (eqb (k / 8) (p / 8)) (eq-eqb _ _ (ap (λ i. i / 8) q))
    ]

-- one more is met, and its index is marked
pub places_more : (es : List Assigned) (f g : ℕ → Bool) (places : List Bool) (v p : ℕ) → IsDistinct eqb (variables es) → length es ≤ length places → p < length es
    → ((d : Assigned) → var_of (get_or es p d).literal ≡ v) → ((u : ℕ) → g u ≡ (f u || eqb u v)) → ArePlaced es f places → ArePlaced es g (set places p true)
places_more es f g places v p apart whole here is grown placed k d lt h =
    let room : p < length places = omega arith in
    met_set places p k room ∙ elim (or_cases (f (var_of (get_or es k d).literal)) (eqb (var_of (get_or es k d).literal) v) (sym (grown (var_of (get_or es k d).literal)) ∙ h)) [
      | inl t ↦ or_left (met places k) (eqb k p) (placed k d lt t)
      | inr t ↦ or_right (met places k) (eqb k p) (eq-eqb _ _ (one_place es k p d apart lt here (eqb-true _ _ t ∙ sym (is d))))
    ]

-- ---- past entries that were not met
waiting_past : (es : List Assigned) (f at : ℕ → Bool) (e : Assigned) → f (var_of e.literal) ≡ false → waiting f at (es ++ e ∷ []) ≡ waiting f at es
waiting_past [] f at e new =
    let a = waiting_cons f at e [] in
    let b : one_if (f (var_of e.literal) && at e.level) ≡ 0 = ap (λ x. one_if (x && at e.level)) new in
    omega (arith, a, b)
waiting_past (x ∷ xs) f at e new =
    let a = waiting_cons f at x (xs ++ e ∷ []) in
    let b = waiting_cons f at x xs in
    let c = waiting_past xs f at e new in
    omega (arith, a, b, c)

-- any entry
abbrev pub default : Assigned
default = record { literal = Pos 1; level = 0; reason = None }

-- the walk that is left after an entry that was not met
pub walk_past : (t : TrailValue) (w : TrailWalk) (i : ℕ) → i < length t.entries → met w.seen (var_of (get_or t.entries i default).literal) ≡ false
    → IsWalk t (take (i + 1) t.entries) w → IsWalk t (take i t.entries) w
walk_past t w i lt new walk =
    let es = t.entries in
    let more = take_more es i default lt in
    record {
      valid = walk.valid;
      before = (drop i es, sym (take-append-drop i es));
      room = walk.room;
      level = walk.level;
      counted = record {
        opened = walk.counted.opened ∙ ap (waiting (met w.seen) (is_present es)) more ∙ waiting_past (take i es) (met w.seen) (is_present es) (get_or es i default) new;
        remaining = walk.counted.remaining ∙ ap (waiting (met w.seen) (is_lower es)) more ∙ waiting_past (take i es) (met w.seen) (is_lower es) (get_or es i default) new;
      };
      listed = walk.listed;
      again = walk.again;
      wide = walk.wide;
      marked = walk.marked;
      whole = walk.whole;
      placed = walk.placed;
    }

-- an entry whose index is not marked was not met
pub unplaced : (t : TrailValue) (front : List Assigned) (w : TrailWalk) (i : ℕ) (d : Assigned) → IsWalk t front w → i < length t.entries → met w.places i ≡ false
    → met w.seen (var_of (get_or t.entries i d).literal) ≡ false
unplaced t front w i d walk lt unmarked = false_from_ne_true _ (λ h. both_ways (met w.places i) unmarked (walk.placed i d lt h))

module _ (m : Clauses) (t : TrailValue) (built : AreBuilt (live_of m) [] t.entries) (w : TrailWalk) (lemma : Lemma) where
  abbrev es : List Assigned
  es = t.entries

  come_past : (n i j : ℕ) → j + n ≡ i → i ≤ length es → ((k : ℕ) → j ≤ k → k < i → met w.blocks (k / 8) ≡ false) → IsUnderWay (live_of m) t i w lemma → IsUnderWay (live_of m) t j w lemma
  come_past zero i j e le unmarked way = let is : i ≡ j = omega arith in subst (λ k. IsUnderWay (live_of m) t k w lemma) is way
  come_past (suc n) i j e le unmarked way =
      let i1 : ℕ = j + n in
      let is : i ≡ i1 + 1 = omega arith in
      let lt : i1 < length es = omega arith in
      let here : IsUnderWay (live_of m) t (i1 + 1) w lemma = subst (λ k. IsUnderWay (live_of m) t k w lemma) is way in
      let new : met w.seen (var_of (get_or es i1 default).literal) ≡ false = false_from_ne_true _ (λ h. both_ways (met w.blocks (i1 / 8)) (unmarked i1 (omega arith) (omega arith)) (here.walk.marked i1 default lt h)) in
      come_past n i1 j refl (omega arith) (λ k a b. unmarked k a (omega arith))
      (past_unmet m t i1 lt built default w w lemma here (walk_past t w i1 lt new here.walk) refl (λ _. refl) new refl)

  -- the walk comes down over blocks that are not marked
  pub skips_down : (i j : ℕ) → j ≤ i → i ≤ length es → ((k : ℕ) → j ≤ k → k < i → met w.blocks (k / 8) ≡ false) → IsUnderWay (live_of m) t i w lemma → IsUnderWay (live_of m) t j w lemma
  skips_down i j le within unmarked way = come_past (i - j) i j (omega arith) within unmarked way

-- if some entry that was met is left, the walk is not at the trail's beginning
pub some_left : (m : Clauses) (t : TrailValue) (w : TrailWalk) (lemma : Lemma) (i : ℕ) → IsUnderWay (live_of m) t i w lemma → (0 < w.pending) ⊎ (0 < w.rest) → 0 < i
some_left m t w lemma zero way some =
    let a : w.pending ≡ 0 = way.walk.counted.opened in
    let b : w.rest ≡ 0 = way.walk.counted.remaining in
    elim some [ inl h ↦ absurd (omega (arith, a, h)) | inr h ↦ absurd (omega (arith, b, h)) ]
some_left m t w lemma (suc i) way some = omega arith
