-- The walk along the pending list, and what a visit of a pending watch leaves.
use Rattle.std.proofs.Common.{◌≡◌, ◌≢◌, ℕ, zero, suc, ◌+◌, ◌*◌, ◌-◌, ◌/◌, ◌%◌, ◌<◌, ◌≤◌, ◌⊎◌, inl, inr, Bool, true, false, List, [], ◌∷◌, ◌++◌, length, get_or, swap, Some, refl, ap, sym, ◌∙◌, subst, arith, Contains, append_assoc}
use Rattle.std.specs.List.{IsDistinct}
use Rattle.std.specs.FinMap.{get, insert}
use Rattle.std.proofs.lemmas.Bool.{cases_eq}
use Rattle.std.proofs.lemmas.List.Edits.{length-swap}
use Rattle.dimacs.specs.logic.Literal.{Literal, Clause, Pos, Neg, IsWithin, negation, same, index_of}
use Rattle.dimacs.proofs.LiteralLemmas.{index_apart, index_below, same_or_not}
use Rattle.clause_arena.specs.declared.reference.Ref.{Ref}
use Rattle.clause_arena.specs.Clauses.{Clauses, RefersTo, live_of}
use Rattle.clause_arena.proofs.ClauseLaws.{swapped_stands, other_stood}
use Rattle.watches.specs.declared.trail.Assigned.{Assigned}
use Rattle.watches.specs.Trails.{TrailValue, holds, IsTruth}
use Rattle.watches.specs.declared.truth.Truth.{Truth}
use Rattle.watches.specs.declared.truth.Truth.TheVariants.{Free, True, False}
use Rattle.watches.specs.Law.{SameUpToOrder, NeitherFalseNorUnit, live_among}
use Rattle.watches.specs.ClauseNumbers.{numbers}
use Rattle.watches.specs.inner.LiveClauses.{IsLiveWithin}
use Rattle.watches.specs.inner.ScanLaws.{has_number}
use Rattle.watches.proofs.GuardLemmas.{guarded_free}
use Rattle.watches.specs.declared.watched.watch.Watch.{Watch}
use Rattle.watches.specs.inner.WatchLists.{literal_at, next_of, twin, IsIn, IsOnce, IsWatchList, last_of, Relinks, MayRelink}
use Rattle.watches.specs.inner.WatchInvariants.{owner, no_clause, FindsWatch, IsGuarded, IsLong, IsRootSatisfied, IsWatching, IsRelinked}
use Rattle.watches.specs.inner.ListWalk.{IsConsistent, IsShorter, PendingWalk, VisitsPending, AllPendingSatisfied, IsSatisfied, left_behind}
use Rattle.watches.proofs.WatchListLemmas.{in_left, in_right, in_either, apart_before, once_back, last_in, last_push, chain_rest, after_l, moved_paths, may_relink}
use Rattle.watches.proofs.TwinLemmas.{parity}
use Rattle.watches.proofs.SwapLemmas.{contains_swapped}
use Rattle.watches.proofs.RelinkLemmas.{moved, put}
use Rattle.watches.specs.inner.ReadyLaws.{pushed}
use Rattle.watches.proofs.ListWalkLemmas.{holds_pushed, same_swapped, cons_of, left_behind_is, consistent_push, holds_front}
use Rattle.watches.specs.Watches.{Watches}
use Rattle.watches.specs.declared.watched.visit.Visit.TheVariants.{Moves}

pub index_high : (n : ℕ) (x : Literal) → IsWithin n x → 0 < index_of x
index_high n (Pos v) h = omega (arith, h.0)
index_high n (Neg v) h = omega (arith, h.0)

pub satisfied_swapped : (m : Clauses) (es : List Assigned) (at own : Ref) (C : Clause) (i j : ℕ) → RefersTo m own C → i < length C → j < length C → IsSatisfied m es at → IsSatisfied (insert m own.number (own.place, swap C i j)) es at
satisfied_swapped m es at own C i j st hi hj h D s = elim (cases_eq at.number own.number) [
  | inl e ↦
      let sw = swapped_stands m own C i j st in
      let gs : get (insert m own.number (own.place, swap C i j)) own.number ≡ Some (at.place, D) = ap (get (insert m own.number (own.place, swap C i j))) (sym e) ∙ s.0 in
      let both : ◌≡◌ {A = ℕ × Clause} (own.place, swap C i j) (at.place, D) = (let g : Some (own.place, swap C i j) ≡ Some (at.place, D) = sym sw.0 ∙ gs in cc) in
      let same_place : own.place ≡ at.place = ap (λ (x : ℕ × Clause). x.0) both in
      let same_D : swap C i j ≡ D = ap (λ (x : ℕ × Clause). x.1) both in
      let old : RefersTo m at C = (ap (get m) e ∙ st.0 ∙ ap (λ (z : ℕ). Some (z, C)) same_place, s.1 ∙ ap length (sym same_D) ∙ length-swap C i j) in
      let b = h C old in
      (b.0, subst (λ E. Contains E b.0) same_D (contains_swapped C i j b.0 hi hj b.1), b.2)
  | inr n ↦ h D (other_stood m own.number (own.place, swap C i j) at D n s)
]

pub pending_left : (W : Watches) (m : Clauses) (t : TrailValue) (previous : ℕ) (w : PendingWalk W m t previous) → left_behind W.places previous ≡ length w.rest
pending_left W m t previous w =
    let b = w.watching.wide in
    left_behind_is W.places previous W.base w.rest
    (subst (λ p. IsWatchList W.places p w.rest) (sym w.previous_is) (chain_rest W.places 0 w.done w.rest (subst (IsWatchList W.places 0) w.path (w.watching.lists.watch_list 0 (omega arith)))))
    (once_back w.done w.rest (subst IsOnce w.path (w.watching.lists.once 0)))
    (omega arith)
    (λ q i. w.watching.lists.real 0 q (subst (IsIn q) (sym w.path) (in_right q w.done w.rest i)))

-- the place that is looked at
module _ (W : Watches) (m : Clauses) (t : TrailValue) (previous here : ℕ)
    (w : PendingWalk W m t previous) (is : here ≡ next_of W.places previous) (some : 0 < here) where
  pub zero_head : 0 < W.base / 2
  zero_head = let b = w.watching.wide in omega arith

  chain_behind : IsWatchList W.places previous w.rest
  chain_behind = subst (λ p. IsWatchList W.places p w.rest) (sym w.previous_is) (chain_rest W.places 0 w.done w.rest (subst (IsWatchList W.places 0) w.path (w.watching.lists.watch_list 0 zero_head)))

  pub behind : (more : List ℕ) × (w.rest ≡ here ∷ more)
  behind = cons_of W.places previous here w.rest chain_behind is some

  pub path_here : w.paths 0 ≡ w.done ++ here ∷ behind.0
  path_here = w.path ∙ ap (λ r. w.done ++ r) behind.1

  pub here_in : IsIn here (w.paths 0)
  here_in = subst (IsIn here) (sym path_here) (in_right here w.done (here ∷ behind.0) (inl refl))

  pub here_real : (W.base ≤ here) × (here < length W.places)
  here_real = w.watching.lists.real 0 here here_in

  once_here : IsOnce (w.done ++ here ∷ behind.0)
  once_here = subst IsOnce path_here (w.watching.lists.once 0)

  pub done_real : (q : ℕ) → IsIn q w.done → (W.base ≤ q) × (q < length W.places)
  done_real q h = w.watching.lists.real 0 q (subst (IsIn q) (sym path_here) (in_left q w.done (here ∷ behind.0) h))

  pub previous_in : previous < length W.places
  previous_in = elim (last_in 0 w.done) [
    | inl e ↦ let b = here_real in omega (arith, w.previous_is, b.1)
    | inr h ↦ let a = done_real (last_of 0 w.done) h in omega (arith, w.previous_is, a.1)
  ]

  pub previous_apart : previous ≢ here
  previous_apart e = elim (last_in 0 w.done) [
    | inl q ↦ omega (arith, w.previous_is)
    | inr h ↦ apart_before here w.done behind.0 once_here (subst (λ z. IsIn z w.done) (sym w.previous_is ∙ e) h)
  ]

  -- a head other than 0
  pub heads_apart : (h : ℕ) → h < W.base / 2 → 0 < h → previous ≢ h
  heads_apart h b z e = elim (last_in 0 w.done) [
    | inl q ↦ omega (arith, w.previous_is)
    | inr i ↦ let a = done_real (last_of 0 w.done) i in omega (arith, w.previous_is, a.0)
  ]

  -- the watch may go to another list
  pub may : (h : ℕ) → h < W.base / 2 → 0 < h → MayRelink W.places W.base 0 previous here h
  may h b z = may_relink W.places W.base w.paths 0 previous here h w.done behind.0 w.watching.lists w.watching.low zero_head b (λ e. omega arith) path_here w.previous_is

  pub owner_in : (here - W.base) / 2 < length W.clauses
  owner_in = let a = here_real.0 in let b = here_real.1 in let c = w.watching.partly in let d = w.watching.even in let e = w.watching.paired in omega arith

  left_here : left_behind W.places previous ≡ suc (length behind.0)
  left_here = pending_left W m t previous w ∙ ap length behind.1

  -- the place stays
  abbrev waited : IsSatisfied m t.entries (owner W here) → PendingWalk W m t here
  waited g = record {
    paths = w.paths;
    done = w.done ++ here ∷ [];
    rest = behind.0;
    watching = w.watching;
    path = path_here ∙ sym (append_assoc w.done (here ∷ []) behind.0);
    previous_is = sym (last_push 0 here w.done);
    seen = λ p h. elim (in_either p w.done (here ∷ []) h) [
      | inl a ↦ w.seen p a
      | inr b ↦ elim b [ inl e ↦ subst (λ q. IsSatisfied m t.entries (owner W q)) (sym e) g | inr z ↦ absurd z ]
    ];
    sound = w.sound;
  }

  pub waits : IsSatisfied m t.entries (owner W here) → PendingWalk W m t here × IsShorter W.places W.places previous here
  waits g = let v = waited g in (v, record { less = omega (arith, pending_left W m t here v, left_here) })

  -- a literal came to the trail
  pub pending_pushed : (u : TrailValue) (e : Assigned) → u.vars ≡ t.vars → u.entries ≡ t.entries ++ e ∷ [] → holds t.entries e.literal ≡ false → holds t.entries (negation e.literal) ≡ false
      → PendingWalk W m u previous
  pending_pushed u e v q a b = record {
    paths = w.paths;
    done = w.done;
    rest = w.rest;
    path = w.path;
    previous_is = w.previous_is;
    watching = pushed W m t w.paths w.watching u (e ∷ []) v q;
    seen = λ p h C s. let g = w.seen p h C s in (g.0, g.1, subst (λ es. holds es g.0 ≡ true) (sym q) (holds_front t.entries (e ∷ []) g.0 g.2));
    sound = subst IsConsistent (sym q) (consistent_push t.entries e w.sound a b);
  }

  -- the place goes to the chain of its literal, or of those that are done with
  module _ (ys : List Watch) (f : Literal) (h : ℕ) (lit : literal_at W.places here ≡ f) (h_head : h < W.base / 2) (high : 0 < h)
      (long_home : (v : Literal) → IsWithin t.vars v → h ≡ index_of v → (f ≡ v) × IsLong W here)
      (place : IsLong W here → (h ≡ 0) ⊎ ((h ≡ index_of f) × IsGuarded t.entries W.head f (literal_at W.places (twin here))))
      (settled : (i : ℕ) → W.base + 2 * i ≡ here → (get_or W.clauses i no_clause).len < 2 → (h ≡ 0) ⊎ IsRootSatisfied m t.entries (get_or W.clauses i no_clause))
      (r : Relinks W.places ys W.base 0 previous here h f) where
    abbrev left_for : PendingWalk (record W { places = ys }) m t previous
    left_for =
        let apart_zero : h ≢ 0 = λ e. omega arith in
        record {
          paths = moved_paths w.paths 0 (w.done ++ behind.0) h here;
          done = w.done;
          rest = behind.0;
          watching = put W ys m t w.paths w.watching f 0 h here w.done behind.0 zero_head h_head path_here apart_zero lit long_home place settled (subst (λ p. Relinks W.places ys W.base 0 p here h f) w.previous_is r);
          path = after_l w.paths 0 h here w.done behind.0 path_here apart_zero;
          previous_is = w.previous_is;
          seen = w.seen;
          sound = w.sound;
        }

    pub leaves : PendingWalk (record W { places = ys }) m t previous × IsShorter W.places ys previous previous
    leaves = (left_for, record { less = omega (arith, pending_left (record W { places = ys }) m t previous left_for, left_here) })

  -- the place goes to another literal of its clause
  module _ (ys : List Watch) (f x : Literal) (k : ℕ) (C : Clause) (long : IsLong W here) (lit : literal_at W.places here ≡ f) (f_false : holds t.entries (negation f) ≡ true)
      (st : RefersTo m (owner W here) C) (a : 2 ≤ k) (b : k < length C) (at_k : (d : Literal) → get_or C k d ≡ x) (differ : IsDistinct same C)
      (free : holds t.entries (negation x) ≡ false) (r : Relinks W.places ys W.base 0 previous here (index_of x) x) (side : here % 2 < 2) (high : 0 < index_of x) where
    abbrev went : PendingWalk (record W { places = ys }) (insert m (owner W here).number ((owner W here).place, swap C (here % 2) k)) t previous
    went =
        let ha : index_of x ≢ 0 = λ e. omega arith in
        record {
          paths = moved_paths w.paths 0 (w.done ++ behind.0) (index_of x) here;
          done = w.done;
          rest = behind.0;
          watching = moved W ys m t w.paths w.watching f x 0 here k w.done behind.0 C zero_head path_here ha long lit st a b at_k differ w.sound f_false free (subst (λ p. Relinks W.places ys W.base 0 p here (index_of x) x) w.previous_is r);
          path = after_l w.paths 0 (index_of x) here w.done behind.0 path_here ha;
          previous_is = w.previous_is;
          seen = λ p h. satisfied_swapped m t.entries (owner W p) (owner W here) C (here % 2) k st (omega arith) b (w.seen p h);
          sound = w.sound;
        }

    pub goes : PendingWalk (record W { places = ys }) (insert m (owner W here).number ((owner W here).place, swap C (here % 2) k)) t previous × IsShorter W.places ys previous previous
    goes = (went, record { less = omega (arith, pending_left (record W { places = ys }) _ t previous went, left_here) })

pub own_in : (W : Watches) (m : Clauses) (t : TrailValue) (paths : ℕ → List ℕ) (w : IsWatching W m t paths) (here : ℕ) → IsLong W here → IsWithin t.vars (literal_at W.places here)
own_in W m t paths w here long =
    let i : (here - W.base) / 2 < length W.clauses = let a = long.0 in let b = long.1 in let c = w.partly in let d = w.even in let e = w.paired in omega arith in
    let s = w.here ((here - W.base) / 2) no_clause i in
    let z = half here in
    let l : here % 2 < length s.0 = omega (arith, s.1.1, long.2) in
    subst (IsWithin t.vars) (sym (w.front here s.0 (Pos 0) long s.1)) (s.2 (here % 2) (Pos 0) l)
  where
    half : (n : ℕ) → n % 2 < 2
    half n = elim (parity n) [ inl e ↦ omega arith | inr e ↦ omega arith ]

pub not_false : (es : List Assigned) (l : Literal) (v : Truth) → IsTruth es l v → (v ≡ False → ⊥) → holds es (negation l) ≡ false
not_false es l True h n = h.1
not_false es l False h n = absurd (n refl)
not_false es l Free h n = h.1

pub is_free : (es : List Assigned) (l : Literal) (v : Truth) → IsTruth es l v → (v ≡ True → ⊥) → (v ≡ False → ⊥) → (holds es l ≡ false) × (holds es (negation l) ≡ false)
is_free es l True h n k = absurd (n refl)
is_free es l False h n k = absurd (k refl)
is_free es l Free h n k = h

module _ (W : Watches) (m : Clauses) (t : TrailValue) (previous here : ℕ)
    (w : PendingWalk W m t previous) (is : here ≡ next_of W.places previous) (some : 0 < here) (long : IsLong W here) where
  pub chain_in : (x : Literal) → IsWithin t.vars x → (index_of x < W.base / 2) × (index_of x < length W.places)
  chain_in x b = let c = index_below t.vars x b in let d = w.watching.wide in let e = w.watching.low in (omega arith, omega arith)

  -- the place goes home: its literal is not false
  pub goes_home : (ys : List Watch) (f : Literal) (h : ℕ) → f ≡ literal_at W.places here → h ≡ index_of f → holds t.entries (negation f) ≡ false → Relinks W.places ys W.base 0 previous here h f
      → PendingWalk (record W { places = ys }) m t previous × IsShorter W.places ys previous previous
  goes_home ys f h own at free r =
      let f_in : IsWithin t.vars f = subst (IsWithin t.vars) (sym own) (own_in W m t w.paths w.watching here long) in
      let hb = chain_in f f_in in
      let hi = index_high t.vars f f_in in
      leaves W m t previous here w is some ys f h (sym own) (omega (arith, hb.0)) (omega arith)
      (λ v b e. (index_same f v (sym at ∙ e), long))
      (λ g. inr (at, guarded_free t.entries W.head f (literal_at W.places (twin here)) w.watching.handled free))
      (λ i e s. absurd (short i e s))
      r
    where
      index_same : (f v : Literal) → index_of f ≡ index_of v → f ≡ v
      index_same f v e = elim (same_or_not f v) [ inl s ↦ s | inr n ↦ absurd (index_apart f v n e) ]

      short : (i : ℕ) → W.base + 2 * i ≡ here → (get_or W.clauses i no_clause).len < 2 → ⊥
      short i e s =
          let half : (here - W.base) / 2 ≡ i = omega arith in
          let two : 2 ≤ (get_or W.clauses i no_clause).len = subst (λ j. 2 ≤ (get_or W.clauses j no_clause).len) half long.2 in
          omega arith

  pub goes_guarded : (ys : List Watch) (f : Literal) (h : ℕ) → f ≡ literal_at W.places here → h ≡ index_of f → IsGuarded t.entries W.head f (literal_at W.places (twin here)) → Relinks W.places ys W.base 0 previous here h f
      → PendingWalk (record W { places = ys }) m t previous × IsShorter W.places ys previous previous
  goes_guarded ys f h own at guard r =
      let f_in : IsWithin t.vars f = subst (IsWithin t.vars) (sym own) (own_in W m t w.paths w.watching here long) in
      let hb = chain_in f f_in in
      let hi = index_high t.vars f f_in in
      leaves W m t previous here w is some ys f h (sym own) (omega (arith, hb.0)) (omega arith)
      (λ v b e. (index_same f v (sym at ∙ e), long))
      (λ g. inr (at, guard))
      (λ i e s. absurd (short i e s))
      r
    where
      index_same : (f v : Literal) → index_of f ≡ index_of v → f ≡ v
      index_same f v e = elim (same_or_not f v) [ inl s ↦ s | inr n ↦ absurd (index_apart f v n e) ]

      short : (i : ℕ) → W.base + 2 * i ≡ here → (get_or W.clauses i no_clause).len < 2 → ⊥
      short i e s =
          let half : (here - W.base) / 2 ≡ i = omega arith in
          let two : 2 ≤ (get_or W.clauses i no_clause).len = subst (λ j. 2 ≤ (get_or W.clauses j no_clause).len) half long.2 in
          omega arith

  -- the place goes to another literal of its clause, in the words of the code
  pub goes_at : (f : Literal) → literal_at W.places here ≡ f → holds t.entries (negation f) ≡ true
      → (at : Ref) → at ≡ owner W here → (ws C : Clause) → ws ≡ C → RefersTo m at C → here % 2 < at.len → IsDistinct same ws
      → (k : ℕ) (x : Literal) → FindsWatch t.entries ws (Some (record { place = k; literal = x })) → IsWithin t.vars x
      → (new : Clauses) → ((D : Clause) → RefersTo m at D → new ≡ insert m at.number (at.place, swap D (here % 2) k)) → (ys : List Watch) (h : ℕ) → h ≡ index_of x → Relinks W.places ys W.base 0 previous here h x
      → SameUpToOrder m new × (PendingWalk (record W { places = ys }) new t previous × IsShorter W.places ys previous previous)
  goes_at f lit f_false at owns ws C same_ws st side differ k x found x_in new says ys h head_is r =
      let e : new ≡ insert m at.number (at.place, swap C (here % 2) k) = says C st in
      let kb : k < length C = subst (λ D. k < length D) same_ws found.1 in
      let st' : RefersTo m (owner W here) C = subst (λ a. RefersTo m a C) owns st in
      let z : here % 2 < 2 = half here in
      let go = goes W m t previous here w is some ys f x k C long lit f_false st' found.0 kb (subst (λ D. (d : Literal) → get_or D k d ≡ x) same_ws found.2) (subst (IsDistinct same) same_ws differ) found.3
      (subst (λ n. Relinks W.places ys W.base 0 previous here n x) head_is r) z (index_high t.vars x x_in) in
      let new_is : new ≡ insert m (owner W here).number ((owner W here).place, swap C (here % 2) k) = e ∙ ap (λ (b : Ref). insert m b.number (b.place, swap C (here % 2) k)) owns in (
        subst (SameUpToOrder m) (sym e) (same_swapped m at C (here % 2) k st (omega (arith, st.1)) kb),
        subst (λ n. PendingWalk (record W { places = ys }) n t previous × IsShorter W.places ys previous previous) (sym new_is) go,
      )
    where
      half : (n : ℕ) → n % 2 < 2
      half n = elim (parity n) [ inl e ↦ omega arith | inr e ↦ omega arith ]

-- the other watch came to the trail, and the place stays
pub waits_pushed : (W : Watches) (m : Clauses) (t : TrailValue) (previous here : ℕ)
    (w : PendingWalk W m t previous) (is : here ≡ next_of W.places previous) (some : 0 < here)
    → (u : TrailValue) (e : Assigned) → holds t.entries e.literal ≡ false → holds t.entries (negation e.literal) ≡ false → u.vars ≡ t.vars → u.entries ≡ t.entries ++ e ∷ []
    → (holds u.entries e.literal ≡ true → IsSatisfied m u.entries (owner W here))
    → PendingWalk W m u here × IsShorter W.places W.places previous here
waits_pushed W m t previous here w is some u e a b v q g =
    let w' = pending_pushed W m t previous here w is some u e v q a b in
    waits W m u previous here w' is some (g (subst (λ es. holds es e.literal ≡ true) (sym q) (holds_pushed t.entries e)))

-- ---- clauses of no or one literal
pub short_true : (es : List Assigned) (C : Clause) → length C < 2 → NeitherFalseNorUnit (holds es) C → (b : Literal) × Contains C b × (holds es b ≡ true)
short_true es [] l h = absurd (h.0 (λ k i. absurd (omega (arith, i.1))))
short_true es (b ∷ []) l h = (b, (0, omega arith, refl), cases (holds es b) refl) where
  only : (k : Literal) → Contains (b ∷ []) k → k ≡ b
  only k i = one i.0 i.1 i.2 where
    one : (n : ℕ) → n < 1 → get_or (b ∷ []) n k ≡ k → k ≡ b
    one zero z e = sym e
    one (suc n) z e = absurd (omega arith)

  free : (v : Bool) → holds es (negation b) ≡ v → holds es b ≡ false → ⊥
  free true e f = h.0 (λ k i. ap (λ l. holds es (negation l)) (only k i) ∙ e)
  free false e f = h.1 b (record { member = (0, omega arith, refl); not_true = f; not_false = e; others = λ k i n. absurd (n (only k i)) })

  cases : (v : Bool) → holds es b ≡ v → holds es b ≡ true
  cases true e = e
  cases false e = absurd (free (holds es (negation b)) refl e)
short_true es (b ∷ x ∷ C) l h = absurd (omega arith)

-- the beginning and the end
pub pending_begins : (W : Watches) (m : Clauses) (t : TrailValue) (paths : ℕ → List ℕ) → IsWatching W m t paths → IsConsistent t.entries → PendingWalk W m t 0
pending_begins W m t paths w s = record { paths = paths; done = []; rest = paths 0; watching = w; path = refl; previous_is = refl; seen = λ p h. absurd h; sound = s }

pub pending_low : (W : Watches) (m : Clauses) (t : TrailValue) (previous : ℕ) (w : PendingWalk W m t previous) → previous < length W.places
pending_low W m t previous w =
    let b = w.watching.wide in
    let c = w.watching.low in
    elim (last_in 0 w.done) [
      | inl e ↦ omega (arith, w.previous_is)
      | inr h ↦ let d = w.watching.lists.real 0 (last_of 0 w.done) (subst (IsIn (last_of 0 w.done)) (sym w.path) (in_left (last_of 0 w.done) w.done w.rest h)) in omega (arith, w.previous_is, d.1)
    ]

pub pending_ends : (W : Watches) (m : Clauses) (t : TrailValue) (previous : ℕ) (w : PendingWalk W m t previous) → next_of W.places previous ≡ 0 → AllPendingSatisfied W m t
pending_ends W m t previous w z = record { paths = w.paths; watching = w.watching; seen = λ p h. w.seen p (only p h) } where
  none_left : (rest : List ℕ) → IsWatchList W.places previous rest → ((q : ℕ) → IsIn q rest → 0 < q) → rest ≡ []
  none_left [] c h = refl
  none_left (q ∷ rest) c h = absurd (let a = h q (inl refl) in omega (arith, c.0))

  rest_none : w.rest ≡ []
  rest_none = none_left w.rest
      (subst (λ p. IsWatchList W.places p w.rest) (sym w.previous_is) (chain_rest W.places 0 w.done w.rest (subst (IsWatchList W.places 0) w.path (w.watching.lists.watch_list 0 (let b = w.watching.wide in omega arith)))))
      (λ q i. let a = w.watching.lists.real 0 q (subst (IsIn q) (sym w.path) (in_right q w.done w.rest i)) in let b = w.watching.wide in omega (arith, a.0))

  only : (p : ℕ) → IsIn p (w.paths 0) → IsIn p w.done
  only p h = elim (in_either p w.done w.rest (subst (IsIn p) w.path h)) [
    | inl a ↦ a
    | inr b ↦ absurd (subst (IsIn p) rest_none b)
  ]

-- the clause that stands where a waiting place belongs
pub pending_here : (W : Watches) (m : Clauses) (t : TrailValue) (previous here : ℕ)
    (w : PendingWalk W m t previous) (is : here ≡ next_of W.places previous) (some : 0 < here) → IsLiveWithin m t.vars (owner W here)
pending_here W m t previous here w is some = w.watching.here ((here - W.base) / 2) no_clause (owner_in W m t previous here w is some)

pub pending_lives : (W : Watches) (m : Clauses) (t : TrailValue) (previous here : ℕ)
    (w : PendingWalk W m t previous) (is : here ≡ next_of W.places previous) (some : 0 < here) (C : Clause) → RefersTo m (owner W here) C → live_among (numbers W.clauses) (live_of m) (owner W here).number C
pending_lives W m t previous here w is some C st = (has_number W.clauses ((here - W.base) / 2) no_clause (owner_in W m t previous here w is some), ((owner W here).place, st.0))

pub index_two : (n : ℕ) (x : Literal) → IsWithin n x → 2 ≤ index_of x
index_two n (Pos v) h = omega (arith, h.0)
index_two n (Neg v) h = omega (arith, h.0)

-- a place of a short clause that is true at level 0 goes to those that are done with
pub retires : (W : Watches) (m : Clauses) (t : TrailValue) (previous here : ℕ)
    (w : PendingWalk W m t previous) (is : here ≡ next_of W.places previous) (some : 0 < here) → (owner W here).len < 2 → IsRootSatisfied m t.entries (owner W here)
    → (ys : List Watch) (f : Literal) → f ≡ literal_at W.places here → Relinks W.places ys W.base 0 previous here 1 f → PendingWalk (record W { places = ys }) m t previous × IsShorter W.places ys previous previous
retires W m t previous here w is some short sat ys f own r =
    leaves W m t previous here w is some ys f 1 (sym own) (let b = w.watching.wide in omega arith) (omega arith)
    (λ v b e. absurd (let i = index_two t.vars v b in omega arith))
    (λ g. absurd (let a = g.2 in omega arith))
    (λ i e s. inr (settled i e))
    r
  where
    settled : (i : ℕ) → W.base + 2 * i ≡ here → IsRootSatisfied m t.entries (get_or W.clauses i no_clause)
    settled i e C st =
        let half : (here - W.base) / 2 ≡ i = omega arith in
        let own' : owner W here ≡ get_or W.clauses i no_clause = ap (λ j. get_or W.clauses j no_clause) half in
        sat C (subst (λ a. RefersTo m a C) (sym own') st)

pub pending_moves : (old new : Watches) (n : Clauses) (t : TrailValue) (previous here : ℕ) → IsRelinked old new
    → PendingWalk (record old { places = new.places }) n t previous × IsShorter old.places new.places previous previous → VisitsPending old new n t previous here Moves
pending_moves old new n t previous here r v = (subst (λ X. PendingWalk X n t previous) (sym r.rest) v.0, v.1)

pub long_here : (W : Watches) (m : Clauses) (t : TrailValue) (previous here : ℕ)
    (w : PendingWalk W m t previous) (is : here ≡ next_of W.places previous) (some : 0 < here) → 2 ≤ (owner W here).len → IsLong W here
long_here W m t previous here w is some l = let r = here_real W m t previous here w is some in (r.0, r.1, l)
