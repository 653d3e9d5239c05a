-- The walk along one watch list, and what a visit of a watch leaves.
use Rattle.std.proofs.Common.{◌≡◌, ◌≢◌, ℕ, zero, suc, ◌-◌, ◌/◌, ◌%◌, ◌<◌, ◌≤◌, ◌⊎◌, ◌||◌, inl, inr, Bool, true, false, eqb, List, [], ◌∷◌, ◌++◌, length, get_or, swap, Some, None, refl, ap, sym, ◌∙◌, subst, arith, Contains, All, append_assoc, length-append}
use Rattle.std.specs.List.{IsDistinct, list_any}
use Rattle.std.specs.FinMap.{get, insert}
use Rattle.std.proofs.lemmas.List.{get_or_append_left}
use Rattle.std.proofs.lemmas.List.Folds.{list_any-append}
use Rattle.std.proofs.lemmas.Bool.{cases_eq, cases_lt, false≢true, ne_eqb, eqb-true, or_right}
use Rattle.std.proofs.lemmas.List.Elements.{All-push, recursion_from_All}
use Rattle.std.proofs.lemmas.Map.Keys.{IsDistinct-cons}
use Rattle.std.proofs.lemmas.Map.Steps.{length-le_from_distinct_below}
use Rattle.dimacs.specs.logic.Literal.{Literal, Clause, Pos, IsWithin, negation, same, index_of}
use Rattle.dimacs.specs.logic.Propagation.{IsFalse, IsUnit}
use Rattle.dimacs.proofs.LiteralLemmas.{index_apart, index_below, same-true, same-itself, negation-negation, negation_apart, IsWithin-negation}
use Rattle.clause_arena.specs.declared.reference.Ref.{Ref}
use Rattle.clause_arena.specs.Clauses.{Clauses, RefersTo, live_of}
use Rattle.clause_arena.proofs.ClauseLaws.{get-insert_same, get-insert_other}
use Rattle.watches.specs.declared.trail.Assigned.{Assigned}
use Rattle.watches.specs.Trails.{TrailValue, IsTrailValue, holds, up_to, present}
use Rattle.watches.specs.Law.{SameUpToOrder, IsReordered, IsImplied, live_among}
use Rattle.watches.specs.ClauseNumbers.{numbers}
use Rattle.watches.specs.inner.LiveClauses.{IsLiveWithin}
use Rattle.watches.specs.inner.ScanLaws.{has_number}
use Rattle.watches.proofs.LevelLemmas.{present_le}
use Rattle.watches.proofs.TrailLemmas.{distinct_nil, holds_push, consistent}
use Rattle.watches.specs.declared.watched.watch.Watch.{Watch}
use Rattle.watches.specs.inner.WatchLists.{literal_at, next_of, twin, IsIn, IsOnce, IsWatchList, last_of, Relinks, MayRelink}
use Rattle.watches.specs.inner.WatchInvariants.{owner, no_clause, past_head, FindsWatch, IsLong, IsWatching, AreWatching, IsRelinked}
use Rattle.watches.specs.inner.ListWalk.{IsConsistent, Walk, IsShorter, IsWalk, StopsAtConflict, Visits, left_behind, left_from}
use Rattle.watches.proofs.WatchListLemmas.{in_left, in_right, in_either, apart_before, once_back, last_in, last_push, chain_rest, left_is, after_l, moved_paths, may_relink}
use Rattle.watches.proofs.TwinLemmas.{twins_of, owner_twin, long_twin, parity}
use Rattle.watches.proofs.GuardLemmas.{up_to_holds, holds_up_to, entry_holds}
use Rattle.watches.specs.inner.ReadyLaws.{or_left, up_to_front}
use Rattle.watches.proofs.SwapLemmas.{reordered}
use Rattle.watches.proofs.RelinkLemmas.{moved}
use Rattle.watches.specs.inner.ReadyLaws.{pushed}
use Rattle.watches.proofs.StateLemmas.{advance}
use Rattle.watches.specs.Watches.{Watches}
use Rattle.watches.specs.declared.watched.visit.Visit.TheVariants.{Stays, Moves}

-- ---- a path without repeats is no longer than there are places
or_either : (a b : Bool) → (a || b) ≡ true → (a ≡ true) ⊎ (b ≡ true)
or_either true b e = inl refl
or_either false b e = inr e

any_in : (q : ℕ) (path : List ℕ) → list_any (eqb q) path ≡ true → IsIn q path
any_in q [] h = absurd (false≢true h)
any_in q (x ∷ path) h = elim (or_either (eqb q x) (list_any (eqb q) path) h) [ inl e ↦ inl (eqb-true q x e) | inr r ↦ inr (any_in q path r) ]

none_same : (x : ℕ) (path : List ℕ) → (IsIn x path → ⊥) → All (λ y. eqb x y ≡ false) path
none_same x [] h k d l = absurd (omega arith)
none_same x (y ∷ path) h zero d l = ne_eqb x y (λ e. h (inl e))
none_same x (y ∷ path) h (suc k) d l = none_same x path (λ i. h (inr i)) k d (omega arith)

distinct : (path : List ℕ) → IsOnce path → IsDistinct eqb path
distinct [] o = distinct_nil
distinct (x ∷ path) o = IsDistinct-cons eqb x path (recursion_from_All (λ y. eqb x y ≡ false) path (none_same x path o.0)) (distinct path o.1)

pub short_path : (path : List ℕ) (n : ℕ) → IsOnce path → ((q : ℕ) → IsIn q path → q < n) → length path ≤ n
short_path path n o h = length-le_from_distinct_below path n (distinct path o) (λ q i. h q (any_in q path i))

-- what is left after p is the rest of its chain
pub left_behind_is : (places : List Watch) (p base : ℕ) (path : List ℕ) → IsWatchList places p path → IsOnce path → 0 < base → ((q : ℕ) → IsIn q path → (base ≤ q) × (q < length places)) → left_behind places p ≡ length path
left_behind_is places p base [] c o z h = ap (left_from places (suc (length places))) c
left_behind_is places p base (q ∷ path) c o z h =
    let s = short_path path (length places) o.1 (λ r i. (h r (inr i)).1) in
    ap (left_from places (suc (length places))) c.0
    ∙ left_is places (suc (length places)) q path c.1 (omega arith) (let a = h q (inl refl) in omega (arith, a.0)) (λ r i. let a = h r (inr i) in omega (arith, a.0))

pub walk_left : (W : Watches) (m : Clauses) (t : TrailValue) (f : Literal) (level previous : ℕ) (w : Walk W m t f level previous)
    → left_behind W.places previous ≡ length w.rest
walk_left W m t f level previous w =
    let a = index_below t.vars f w.f_in in
    let b = w.watching.wide in
    left_behind_is W.places previous W.base w.rest
    (subst (λ p. IsWatchList W.places p w.rest) (sym w.previous_is) (chain_rest W.places (index_of f) w.done w.rest (subst (IsWatchList W.places (index_of f)) w.path (w.watching.lists.watch_list (index_of f) (omega arith)))))
    (once_back w.done w.rest (subst IsOnce w.path (w.watching.lists.once (index_of f))))
    (omega arith)
    (λ q i. w.watching.lists.real (index_of f) q (subst (IsIn q) (sym w.path) (in_right q w.done w.rest i)))

pub cons_of : (places : List Watch) (p here : ℕ) (rest : List ℕ) → IsWatchList places p rest → here ≡ next_of places p → 0 < here → (more : List ℕ) × (rest ≡ here ∷ more)
cons_of places p here [] c e z = absurd (omega (arith, c))
cons_of places p here (q ∷ rest) c e z = (rest, ap (λ x. x ∷ rest) (sym c.0 ∙ sym e))

-- ---- the trail
pub consistent_push : (es : List Assigned) (e : Assigned) → IsConsistent es → holds es e.literal ≡ false → holds es (negation e.literal) ≡ false → IsConsistent (es ++ e ∷ [])
consistent_push es e s f g l h k = elim (or_either (holds es l) (same e.literal l) (sym (holds_push es e l) ∙ h)) [
  | inl a ↦ elim (or_either (holds es (negation l)) (same e.literal (negation l)) (sym (holds_push es e (negation l)) ∙ k)) [
    | inl b ↦ s l a b
    | inr b ↦ false≢true (sym g ∙ ap (holds es) (ap negation (same-true e.literal (negation l) b) ∙ negation-negation l) ∙ a)
  ]
  | inr a ↦ elim (or_either (holds es (negation l)) (same e.literal (negation l)) (sym (holds_push es e (negation l)) ∙ k)) [
    | inl b ↦ false≢true (sym g ∙ ap (λ x. holds es (negation x)) (same-true e.literal l a) ∙ b)
    | inr b ↦ negation_apart l (sym (same-true e.literal (negation l) b) ∙ same-true e.literal l a)
  ]
]

pub holds_pushed : (es : List Assigned) (e : Assigned) → holds (es ++ e ∷ []) e.literal ≡ true
holds_pushed es e = holds_push es e e.literal ∙ or_right (holds es e.literal) (same e.literal e.literal) (same-itself e.literal)

pub holds_front : (es more : List Assigned) (l : Literal) → holds es l ≡ true → holds (es ++ more) l ≡ true
holds_front es more l h = list_any-append (λ x. same x.literal l) es more ∙ or_left (holds es l) (holds more l) h

-- ---- a swap
pub same_swapped : (m : Clauses) (at : Ref) (C : Clause) (i j : ℕ) → RefersTo m at C → i < length C → j < length C → SameUpToOrder m (insert m at.number (at.place, swap C i j))
same_swapped m at C i j st hi hj = record {
  there = λ n p D e. elim (cases_eq n at.number) [
    | inl q ↦
        let pair : ◌≡◌ {A = ℕ × Clause} (at.place, C) (p, D) = (let g : Some (at.place, C) ≡ Some (p, D) = sym st.0 ∙ ap (get m) (sym q) ∙ e in cc) in
        let same_place : at.place ≡ p = ap (λ (x : ℕ × Clause). x.0) pair in
        let same_D : C ≡ D = ap (λ (x : ℕ × Clause). x.1) pair in (
          swap C i j,
          ap (get (insert m at.number (at.place, swap C i j))) q ∙ get-insert_same m at.number (at.place, swap C i j) ∙ ap (λ (z : ℕ). Some (z, swap C i j)) same_place,
          subst (λ E. IsReordered E (swap C i j)) same_D (reordered C i j hi hj),
        )
    | inr ne ↦ (D, get-insert_other m at.number n (at.place, swap C i j) ne ∙ e, record { len = refl; literals = λ l. (λ x. x, λ x. x) })
  ];
  none = λ n e. elim (cases_eq n at.number) [
    | inl q ↦ absurd (let g : None ≡ Some (at.place, C) = sym e ∙ ap (get m) q ∙ st.0 in cc)
    | inr ne ↦ get-insert_other m at.number n (at.place, swap C i j) ne ∙ e
  ];
}

-- ---- the place that is looked at
module _ (W : Watches) (m : Clauses) (t : TrailValue) (f : Literal) (level previous here : ℕ)
    (w : Walk W m t f level previous) (is : here ≡ next_of W.places previous) (some : 0 < here) where
  pub f_head : index_of f < W.base / 2
  f_head = let a = index_below t.vars f w.f_in in let b = w.watching.wide in omega arith

  chain_behind : IsWatchList W.places previous w.rest
  chain_behind = subst (λ p. IsWatchList W.places p w.rest) (sym w.previous_is) (chain_rest W.places (index_of f) w.done w.rest (subst (IsWatchList W.places (index_of f)) w.path (w.watching.lists.watch_list (index_of f) f_head)))

  pub behind : (more : List ℕ) × (w.rest ≡ here ∷ more)
  behind = cons_of W.places previous here w.rest chain_behind is some

  pub path_here : w.paths (index_of f) ≡ w.done ++ here ∷ behind.0
  path_here = w.path ∙ ap (λ r. w.done ++ r) behind.1

  pub here_in : IsIn here (w.paths (index_of f))
  here_in = subst (IsIn here) (sym path_here) (in_right here w.done (here ∷ behind.0) (inl refl))

  pub here_long : IsLong W here
  here_long = (w.watching.home f here w.f_in here_in).1

  pub here_lit : literal_at W.places here ≡ f
  here_lit = (w.watching.home f here w.f_in here_in).0

  once_here : IsOnce (w.done ++ here ∷ behind.0)
  once_here = subst IsOnce path_here (w.watching.lists.once (index_of f))

  pub done_real : (q : ℕ) → IsIn q w.done → (W.base ≤ q) × (q < length W.places)
  done_real q h = w.watching.lists.real (index_of f) q (subst (IsIn q) (sym path_here) (in_left q w.done (here ∷ behind.0) h))

  pub previous_in : previous < length W.places
  previous_in = elim (last_in (index_of f) w.done) [
    | inl e ↦ let a = f_head in let b = w.watching.low in omega (arith, w.previous_is)
    | inr h ↦ let a = done_real (last_of (index_of f) w.done) h in omega (arith, w.previous_is, a.1)
  ]

  pub previous_apart : previous ≢ here
  previous_apart e = elim (last_in (index_of f) w.done) [
    | inl q ↦ let a = f_head in omega (arith, w.previous_is, here_long.0)
    | inr h ↦ apart_before here w.done behind.0 once_here (subst (λ z. IsIn z w.done) (sym w.previous_is ∙ e) h)
  ]

  pub heads_apart : (x : Literal) → IsWithin t.vars x → x ≢ f → previous ≢ index_of x
  heads_apart x b n e = elim (last_in (index_of f) w.done) [
    | inl q ↦ index_apart x f n (sym e ∙ w.previous_is ∙ q)
    | inr h ↦ let a = done_real (last_of (index_of f) w.done) h in let c = index_below t.vars x b in let d = w.watching.wide in omega (arith, w.previous_is, a.0)
  ]

  pub head_in : (x : Literal) → IsWithin t.vars x → (index_of x < W.base / 2) × (index_of x < length W.places)
  head_in x b = let c = index_below t.vars x b in let d = w.watching.wide in let e = w.watching.low in (omega arith, omega arith)

  pub head_apart : (x : Literal) → IsWithin t.vars x → index_of x ≢ here
  head_apart x b e = let c = head_in x b in omega (arith, c.0, here_long.0)

  -- the watch may go to the list of another literal
  pub may : (x : Literal) → IsWithin t.vars x → x ≢ f → MayRelink W.places W.base (index_of f) previous here (index_of x)
  may x b n = may_relink W.places W.base w.paths (index_of f) previous here (index_of x) w.done behind.0 w.watching.lists w.watching.low f_head (head_in x b).0 (index_apart x f n) path_here w.previous_is

  pub owner_in : (here - W.base) / 2 < length W.clauses
  owner_in = let a = here_long.0 in let b = here_long.1 in let c = w.watching.partly in let d = w.watching.even in let e = w.watching.paired in omega arith

  pub standing : IsLiveWithin m t.vars (owner W here)
  standing = w.watching.here ((here - W.base) / 2) no_clause owner_in

  pub lives : (C : Clause) → RefersTo m (owner W here) C → live_among (numbers W.clauses) (live_of m) (owner W here).number C
  lives C st = (has_number W.clauses ((here - W.base) / 2) no_clause owner_in, ((owner W here).place, st.0))

  pub twin_in : IsLong W (twin here)
  twin_in = long_twin W here w.watching.even w.watching.paired here_long

  pub two : (C : Clause) → RefersTo m (owner W here) C → 2 ≤ length C
  two C st = omega (arith, here_long.2, st.1)

  pub side : (p : ℕ) → p % 2 < 2
  side p = elim (parity p) [ inl e ↦ omega arith | inr e ↦ omega arith ]

  pub lit_here : (C : Clause) (d : Literal) → RefersTo m (owner W here) C → f ≡ get_or C (here % 2) d
  lit_here C d st = sym here_lit ∙ w.watching.front here C d here_long st

  pub lit_twin : (C : Clause) (d : Literal) → RefersTo m (owner W here) C → literal_at W.places (twin here) ≡ get_or C (twin here % 2) d
  lit_twin C d st = w.watching.front (twin here) C d twin_in (subst (λ a. RefersTo m a C) (sym (owner_twin W here w.watching.even)) st)

  pub other_in : IsWithin t.vars (literal_at W.places (twin here))
  other_in =
      let s = standing in
      let z = side (twin here) in
      let l : twin here % 2 < length s.0 = omega (arith, two s.0 s.1) in
      subst (IsWithin t.vars) (sym (lit_twin s.0 (Pos 0) s.1)) (s.2 (twin here % 2) (Pos 0) l)

  -- a literal of the clause is one of the first two or after them
  which : (C : Clause) (l : Literal) → RefersTo m (owner W here) C → Contains C l → ((l ≡ f) ⊎ (l ≡ literal_at W.places (twin here))) ⊎ ((k : ℕ) × (2 ≤ k) × (k < length C) × (get_or C k l ≡ l))
  which C l st i =
      let tw = (twins_of here).sides in
      let a = side here in let b = side (twin here) in
      elim (cases_lt i.0 2) [
        | inl s ↦ elim (cases_eq i.0 (here % 2)) [
          | inl e ↦ inl (inl (sym i.2 ∙ ap (λ k. get_or C k l) e ∙ sym (lit_here C l st)))
          | inr n ↦ let e : i.0 ≡ twin here % 2 = omega arith in inl (inr (sym i.2 ∙ ap (λ k. get_or C k l) e ∙ sym (lit_twin C l st)))
        ]
        | inr s ↦ inr (i.0, s, i.1, i.2)
      ]

  -- no literal after the first two is free or true
  pub is_false : (C : Clause) → RefersTo m (owner W here) C → ((k : ℕ) (d : Literal) → 2 ≤ k → k < length C → holds t.entries (negation (get_or C k d)) ≡ true)
      → holds t.entries (negation (literal_at W.places (twin here))) ≡ true → IsFalse (holds t.entries) C
  is_false C st h o l i = elim (which C l st i) [
    | inl b ↦ elim b [ inl e ↦ ap (λ x. holds t.entries (negation x)) e ∙ w.f_false | inr e ↦ ap (λ x. holds t.entries (negation x)) e ∙ o ]
    | inr k ↦ ap (λ x. holds t.entries (negation x)) (sym k.3) ∙ h k.0 l k.1 k.2
  ]

  pub is_unit : (C : Clause) → RefersTo m (owner W here) C → ((k : ℕ) (d : Literal) → 2 ≤ k → k < length C → holds t.entries (negation (get_or C k d)) ≡ true)
      → holds t.entries (literal_at W.places (twin here)) ≡ false → holds t.entries (negation (literal_at W.places (twin here))) ≡ false → IsUnit (holds t.entries) C (literal_at W.places (twin here))
  is_unit C st h a b = record {
    member = let z = side (twin here) in let l : twin here % 2 < length C = omega (arith, two C st) in (twin here % 2, l, sym (lit_twin C (literal_at W.places (twin here)) st));
    not_true = a;
    not_false = b;
    others = λ l i n. elim (which C l st i) [
      | inl c ↦ elim c [ inl e ↦ ap (λ x. holds t.entries (negation x)) e ∙ w.f_false | inr e ↦ absurd (n e) ]
      | inr k ↦ ap (λ x. holds t.entries (negation x)) (sym k.3) ∙ h k.0 l k.1 k.2
    ];
  }

  left_here : left_behind W.places previous ≡ suc (length behind.0)
  left_here = walk_left W m t f level previous w ∙ ap length behind.1

  -- the place stays
  abbrev stayed : up_to t.entries level (literal_at W.places (twin here)) ≡ true → Walk W m t f level here
  stayed g = record {
    paths = w.paths;
    done = w.done ++ here ∷ [];
    rest = behind.0;
    watching = w.watching;
    path = path_here ∙ sym (append_assoc w.done (here ∷ []) behind.0);
    previous_is = sym (last_push (index_of f) here w.done);
    guarded = λ p h. elim (in_either p w.done (here ∷ []) h) [
      | inl a ↦ w.guarded p a
      | inr b ↦ elim b [ inl e ↦ subst (λ q. up_to t.entries level (literal_at W.places (twin q)) ≡ true) (sym e) g | inr z ↦ absurd z ]
    ];
    f_in = w.f_in;
    f_false = w.f_false;
    sound = w.sound;
    levels = w.levels;
  }

  pub stays : up_to t.entries level (literal_at W.places (twin here)) ≡ true → Walk W m t f level here × IsShorter W.places W.places previous here
  stays g =
      let v = stayed g in
      (v, record { less = omega (arith, walk_left W m t f level here v, left_here) })

  -- the clause's other watch came to the trail
  pub walk_pushed : (u : TrailValue) (e : Assigned) → u.vars ≡ t.vars → u.entries ≡ t.entries ++ e ∷ [] → holds t.entries e.literal ≡ false → holds t.entries (negation e.literal) ≡ false → e.level ≤ level
      → Walk W m u f level previous
  walk_pushed u e v q a b l = record {
    paths = w.paths;
    done = w.done;
    rest = w.rest;
    path = w.path;
    previous_is = w.previous_is;
    watching = pushed W m t w.paths w.watching u (e ∷ []) v q;
    guarded = λ p h. subst (λ es. up_to es level (literal_at W.places (twin p)) ≡ true) (sym q) (up_to_front t.entries (e ∷ []) level (literal_at W.places (twin p)) (w.guarded p h));
    f_in = subst (λ n. IsWithin n f) (sym v) w.f_in;
    f_false = subst (λ es. holds es (negation f) ≡ true) (sym q) (holds_front t.entries (e ∷ []) (negation f) w.f_false);
    sound = subst IsConsistent (sym q) (consistent_push t.entries e w.sound a b);
    levels = subst (All (λ x. x.level ≤ level)) (sym q) (All-push (λ x. x.level ≤ level) t.entries e w.levels l);
  }

  -- the place goes to another literal of its clause
  module _ (ys : List Watch) (x : Literal) (k : ℕ) (C : Clause) (st : RefersTo m (owner W here) C) (a : 2 ≤ k) (b : k < length C) (at_k : (d : Literal) → get_or C k d ≡ x) (differ : IsDistinct same C)
      (free : holds t.entries (negation x) ≡ false) (r : Relinks W.places ys W.base (index_of f) previous here (index_of x) x) where
    pub x_apart : x ≢ f
    x_apart e = false≢true (sym free ∙ ap (λ l. holds t.entries (negation l)) e ∙ w.f_false)

    abbrev went : Walk (record W { places = ys }) (insert m (owner W here).number ((owner W here).place, swap C (here % 2) k)) t f level previous
    went =
        let ha = index_apart x f x_apart in
        let r' = subst (λ p. Relinks W.places ys W.base (index_of f) p here (index_of x) x) w.previous_is r in
        record {
          paths = moved_paths w.paths (index_of f) (w.done ++ behind.0) (index_of x) here;
          done = w.done;
          rest = behind.0;
          watching = moved W ys m t w.paths w.watching f x (index_of f) here k w.done behind.0 C f_head path_here ha here_long here_lit st a b at_k differ w.sound w.f_false free r';
          path = after_l w.paths (index_of f) (index_of x) here w.done behind.0 path_here ha;
          previous_is = w.previous_is;
          guarded = λ p h. subst (λ l. up_to t.entries level l ≡ true) (sym (r.literals (twin p) (λ e. w.sound f (up_to_holds t.entries level f (subst (λ l. up_to t.entries level l ≡ true) (ap (literal_at W.places) e ∙ here_lit) (w.guarded p h))) w.f_false))) (w.guarded p h);
          f_in = w.f_in;
          f_false = w.f_false;
          sound = w.sound;
          levels = w.levels;
        }

    pub moves : Walk (record W { places = ys }) (insert m (owner W here).number ((owner W here).place, swap C (here % 2) k)) t f level previous × IsShorter W.places ys previous previous
    moves = (went, record { less = omega (arith, walk_left (record W { places = ys }) _ t f level previous went, left_here) })

  -- ---- in the words of the code: `at` is the owner, `ws` its literals
  module _ (at : Ref) (owns : at ≡ owner W here) (ws : Clause) (reads : (C : Clause) → RefersTo m at C → ws ≡ C) where
    pub stands_at : RefersTo m at standing.0
    stands_at = subst (λ a. RefersTo m a standing.0) (sym owns) standing.1

    ws_is : ws ≡ standing.0
    ws_is = reads standing.0 stands_at

    pub ws_in : All (IsWithin t.vars) ws
    ws_in = subst (All (IsWithin t.vars)) (sym ws_is) standing.2

    pub lens : (here % 2 < at.len) × (length ws ≡ at.len)
    lens = let z = side here in let a = two standing.0 standing.1 in let b = stands_at.1 in (omega arith, ap length ws_is ∙ sym b)

    module _ (k : ℕ) (x : Literal) (found : FindsWatch t.entries ws (Some (record { place = k; literal = x }))) where
      pub found_in : IsWithin t.vars x
      found_in = subst (IsWithin t.vars) (found.2 x) (ws_in k x found.1)

      pub found_apart : x ≢ f
      found_apart e = false≢true (sym found.3 ∙ ap (λ l. holds t.entries (negation l)) e ∙ w.f_false)

      pub moves_at : IsDistinct same ws → (new : Clauses) → ((C : Clause) → RefersTo m at C → new ≡ insert m at.number (at.place, swap C (here % 2) k)) → (ys : List Watch) (g h : ℕ) → g ≡ index_of f → h ≡ index_of x → Relinks W.places ys W.base g previous here h x
          → SameUpToOrder m new × (Walk (record W { places = ys }) new t f level previous × IsShorter W.places ys previous previous)
      moves_at differ new says ys g h from_is head_is r =
          let D = standing.0 in
          let e : new ≡ insert m at.number (at.place, swap D (here % 2) k) = says D stands_at in
          let kb : k < length D = subst (λ C. k < length C) ws_is found.1 in
          let r' = subst (λ n. Relinks W.places ys W.base n previous here (index_of x) x) from_is (subst (λ n. Relinks W.places ys W.base g previous here n x) head_is r) in
          let z = side here in
          let a = two D standing.1 in
          let go = moves ys x k D standing.1 found.0 kb (subst (λ C. (d : Literal) → get_or C k d ≡ x) ws_is found.2) (subst (IsDistinct same) ws_is differ) found.3 r' in
          let new_is : new ≡ insert m (owner W here).number ((owner W here).place, swap D (here % 2) k) = e ∙ ap (λ (b : Ref). insert m b.number (b.place, swap D (here % 2) k)) owns in (
            subst (SameUpToOrder m) (sym e) (same_swapped m at D (here % 2) k stands_at (omega arith) kb),
            subst (λ n. Walk (record W { places = ys }) n t f level previous × IsShorter W.places ys previous previous) (sym new_is) go,
          )

    module _ (none : FindsWatch t.entries ws None) where
      none_free : (k : ℕ) (d : Literal) → 2 ≤ k → k < length standing.0 → holds t.entries (negation (get_or standing.0 k d)) ≡ true
      none_free = subst (λ C. (k : ℕ) (d : Literal) → 2 ≤ k → k < length C → holds t.entries (negation (get_or C k d)) ≡ true) ws_is none

      lives_at : live_among (numbers W.clauses) (live_of m) at.number standing.0
      lives_at = subst (λ (a : Ref). live_among (numbers W.clauses) (live_of m) a.number standing.0) (sym owns) (lives standing.0 standing.1)

      pub stops : (o : Literal) → o ≡ literal_at W.places (twin here) → holds t.entries (negation o) ≡ true → StopsAtConflict W m t at.number
      stops o e h = record {
        paths = w.paths;
        watching = w.watching;
        conflict = (standing.0, lives_at, is_false standing.0 standing.1 none_free (ap (λ l. holds t.entries (negation l)) (sym e) ∙ h));
      }

      pub implies : (o : Literal) (n : ℕ) → o ≡ literal_at W.places (twin here) → holds t.entries o ≡ false → holds t.entries (negation o) ≡ false → n ≡ present t.entries
          → IsImplied (live_among (numbers W.clauses) (live_of m)) t.entries (record { literal = o; level = n; reason = Some at.number })
      implies o n e a b l = record {
        number = at.number;
        clause = standing.0;
        reason = refl;
        lives = lives_at;
        unit = subst (IsUnit (holds t.entries) standing.0) (sym e) (is_unit standing.0 standing.1 none_free (ap (holds t.entries) (sym e) ∙ a) (ap (λ l. holds t.entries (negation l)) (sym e) ∙ b));
        level = l;
      }

-- the other watch came to the trail, and the place stays
pub stays_pushed : (W : Watches) (m : Clauses) (t : TrailValue) (f : Literal) (level previous here : ℕ)
    (w : Walk W m t f level previous) (is : here ≡ next_of W.places previous) (some : 0 < here)
    → (u : TrailValue) (e : Assigned) → e.literal ≡ literal_at W.places (twin here) → holds t.entries e.literal ≡ false → holds t.entries (negation e.literal) ≡ false → e.level ≡ present t.entries
    → u.vars ≡ t.vars → u.entries ≡ t.entries ++ e ∷ []
    → Walk W m u f level here × IsShorter W.places W.places previous here
stays_pushed W m t f level previous here w is some u e o a b l v q =
    let le : e.level ≤ level = let p = present_le t.entries level w.levels in omega arith in
    let v' = walk_pushed W m t f level previous here w is some u e v q a b le in
    let h : holds u.entries e.literal ≡ true = subst (λ es. holds es e.literal ≡ true) (sym q) (holds_pushed t.entries e) in
    stays W m u f level previous here v' is some (holds_up_to u.entries level (literal_at W.places (twin here)) v'.levels (ap (holds u.entries) (sym o) ∙ h))

-- the last that was looked at lies in the store
pub previous_low : (W : Watches) (m : Clauses) (t : TrailValue) (f : Literal) (level previous : ℕ) (w : Walk W m t f level previous) → previous < length W.places
previous_low W m t f level previous w =
    let a = index_below t.vars f w.f_in in
    let b = w.watching.wide in
    let c = w.watching.low in
    elim (last_in (index_of f) w.done) [
      | inl e ↦ omega (arith, w.previous_is)
      | inr h ↦ let d = w.watching.lists.real (index_of f) (last_of (index_of f) w.done) (subst (IsIn (last_of (index_of f) w.done)) (sym w.path) (in_left (last_of (index_of f) w.done) w.done w.rest h)) in omega (arith, w.previous_is, d.1)
    ]

-- ---- the beginning and the end
pub walk_begins : (W : Watches) (m : Clauses) (t : TrailValue) (paths : ℕ → List ℕ) (f : Literal) (level : ℕ)
    → IsWatching W m t paths → IsWithin t.vars f → holds t.entries (negation f) ≡ true → IsConsistent t.entries → All (λ e. e.level ≤ level) t.entries
    → Walk W m t f level (index_of f)
walk_begins W m t paths f level w b g s l = record {
  paths = paths;
  done = [];
  rest = paths (index_of f);
  watching = w;
  path = refl;
  previous_is = refl;
  guarded = λ p h. absurd h;
  f_in = b;
  f_false = g;
  sound = s;
  levels = l;
}

pub walk_ends : (W : Watches) (m : Clauses) (t : TrailValue) (f : Literal) (level previous : ℕ) (w : Walk W m t f level previous)
    → next_of W.places previous ≡ 0 → ((d : Assigned) → (get_or t.entries W.head d).literal ≡ negation f) → ((d : Assigned) → (get_or t.entries W.head d).level ≡ level) → W.head < length t.entries
    → IsWatching (past_head W) m t w.paths
walk_ends W m t f level previous w z is at l = advance W m t w.paths w.watching f level is at l (λ p h. w.guarded p (only p h)) where
  none_left : (rest : List ℕ) → IsWatchList W.places previous rest → ((q : ℕ) → IsIn q rest → 0 < q) → rest ≡ []
  none_left [] c h = refl
  none_left (q ∷ rest) c h = absurd (let a = h q (inl refl) in omega (arith, c.0))

  low : index_of f < W.base / 2
  low = let a = index_below t.vars f w.f_in in let b = w.watching.wide in omega arith

  rest_none : w.rest ≡ []
  rest_none = none_left w.rest
      (subst (λ p. IsWatchList W.places p w.rest) (sym w.previous_is) (chain_rest W.places (index_of f) w.done w.rest (subst (IsWatchList W.places (index_of f)) w.path (w.watching.lists.watch_list (index_of f) low))))
      (λ q i. let a = w.watching.lists.real (index_of f) q (subst (IsIn q) (sym w.path) (in_right q w.done w.rest i)) in omega (arith, a.0))

  only : (p : ℕ) → IsIn p (w.paths (index_of f)) → IsIn p w.done
  only p h = elim (in_either p w.done w.rest (subst (IsIn p) w.path h)) [
    | inl a ↦ a
    | inr b ↦ absurd (subst (IsIn p) rest_none b)
  ]

-- ---- the walk along the chain of the entry at the head
pub walk_stays : (W : Watches) (m : Clauses) (t : TrailValue) (previous here : ℕ) (k : IsWalk W m t previous)
    → Walk W m t (negation k.entry.literal) k.entry.level here × IsShorter W.places W.places previous here → Visits W W m t previous here Stays
walk_stays W m t previous here k v = (record { entry = k.entry; inside = k.inside; entry_is = k.entry_is; walk = v.0 }, v.1)

pub walk_grows : (W : Watches) (m : Clauses) (t u : TrailValue) (previous here : ℕ) (k : IsWalk W m t previous) (e : Assigned) → u.entries ≡ t.entries ++ e ∷ []
    → Walk W m u (negation k.entry.literal) k.entry.level here × IsShorter W.places W.places previous here → Visits W W m u previous here Stays
walk_grows W m t u previous here k e q v = (
  record {
    entry = k.entry;
    inside = omega (arith, k.inside, ap length q, length-append t.entries (e ∷ []));
    entry_is = λ d. ap (λ es. get_or es W.head d) q ∙ get_or_append_left t.entries (e ∷ []) d W.head k.inside ∙ k.entry_is d;
    walk = v.0;
  },
  v.1,
)

pub walk_moves : (old new : Watches) (m n : Clauses) (t : TrailValue) (previous here : ℕ) (k : IsWalk old m t previous) → IsRelinked old new
    → Walk (record old { places = new.places }) n t (negation k.entry.literal) k.entry.level previous × IsShorter old.places new.places previous previous → Visits old new n t previous here Moves
walk_moves old new m n t previous here k r v = (subst (λ X. IsWalk X n t previous) (sym r.rest) (record { entry = k.entry; inside = k.inside; entry_is = k.entry_is; walk = v.0 }), v.1)

pub walk_starts : (W : Watches) (m : Clauses) (t : TrailValue) (e : Assigned) → AreWatching W m t → IsTrailValue t → W.head < length t.entries → ((d : Assigned) → get_or t.entries W.head d ≡ e) → All (λ x. x.level ≤ e.level) t.entries
    → IsWalk W m t (index_of (negation e.literal))
walk_starts W m t e ready valid inside is levels = record {
  entry = e;
  inside = inside;
  entry_is = is;
  walk = walk_begins W m t ready.0 (negation e.literal) e.level ready.1
      (IsWithin-negation t.vars e.literal (subst (λ (x : Assigned). IsWithin t.vars x.literal) (is e) (valid.within W.head e inside)))
      (ap (holds t.entries) (negation-negation e.literal) ∙ subst (λ (x : Assigned). holds t.entries x.literal ≡ true) (is e) (entry_holds t.entries W.head e inside))
      (λ l x y. consistent t.entries l valid.apart x y)
      levels;
}

pub walk_stops : (W : Watches) (m : Clauses) (t : TrailValue) (previous : ℕ) (k : IsWalk W m t previous) → next_of W.places previous ≡ 0 → AreWatching (past_head W) m t
walk_stops W m t previous k z = (
  k.walk.paths,
  walk_ends W m t (negation k.entry.literal) k.entry.level previous k.walk z
      (λ d. ap (λ (x : Assigned). x.literal) (k.entry_is d) ∙ sym (negation-negation k.entry.literal))
      (λ d. ap (λ (x : Assigned). x.level) (k.entry_is d))
      k.inside,
)

pub walk_low : (W : Watches) (m : Clauses) (t : TrailValue) (previous : ℕ) → IsWalk W m t previous → previous < length W.places
walk_low W m t previous k = previous_low W m t (negation k.entry.literal) k.entry.level previous k.walk
