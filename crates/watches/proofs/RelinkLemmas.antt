-- A watch that moves to another literal of its clause.
use Rattle.std.proofs.Common.{◌≡◌, ◌≢◌, ℕ, ◌+◌, ◌*◌, ◌-◌, ◌/◌, ◌%◌, ◌<◌, ◌≤◌, ◌⊎◌, inl, inr, true, false, List, ◌∷◌, ◌++◌, length, get_or, swap, refl, ap, sym, ◌∙◌, subst, arith, All}
use Rattle.std.specs.List.{IsDistinct}
use Rattle.std.specs.FinMap.{insert}
use Rattle.std.proofs.lemmas.Bool.{cases_eq}
use Rattle.std.proofs.lemmas.List.{get_or_default}
use Rattle.dimacs.specs.logic.Literal.{Literal, Clause, IsWithin, negation, same, index_of}
use Rattle.dimacs.proofs.LiteralLemmas.{index_apart, index_below, same_or_not}
use Rattle.clause_arena.specs.declared.reference.Ref.{Ref}
use Rattle.clause_arena.specs.Clauses.{Clauses, RefersTo}
use Rattle.clause_arena.proofs.ClauseLaws.{stands_once, swapped_stands, other_stands, other_stood}
use Rattle.watches.specs.Trails.{TrailValue, holds}
use Rattle.watches.specs.inner.LiveClauses.{IsLiveWithin}
use Rattle.watches.specs.declared.watched.watch.Watch.{Watch}
use Rattle.watches.specs.inner.WatchLists.{literal_at, twin, IsIn, last_of, AreWatchLists, Relinks}
use Rattle.watches.specs.inner.ListWalk.{IsConsistent}
use Rattle.watches.specs.inner.WatchInvariants.{owner, no_clause, IsGuarded, IsPendingOrGuarded, IsLong, IsRootSatisfied, IsWatching}
use Rattle.watches.proofs.WatchListLemmas.{in_right, moved_paths, still_in, now_in, was_in, chains_moved}
use Rattle.watches.proofs.TwinLemmas.{twins_of, owner_twin, long_twin, same_owner, parity}
use Rattle.watches.proofs.SwapLemmas.{swapped, all_swapped, apart_at}
use Rattle.watches.proofs.GuardLemmas.{up_to_holds, guarded_free}
use Rattle.watches.specs.Watches.{Watches}

-- the place p, in the chain of the false literal f, goes to the literal x at place k of the clause
module _ (W : Watches) (ys : List Watch) (m : Clauses) (t : TrailValue) (paths : ℕ → List ℕ)
    (w : IsWatching W m t paths)
    (f x : Literal) (l p k : ℕ) (done rest : List ℕ) (C : Clause)
    (f_head : l < W.base / 2) (is : paths l ≡ done ++ p ∷ rest) (heads_apart : index_of x ≢ l) (long_p : IsLong W p) (lit_p : literal_at W.places p ≡ f)
    (st : RefersTo m (owner W p) C) (two : 2 ≤ k) (kb : k < length C) (at_k : (d : Literal) → get_or C k d ≡ x)
    (differ : IsDistinct same C)
    (sound : IsConsistent t.entries) (f_false : holds t.entries (negation f) ≡ true) (x_free : holds t.entries (negation x) ≡ false)
    (r : Relinks W.places ys W.base l (last_of l done) p (index_of x) x) where
  there : IsIn p (paths l)
  there = subst (IsIn p) (sym is) (in_right p done (p ∷ rest) (inl refl))

  long_C : 2 ≤ length C
  long_C = omega arith

  here_p : IsLiveWithin m t.vars (owner W p)
  here_p = w.here ((p - W.base) / 2) no_clause (let a = long_p.0 in let b = long_p.1 in let c = w.partly in let d = w.even in let e = w.paired in omega arith)

  all_C : All (IsWithin t.vars) C
  all_C = subst (All (IsWithin t.vars)) (stands_once m (owner W p) here_p.0 C here_p.1 st) here_p.2

  x_in : IsWithin t.vars x
  x_in = subst (IsWithin t.vars) (at_k f) (all_C k f kb)

  x_head : index_of x < W.base / 2
  x_head = let a = index_below t.vars x x_in in let b = w.wide in omega arith

  abbrev now : ℕ → List ℕ
  now = moved_paths paths (l) (done ++ rest) (index_of x) p

  abbrev changed : Clauses
  changed = insert m (owner W p).number ((owner W p).place, swap C (p % 2) k)

  lists : AreWatchLists ys W.base now
  lists = chains_moved W.places ys W.base paths (l) (index_of x) p x done rest w.lists w.low f_head x_head heads_apart is r

  still : (q j : ℕ) → q ≢ p → IsIn q (paths j) → IsIn q (now j)
  still q j n h = still_in paths (l) (index_of x) p done rest is heads_apart q j n h

  was : (q j : ℕ) → IsIn q (now j) → ((q ≡ p) × (j ≡ index_of x)) ⊎ ((q ≢ p) × IsIn q (paths j))
  was q j h = was_in paths (l) (index_of x) p done rest is heads_apart q j (w.lists.once (l)) (λ i g. w.lists.apart i (l) p g there) h

  -- a place of another clause, or of this one
  same_or_other : (q : ℕ) → IsLong W q → ((q ≡ p) ⊎ (q ≡ twin p)) ⊎ ((owner W q).number ≢ (owner W p).number)
  same_or_other q h = elim (cases_eq (owner W p).number (owner W q).number) [
    | inl e ↦ inl (same_owner W.base p q w.even long_p.0 h.0 (w.named ((p - W.base) / 2) ((q - W.base) / 2)
        (let a = long_p.0 in let b = long_p.1 in let c = w.partly in let d = w.even in let e = w.paired in omega arith)
        (let a = h.0 in let b = h.1 in let c = w.partly in let d = w.even in let e = w.paired in omega arith) e))
    | inr n ↦ inr (λ e. n (sym e))
  ]

  sides : p % 2 < 2
  sides = elim (parity p) [ inl e ↦ omega arith | inr e ↦ omega arith ]

  long_back : (q : ℕ) → IsLong (record W { places = ys }) q → IsLong W q
  long_back q h = (h.0, omega (arith, h.1, r.long), h.2)

  long_on : (q : ℕ) → IsLong W q → IsLong (record W { places = ys }) q
  long_on q h = (h.0, omega (arith, h.1, r.long), h.2)

  lit_twin : (d : Literal) → literal_at W.places (twin p) ≡ get_or C (twin p % 2) d
  lit_twin d = w.front (twin p) C d (long_twin W p w.even w.paired long_p) (subst (λ a. RefersTo m a C) (sym (owner_twin W p w.even)) st)

  twin_same : literal_at ys (twin p) ≡ literal_at W.places (twin p)
  twin_same = r.literals (twin p) (twins_of p).apart

  apart_owner : (q : ℕ) → (owner W q).number ≢ (owner W p).number → q ≢ p
  apart_owner q n e = n (ap (λ z. (owner W z).number) e)

  front : (q : ℕ) (D : Clause) (d : Literal) → IsLong (record W { places = ys }) q → RefersTo changed (owner W q) D → literal_at ys q ≡ get_or D (q % 2) d
  front q D d h s = elim (same_or_other q (long_back q h)) [
    | inl both ↦ elim both [
      | inl e ↦
          let is_swap = stands_once changed (owner W p) (swap C (p % 2) k) D (swapped_stands m (owner W p) C (p % 2) k st) (subst (λ z. RefersTo changed (owner W z) D) e s) in
          let sw = swapped C (p % 2) k d (let a = sides in omega arith) kb in
          ap (literal_at ys) e ∙ r.watched ∙ sym (at_k d) ∙ sym sw.0 ∙ ap (λ E. get_or E (p % 2) d) is_swap ∙ ap (λ z. get_or D (z % 2) d) (sym e)
      | inr e ↦
          let is_swap = stands_once changed (owner W p) (swap C (p % 2) k) D (swapped_stands m (owner W p) C (p % 2) k st)
          (subst (λ a. RefersTo changed a D) (ap (owner W) e ∙ owner_twin W p w.even) s) in
          let sw = swapped C (p % 2) k d (let a = sides in omega arith) kb in
          let tw = (twins_of p).sides in
          ap (literal_at ys) e ∙ twin_same ∙ lit_twin d ∙ sym (sw.2 (twin p % 2) (λ z. omega arith) (λ z. omega arith)) ∙ ap (λ E. get_or E (twin p % 2) d) is_swap ∙ ap (λ z. get_or D (z % 2) d) (sym e)
    ]
    | inr n ↦ r.literals q (apart_owner q n) ∙ w.front q D d (long_back q h) (other_stood m (owner W p).number ((owner W p).place, swap C (p % 2) k) (owner W q) D n s)
  ]

  x_apart_twin : x ≢ literal_at W.places (twin p)
  x_apart_twin e =
      let tw = (twins_of p).sides in
      apart_at C k (twin p % 2) x differ kb (omega arith) (λ z. omega arith) (at_k x ∙ e ∙ lit_twin x)

  apart : (q : ℕ) → IsLong (record W { places = ys }) q → literal_at ys q ≢ literal_at ys (twin q)
  apart q h = elim (same_or_other q (long_back q h)) [
    | inl both ↦ elim both [
      | inl e ↦ λ g. x_apart_twin (sym r.watched ∙ ap (literal_at ys) (sym e) ∙ g ∙ ap (λ z. literal_at ys (twin z)) e ∙ twin_same)
      | inr e ↦ λ g. x_apart_twin (sym r.watched ∙ ap (literal_at ys) (sym (twins_of p).back) ∙ ap (λ z. literal_at ys (twin z)) (sym e) ∙ sym g ∙ ap (literal_at ys) e ∙ twin_same)
    ]
    | inr n ↦
        let twin_apart : twin q ≢ p = λ e. n (ap (λ (a : Ref). a.number) (sym (owner_twin W q w.even)) ∙ ap (λ z. (owner W z).number) e) in
        λ g. w.apart q (long_back q h) (sym (r.literals q (apart_owner q n)) ∙ g ∙ r.literals (twin q) twin_apart)
  ]

  same_index : (k l : Literal) → index_of k ≡ index_of l → k ≡ l
  same_index k l e = elim (same_or_not k l) [ inl s ↦ s | inr n ↦ absurd (index_apart k l n e) ]

  home : (v : Literal) (q : ℕ) → IsWithin t.vars v → IsIn q (now (index_of v)) → (literal_at ys q ≡ v) × IsLong (record W { places = ys }) q
  home v q b h = elim (was q (index_of v) h) [
    | inl e ↦ (ap (literal_at ys) e.0 ∙ r.watched ∙ sym (same_index v x e.1), subst (IsLong (record W { places = ys })) (sym e.0) (long_on p long_p))
    | inr n ↦ let o = w.home v q b n.1 in (r.literals q n.0 ∙ o.0, long_on q o.1)
  ]

  -- what f guarded was not false
  guard_other : (v : Literal) → IsGuarded t.entries W.head v f → IsGuarded t.entries W.head v x
  guard_other v g i d b e = absurd (sound f (up_to_holds t.entries _ f (g i d b e)) f_false)

  kept : (q : ℕ) → IsLong (record W { places = ys }) q → IsPendingOrGuarded ys t.entries W.head now q
  kept q h = elim (cases_eq q p) [
    | inl e ↦ subst (IsPendingOrGuarded ys t.entries W.head now) (sym e) (inr (
      subst (λ l. IsIn p (now (index_of l))) (sym r.watched) (now_in paths (l) (index_of x) p done rest is heads_apart),
      subst (λ l. IsGuarded t.entries W.head l (literal_at ys (twin p))) (sym r.watched) (guarded_free t.entries W.head x (literal_at ys (twin p)) w.handled x_free),
    ))
    | inr n ↦ elim (w.kept q (long_back q h)) [
      | inl i ↦ inl (still q 0 n i)
      | inr i ↦ inr (
        subst (λ l. IsIn q (now (index_of l))) (sym (r.literals q n)) (still q (index_of (literal_at W.places q)) n i.0),
        subst (λ l. IsGuarded t.entries W.head l (literal_at ys (twin q))) (sym (r.literals q n)) (elim (cases_eq (twin q) p) [
          | inl e ↦ subst (IsGuarded t.entries W.head (literal_at W.places q)) (sym (ap (literal_at ys) e ∙ r.watched))
              (guard_other (literal_at W.places q) (subst (IsGuarded t.entries W.head (literal_at W.places q)) (ap (literal_at W.places) e ∙ lit_p) i.1))
          | inr a ↦ subst (IsGuarded t.entries W.head (literal_at W.places q)) (sym (r.literals (twin q) a)) i.1
        ]),
      )
    ]
  ]

  here : All (IsLiveWithin changed t.vars) W.clauses
  here i d b =
      let h = w.here i d b in
      let pi : (p - W.base) / 2 < length W.clauses = let a = long_p.0 in let c = long_p.1 in let e = w.partly in let g = w.even in let z = w.paired in omega arith in
      elim (cases_eq (get_or W.clauses i d).number (owner W p).number) [
        | inl e ↦
            let same_i : i ≡ (p - W.base) / 2 = w.named i ((p - W.base) / 2) b pi (ap (λ (a : Ref). a.number) (get_or_default W.clauses i no_clause d b) ∙ e) in
            let same_at : get_or W.clauses i d ≡ owner W p = ap (λ j. get_or W.clauses j d) same_i ∙ get_or_default W.clauses ((p - W.base) / 2) d no_clause pi in
            subst (IsLiveWithin changed t.vars) (sym same_at) (swap C (p % 2) k, swapped_stands m (owner W p) C (p % 2) k st, all_swapped (IsWithin t.vars) C (p % 2) k (let a = sides in omega arith) kb all_C)
        | inr n ↦ (h.0, other_stands m (owner W p).number ((owner W p).place, swap C (p % 2) k) (get_or W.clauses i d) h.0 n h.1, h.2)
      ]

  short : (i : ℕ) → W.base + 2 * i < length ys → (get_or W.clauses i no_clause).len < 2 → IsIn (W.base + 2 * i) (now 0) ⊎ IsRootSatisfied changed t.entries (get_or W.clauses i no_clause)
  short i b s =
      let half : (W.base + 2 * i - W.base) / 2 ≡ i = omega arith in
      let own : owner W (W.base + 2 * i) ≡ get_or W.clauses i no_clause = ap (λ j. get_or W.clauses j no_clause) half in
      let n : (get_or W.clauses i no_clause).number ≢ (owner W p).number = λ e.
      let a = long_p.0 in let c = long_p.1 in let g = w.partly in let h = w.even in let z = w.paired in let u = r.long in
      let same_i : i ≡ (p - W.base) / 2 = w.named i ((p - W.base) / 2) (omega arith) (omega arith) e in
      let two_of : 2 ≤ (get_or W.clauses i no_clause).len = subst (λ j. 2 ≤ (get_or W.clauses j no_clause).len) (sym same_i) long_p.2 in
      omega arith in
      elim (w.short i (omega (arith, r.long)) s) [
        | inl h ↦ inl (still (W.base + 2 * i) 0 (λ e. n (ap (λ (a : Ref). a.number) (sym own) ∙ ap (λ z. (owner W z).number) e)) h)
        | inr h ↦ inr (λ D g. h D (other_stood m (owner W p).number ((owner W p).place, swap C (p % 2) k) (get_or W.clauses i no_clause) D n g))
      ]

  pub moved : IsWatching (record W { places = ys }) changed t now
  moved = record {
    lists = lists;
    wide = w.wide;
    even = w.even;
    low = omega (arith, r.long, w.low);
    paired = ap (λ n. n % 2) r.long ∙ w.paired;
    partly = omega (arith, r.long, w.partly);
    named = w.named;
    here = here;
    front = front;
    apart = apart;
    home = home;
    kept = kept;
    short = short;
    handled = w.handled;
  }

-- the place p, in chain l, goes to another chain with its literal: to that of the literal, where it is guarded; to that of waiting ones; a
-- place of a clause that is settled to that of those done with
module _ (W : Watches) (ys : List Watch) (m : Clauses) (t : TrailValue) (paths : ℕ → List ℕ)
    (w : IsWatching W m t paths)
    (f : Literal) (l h p : ℕ) (done rest : List ℕ)
    (f_head : l < W.base / 2) (h_head : h < W.base / 2) (is : paths l ≡ done ++ p ∷ rest) (heads_apart : h ≢ l) (lit_p : literal_at W.places p ≡ f)
    (long_home : (v : Literal) → IsWithin t.vars v → h ≡ index_of v → (f ≡ v) × IsLong W p)
    (place : IsLong W p → (h ≡ 0) ⊎ ((h ≡ index_of f) × IsGuarded t.entries W.head f (literal_at W.places (twin p))))
    (settled : (i : ℕ) → W.base + 2 * i ≡ p → (get_or W.clauses i no_clause).len < 2 → (h ≡ 0) ⊎ IsRootSatisfied m t.entries (get_or W.clauses i no_clause))
    (r : Relinks W.places ys W.base l (last_of l done) p h f) where
  put_there : IsIn p (paths l)
  put_there = subst (IsIn p) (sym is) (in_right p done (p ∷ rest) (inl refl))

  abbrev put_now : ℕ → List ℕ
  put_now = moved_paths paths l (done ++ rest) h p

  put_still : (q j : ℕ) → q ≢ p → IsIn q (paths j) → IsIn q (put_now j)
  put_still q j n g = still_in paths l h p done rest is heads_apart q j n g

  put_here : IsIn p (put_now h)
  put_here = now_in paths l h p done rest is heads_apart

  put_was : (q j : ℕ) → IsIn q (put_now j) → ((q ≡ p) × (j ≡ h)) ⊎ ((q ≢ p) × IsIn q (paths j))
  put_was q j g = was_in paths l h p done rest is heads_apart q j (w.lists.once l) (λ i g. w.lists.apart i l p g put_there) g

  -- no literal changes
  same_literal : (q : ℕ) → literal_at ys q ≡ literal_at W.places q
  same_literal q = elim (cases_eq q p) [
    | inl e ↦ ap (literal_at ys) e ∙ r.watched ∙ sym lit_p ∙ ap (literal_at W.places) (sym e)
    | inr n ↦ r.literals q n
  ]

  put_back : (q : ℕ) → IsLong (record W { places = ys }) q → IsLong W q
  put_back q g = (g.0, omega (arith, g.1, r.long), g.2)

  put_on : (q : ℕ) → IsLong W q → IsLong (record W { places = ys }) q
  put_on q g = (g.0, omega (arith, g.1, r.long), g.2)

  put_home : (v : Literal) (q : ℕ) → IsWithin t.vars v → IsIn q (put_now (index_of v)) → (literal_at ys q ≡ v) × IsLong (record W { places = ys }) q
  put_home v q b g = elim (put_was q (index_of v) g) [
    | inl e ↦
        let o = long_home v b (sym e.1) in
        (ap (literal_at ys) e.0 ∙ r.watched ∙ o.0, subst (IsLong (record W { places = ys })) (sym e.0) (put_on p o.1))
    | inr n ↦ let o = w.home v q b n.1 in (same_literal q ∙ o.0, put_on q o.1)
  ]

  -- what is said of a place by its literals
  kept_same : (q : ℕ) → (IsIn q (put_now (index_of (literal_at W.places q))) × IsGuarded t.entries W.head (literal_at W.places q) (literal_at W.places (twin q))) → IsPendingOrGuarded ys t.entries W.head put_now q
  kept_same q g = inr (
    subst (λ v. IsIn q (put_now (index_of v))) (sym (same_literal q)) g.0,
    subst (λ v. IsGuarded t.entries W.head v (literal_at ys (twin q))) (sym (same_literal q)) (subst (IsGuarded t.entries W.head (literal_at W.places q)) (sym (same_literal (twin q))) g.1),
  )

  put_kept : (q : ℕ) → IsLong (record W { places = ys }) q → IsPendingOrGuarded ys t.entries W.head put_now q
  put_kept q g = elim (cases_eq q p) [
    | inl e ↦ subst (IsPendingOrGuarded ys t.entries W.head put_now) (sym e) (elim (place (subst (IsLong W) e (put_back q g))) [
      | inl z ↦ inl (subst (λ j. IsIn p (put_now j)) z put_here)
      | inr z ↦ kept_same p (
        subst (λ j. IsIn p (put_now j)) (z.0 ∙ ap index_of (sym lit_p)) put_here,
        subst (λ v. IsGuarded t.entries W.head v (literal_at W.places (twin p))) (sym lit_p) z.1,
      )
    ])
    | inr n ↦ elim (w.kept q (put_back q g)) [
      | inl i ↦ inl (put_still q 0 n i)
      | inr i ↦ kept_same q (put_still q (index_of (literal_at W.places q)) n i.0, i.1)
    ]
  ]

  put_short : (i : ℕ) → W.base + 2 * i < length ys → (get_or W.clauses i no_clause).len < 2 → IsIn (W.base + 2 * i) (put_now 0) ⊎ IsRootSatisfied m t.entries (get_or W.clauses i no_clause)
  put_short i b s = elim (cases_eq (W.base + 2 * i) p) [
    | inl e ↦ elim (settled i e s) [
      | inl z ↦ inl (subst (λ q. IsIn q (put_now 0)) (sym e) (subst (λ j. IsIn p (put_now j)) z put_here))
      | inr z ↦ inr z
    ]
    | inr n ↦ elim (w.short i (omega (arith, r.long)) s) [ inl g ↦ inl (put_still (W.base + 2 * i) 0 n g) | inr g ↦ inr g ]
  ]

  pub put : IsWatching (record W { places = ys }) m t put_now
  put = record {
    lists = chains_moved W.places ys W.base paths l h p f done rest w.lists w.low f_head h_head heads_apart is r;
    wide = w.wide;
    even = w.even;
    low = omega (arith, r.long, w.low);
    paired = ap (λ n. n % 2) r.long ∙ w.paired;
    partly = omega (arith, r.long, w.partly);
    named = w.named;
    here = w.here;
    front = λ q D d g s. same_literal q ∙ w.front q D d (put_back q g) s;
    apart = λ q g e. w.apart q (put_back q g) (sym (same_literal q) ∙ e ∙ same_literal (twin q));
    home = put_home;
    kept = put_kept;
    short = put_short;
    handled = w.handled;
  }
