-- A watch list that is emptied into the pending list.
use Rattle.std.proofs.Common.{◌≡◌, ◌≢◌, ℕ, suc, ◌+◌, ◌/◌, ◌<◌, ◌≤◌, inl, List, [], ◌∷◌, ◌++◌, length, get_or, refl, ap, sym, ◌∙◌, subst, arith}
use Rattle.dimacs.specs.logic.Literal.{Literal, IsWithin, negation, index_of}
use Rattle.dimacs.proofs.LiteralLemmas.{index_below, negation-negation, IsWithin-negation}
use Rattle.clause_arena.specs.Clauses.{Clauses}
use Rattle.watches.specs.declared.trail.Assigned.{Assigned}
use Rattle.watches.specs.Trails.{TrailValue, IsTrailValue}
use Rattle.watches.specs.declared.watched.watch.Watch.{Watch}
use Rattle.watches.specs.inner.WatchLists.{literal_at, next_of, IsIn, IsWatchList, Relinks, MayRelink}
use Rattle.watches.specs.inner.WatchInvariants.{past_head, IsWatching, AreWatching, IsRelinked}
use Rattle.watches.specs.inner.ListWalk.{left_behind}
use Rattle.watches.proofs.WatchListLemmas.{after_l, moved_paths, may_relink}
use Rattle.watches.proofs.RelinkLemmas.{put}
use Rattle.watches.proofs.StateLemmas.{advance}
use Rattle.watches.proofs.ListWalkLemmas.{cons_of, left_behind_is}
use Rattle.watches.proofs.PendingLemmas.{index_high}
use Rattle.watches.specs.Watches.{Watches}

module _ (W : Watches) (m : Clauses) (t : TrailValue) (paths : ℕ → List ℕ) (w : IsWatching W m t paths) (f : Literal) (f_in : IsWithin t.vars f) where
  pub first_head : index_of f < W.base / 2
  first_head = let a = index_below t.vars f f_in in let b = w.wide in omega arith

  pub first_in : index_of f < length W.places
  first_in = let a = first_head in let b = w.low in omega arith

  pub left_first : left_behind W.places (index_of f) ≡ length (paths (index_of f))
  left_first = left_behind_is W.places (index_of f) W.base (paths (index_of f)) (w.lists.watch_list (index_of f) first_head) (w.lists.once (index_of f)) (let a = first_head in omega arith) (w.lists.real (index_of f))

  -- the chain is empty: the entry was handled
  pub emptied : next_of W.places (index_of f) ≡ 0 → (level : ℕ) → ((d : Assigned) → (get_or t.entries W.head d).literal ≡ negation f) → ((d : Assigned) → (get_or t.entries W.head d).level ≡ level) → W.head < length t.entries
      → IsWatching (past_head W) m t paths
  emptied z level is at l = advance W m t paths w f level is at l (λ p h. absurd (subst (IsIn p) (none (paths (index_of f)) (w.lists.watch_list (index_of f) first_head) (λ q i. let a = w.lists.real (index_of f) q i in let b = first_head in omega (arith, a.0))) h))
    where
      none : (rest : List ℕ) → IsWatchList W.places (index_of f) rest → ((q : ℕ) → IsIn q rest → 0 < q) → rest ≡ []
      none [] c h = refl
      none (q ∷ rest) c h = absurd (let a = h q (inl refl) in omega (arith, c.0))

  module _ (here : ℕ) (is : here ≡ next_of W.places (index_of f)) (some : 0 < here) where
    pub first_more : (more : List ℕ) × (paths (index_of f) ≡ here ∷ more)
    first_more = cons_of W.places (index_of f) here (paths (index_of f)) (w.lists.watch_list (index_of f) first_head) is some

    pub first_real : (W.base ≤ here) × (here < length W.places)
    first_real = w.lists.real (index_of f) here (subst (IsIn here) (sym first_more.1) (inl refl))

    pub first_may : MayRelink W.places W.base (index_of f) (index_of f) here 0
    first_may = may_relink W.places W.base paths (index_of f) (index_of f) here 0 [] first_more.0 w.lists w.low first_head (let a = first_head in omega arith)
        (λ e. let a = index_high t.vars f f_in in omega arith) first_more.1 refl

    module _ (ys : List Watch) (v : Literal) (own : v ≡ literal_at W.places here) (r : Relinks W.places ys W.base (index_of f) (index_of f) here 0 v) where
      apart_zero : 0 ≢ index_of f
      apart_zero e = let a = index_high t.vars f f_in in omega arith

      pub delayed : IsWatching (record W { places = ys }) m t (moved_paths paths (index_of f) ([] ++ first_more.0) 0 here)
      delayed = put W ys m t paths w v (index_of f) 0 here [] first_more.0 first_head (let a = first_head in omega arith) first_more.1 apart_zero (sym own)
          (λ x b e. absurd (let a = index_high t.vars x b in omega arith))
          (λ h. inl refl)
          (λ i e s. inl refl)
          r

      pub less : left_behind ys (index_of f) + 1 ≡ left_behind W.places (index_of f)
      less =
          let n = left_behind_is ys (index_of f) W.base (moved_paths paths (index_of f) ([] ++ first_more.0) 0 here (index_of f)) (delayed.lists.watch_list (index_of f) first_head) (delayed.lists.once (index_of f)) (let a = first_head in omega arith) (delayed.lists.real (index_of f)) in
          let e : length (moved_paths paths (index_of f) ([] ++ first_more.0) 0 here (index_of f)) ≡ length first_more.0 = ap length (after_l paths (index_of f) 0 here [] first_more.0 first_more.1 apart_zero) in
          let o : length (paths (index_of f)) ≡ suc (length first_more.0) = ap length first_more.1 in
          let k = left_first in
          omega arith

-- ---- in the words of the code: `first` heads the chain of the literal that the entry at the head makes false
module _ (U W : Watches) (m : Clauses) (t : TrailValue) (ready : AreWatching W m t) (so_far : IsRelinked U W) (valid : IsTrailValue t) (e : Assigned)
    (inside : U.head < length t.entries) (entry_is : (d : Assigned) → get_or t.entries U.head d ≡ e) (first : ℕ) (first_is : first ≡ index_of (negation e.literal)) where
  falsified_in : IsWithin t.vars (negation e.literal)
  falsified_in = IsWithin-negation t.vars e.literal (subst (λ (x : Assigned). IsWithin t.vars x.literal) (entry_is e) (valid.within U.head e inside))

  same_head : U.head ≡ W.head
  same_head = sym (ap (λ (X : Watches). X.head) so_far.rest)

  entry_now : (d : Assigned) → get_or t.entries W.head d ≡ e
  entry_now d = ap (λ n. get_or t.entries n d) (sym same_head) ∙ entry_is d

  pub chain_low : first < W.base / 2
  chain_low = subst (λ n. n < W.base / 2) (sym first_is) (first_head W m t ready.0 ready.1 (negation e.literal) falsified_in)

  pub chain_high : 0 < first
  chain_high = subst (λ n. 0 < n) (sym first_is) (index_high t.vars (negation e.literal) falsified_in)

  pub chain_in : first < length W.places
  chain_in = subst (λ n. n < length W.places) (sym first_is) (first_in W m t ready.0 ready.1 (negation e.literal) falsified_in)

  pub chain_done : next_of W.places first ≡ 0 → AreWatching (past_head W) m t
  chain_done z = (
    ready.0,
    emptied W m t ready.0 ready.1 (negation e.literal) falsified_in (subst (λ n. next_of W.places n ≡ 0) first_is z) e.level
        (λ d. ap (λ (x : Assigned). x.literal) (entry_now d) ∙ sym (negation-negation e.literal))
        (λ d. ap (λ (x : Assigned). x.level) (entry_now d))
        (subst (λ n. n < length t.entries) same_head inside),
  )

  module _ (here : ℕ) (next : here ≡ next_of W.places first) (some : 0 < here) where
    next_first : here ≡ next_of W.places (index_of (negation e.literal))
    next_first = next ∙ ap (next_of W.places) first_is

    pub place_real : (W.base ≤ here) × (here < length W.places)
    place_real = first_real W m t ready.0 ready.1 (negation e.literal) falsified_in here next_first some

    -- the watch may go to the pending list
    pub place_may : MayRelink W.places W.base first first here 0
    place_may = subst (λ n. MayRelink W.places W.base n n here 0) (sym first_is)
        (first_may W m t ready.0 ready.1 (negation e.literal) falsified_in here next_first some)

    module _ (V : Watches) (v : Literal) (own : v ≡ literal_at W.places here) (r : Relinks W.places V.places W.base first first here 0 v) (s : IsRelinked W V) where
      relinks_first : Relinks W.places V.places W.base (index_of (negation e.literal)) (index_of (negation e.literal)) here 0 v
      relinks_first = subst (λ n. Relinks W.places V.places W.base n n here 0 v) first_is r

      pub place_waits : AreWatching V m t
      place_waits = subst (λ X. AreWatching X m t) (sym s.rest) (_, delayed W m t ready.0 ready.1 (negation e.literal) falsified_in here next_first some V.places v own relinks_first)

      pub place_less : left_behind V.places first + 1 ≡ left_behind W.places first
      place_less = subst (λ n. left_behind V.places n + 1 ≡ left_behind W.places n) (sym first_is) (less W m t ready.0 ready.1 (negation e.literal) falsified_in here next_first some V.places v own relinks_first)
