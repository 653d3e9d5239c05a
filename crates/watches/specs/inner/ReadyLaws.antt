-- The invariant of watch lists is kept if entries are pushed, reasons change, or clauses change that are not attached.
use Rattle.std.specs.Prelude.{◌≡◌, ℕ, ◌/◌, ◌-◌, ◌<◌, ◌≤◌, ◌||◌, Bool, true, false, List, ◌++◌, length, refl}
use Rattle.std.specs.List.{All, Contains}
use Rattle.std.specs.FinMap.{get}
use Rattle.std.proofs.Common.{ap, sym, subst, ◌∙◌, arith, inl, inr, length-append}
use Rattle.std.proofs.lemmas.Bool.{false≢true}
use Rattle.std.proofs.lemmas.List.{get_or_append_left}
use Rattle.std.proofs.lemmas.List.Folds.{list_any-append}
use Rattle.dimacs.specs.logic.Literal.{Literal, IsWithin}
use Rattle.clause_arena.specs.Clauses.{Clauses}
use Rattle.watches.specs.declared.trail.Assigned.{Assigned}
use Rattle.watches.specs.Law.{SameUpToReasons}
use Rattle.watches.specs.Trails.{TrailValue, up_to}
use Rattle.watches.specs.ClauseNumbers.{numbers}
use Rattle.watches.specs.inner.LiveClauses.{IsLiveWithin}
use Rattle.watches.specs.inner.ReasonLaws.{up_to_alike, literal_alike, level_alike, length_alike}
use Rattle.watches.specs.inner.ScanLaws.{has_number, here_pushed, here_elsewhere}
use Rattle.watches.specs.inner.WatchLists.{literal_at, twin}
use Rattle.watches.specs.inner.WatchInvariants.{no_clause, IsGuarded, IsWatching}
use Rattle.watches.specs.Watches.{Watches}
use Rattle.watches.specs.inner.Ready.{IsReady}

-- a disjunction is true if its left side is
pub or_left : (a b : Bool) → a ≡ true → (a || b) ≡ true
or_left true b e = refl
or_left false b e = absurd (false≢true e)

-- what is true up to level k stays true if entries are pushed
pub up_to_front : (es more : List Assigned) (k : ℕ) (l : Literal) → up_to es k l ≡ true → up_to (es ++ more) k l ≡ true
up_to_front es more k l h = list_any-append _ es more ∙ or_left _ _ h

-- a guarded watch stays guarded if entries are pushed
pub guarded_pushed : (es more : List Assigned) (head : ℕ) (w b : Literal) → head ≤ length es → IsGuarded es head w b → IsGuarded (es ++ more) head w b
guarded_pushed es more head w b l g i d h e =
    let s = get_or_append_left es more d i (omega arith) in
    subst (λ (x : Assigned). up_to (es ++ more) x.level b ≡ true) (sym s) (up_to_front es more _ b (g i d h (ap (λ (x : Assigned). x.literal) (sym s) ∙ e)))

-- a guarded watch stays guarded if reasons change
pub guarded_alike : (es fs : List Assigned) (head : ℕ) (w b : Literal) → SameUpToReasons es fs → head ≤ length es → IsGuarded es head w b → IsGuarded fs head w b
guarded_alike es fs head w b a l g i d h e =
    let below : i < length es = omega arith in
    up_to_alike es fs a _ b ∙ ap (λ k. up_to es k b) (level_alike es fs a i d below) ∙ g i d h (sym (literal_alike es fs a i d below) ∙ e)

module _ (W : Watches) (m : Clauses) (t : TrailValue) (paths : ℕ → List ℕ) (w : IsWatching W m t paths) where
  -- the invariant of watch lists is kept if entries are pushed
  pub pushed : (u : TrailValue) (more : List Assigned) → u.vars ≡ t.vars → u.entries ≡ t.entries ++ more → IsWatching W m u paths
  pushed u more v e = record {
    lists = w.lists;
    wide = omega (arith, w.wide);
    even = w.even;
    low = w.low;
    paired = w.paired;
    partly = w.partly;
    named = w.named;
    here = subst (λ n. All (IsLiveWithin m n) W.clauses) (sym v) w.here;
    front = w.front;
    apart = w.apart;
    home = λ l p b h. w.home l p (subst (λ n. IsWithin n l) v b) h;
    kept = λ p h. elim (w.kept p h) [
      | inl i ↦ inl i
      | inr i ↦ inr (i.0, subst (λ es. IsGuarded es W.head (literal_at W.places p) (literal_at W.places (twin p))) (sym e) (guarded_pushed t.entries more W.head (literal_at W.places p) (literal_at W.places (twin p)) w.handled i.1))
    ];
    short = λ i b s. elim (w.short i b s) [
      | inl h ↦ inl h
      | inr h ↦ inr (λ C st. let g = h C st in (g.0, g.1, subst (λ es. up_to es 0 g.0 ≡ true) (sym e) (up_to_front t.entries more 0 g.0 g.2)))
    ];
    handled = omega (arith, w.handled, ap length e, length-append t.entries more);
  }

  -- the invariant of watch lists is kept if reasons change
  pub explained : (u : TrailValue) → u.vars ≡ t.vars → SameUpToReasons t.entries u.entries → IsWatching W m u paths
  explained u v a = record {
    lists = w.lists;
    wide = omega (arith, w.wide);
    even = w.even;
    low = w.low;
    paired = w.paired;
    partly = w.partly;
    named = w.named;
    here = subst (λ n. All (IsLiveWithin m n) W.clauses) (sym v) w.here;
    front = w.front;
    apart = w.apart;
    home = λ l p b h. w.home l p (subst (λ n. IsWithin n l) v b) h;
    kept = λ p h. elim (w.kept p h) [
      | inl i ↦ inl i
      | inr i ↦ inr (i.0, guarded_alike t.entries u.entries W.head (literal_at W.places p) (literal_at W.places (twin p)) a w.handled i.1)
    ];
    short = λ i b s. elim (w.short i b s) [
      | inl h ↦ inl h
      | inr h ↦ inr (λ C st. let g = h C st in (g.0, g.1, up_to_alike t.entries u.entries a 0 g.0 ∙ g.2))
    ];
    handled = omega (arith, w.handled, length_alike t.entries u.entries a);
  }

  -- the invariant of watch lists is kept if clauses change that are not attached
  pub elsewhere : (k : Clauses) → ((n : ℕ) → Contains (numbers W.clauses) n → get k n ≡ get m n) → IsWatching W k t paths
  elsewhere k e = record {
    lists = w.lists;
    wide = w.wide;
    even = w.even;
    low = w.low;
    paired = w.paired;
    partly = w.partly;
    named = w.named;
    apart = w.apart;
    home = w.home;
    kept = w.kept;
    handled = w.handled;
    here = here_elsewhere m k t.vars W.clauses w.here e;
    front = λ p C d h s.
        let l : (p - W.base) / 2 < length W.clauses = let a = h.0 in let b = h.1 in let c = w.partly in let z = w.even in let y = w.paired in omega arith in
        w.front p C d h (sym (e _ (has_number W.clauses ((p - W.base) / 2) no_clause l)) ∙ s.0, s.1);
    short = λ i b s. elim (w.short i b s) [
      | inl h ↦ inl h
      | inr h ↦ inr (λ C st. h C (sym (e _ (has_number W.clauses i no_clause (let c = w.partly in omega arith))) ∙ st.0, st.1))
    ];
  }

-- the invariant of `Watched` is kept if entries are pushed
pub ready_pushed : (w : Watches) (m : Clauses) (t u : TrailValue) (more : List Assigned) → IsReady w m t → u.vars ≡ t.vars → u.entries ≡ t.entries ++ more → IsReady w m u
ready_pushed w m t u more r v e = record {
  wide = omega (arith, r.wide);
  here = here_pushed m t u w.clauses r.here v;
  watching = λ s. let x = r.watching s in (x.0, pushed w m t x.0 x.1 u more v e);
}

-- the invariant of `Watched` is kept if reasons change
pub ready_explained : (w : Watches) (m : Clauses) (t u : TrailValue) → IsReady w m t → u.vars ≡ t.vars → SameUpToReasons t.entries u.entries → IsReady w m u
ready_explained w m t u r v a = record {
  wide = omega (arith, r.wide);
  here = here_pushed m t u w.clauses r.here v;
  watching = λ s. let x = r.watching s in (x.0, explained w m t x.0 x.1 u v a);
}

-- the invariant of `Watched` is kept if clauses change that are not attached
pub ready_elsewhere : (w : Watches) (m k : Clauses) (t : TrailValue) → IsReady w m t → ((n : ℕ) → Contains (numbers w.clauses) n → get k n ≡ get m n) → IsReady w k t
ready_elsewhere w m k t r e = record {
  wide = r.wide;
  here = here_elsewhere m k t.vars w.clauses r.here e;
  watching = λ s. let x = r.watching s in (x.0, elsewhere w m t x.0 x.1 k e);
}
