-- The invariant of two watched literals a clause.
use Rattle.std.specs.Prelude.{◌≡◌, ◌≢◌, ℕ, ◌+◌, ◌*◌, ◌-◌, ◌/◌, ◌%◌, ◌<◌, ◌≤◌, ◌⊎◌, true, false, List, length, slice_index_or, Option, Some, None, All, Contains}
use Rattle.dimacs.specs.logic.Literal.{Literal, Clause, IsWithin, negation, index_of}
use Rattle.clause_arena.specs.declared.reference.Ref.{Ref}
use Rattle.clause_arena.specs.Clauses.{Clauses, RefersTo}
use Rattle.watches.specs.declared.trail.Assigned.{Assigned}
use Rattle.watches.specs.Trails.{TrailValue, holds, up_to}
use Rattle.watches.specs.inner.LiveClauses.{IsLiveWithin}
use Rattle.watches.specs.declared.watched.replacement.Replacement.{Replacement}
use Rattle.watches.specs.declared.watched.watch.Watch.{Watch}
use Rattle.watches.specs.declared.watched.watch_lists.WatchLists.{WatchLists}
use Rattle.watches.specs.Watches.{Watches}
use Rattle.watches.specs.inner.WatchLists.{AreWatchLists, IsIn, literal_at, twin}

-- the result of a search for another literal to watch is right: one after the first two that is not false, or None if each of them is false
abbrev pub FindsWatch : List Assigned → Clause → Option Replacement → Type 0
FindsWatch entries C None = (k : ℕ) (d : Literal) → 2 ≤ k → k < length C → holds entries (negation (slice_index_or C k d)) ≡ true
FindsWatch entries C (Some r) = (2 ≤ r.place) × (r.place < length C) × ((d : Literal) → slice_index_or C r.place d ≡ r.literal) × (holds entries (negation r.literal) ≡ false)

-- the default for a read past the end of the clauses
abbrev pub no_clause : Ref
no_clause = record { number = 0; place = 0; len = 0 }

-- the value of watch lists, if no clause is marked as detached
abbrev pub watches_of : WatchLists → Watches
watches_of c = record { places = c.places.items; clauses = c.clauses.items; base = c.base; head = c.head; stale = c.stale }

-- the value of watch lists that were just rebuilt: none is stale
abbrev pub fresh_watches : List Watch → List Ref → (base head : ℕ) → Watches
fresh_watches places clauses base head = record { places = places; clauses = clauses; base = base; head = head; stale = false }

-- the watch lists after one more entry of the trail was propagated
abbrev pub past_head : Watches → Watches
past_head W = record W { head = W.head + 1 }

-- the watch lists, before and after: only links and literals of watches changed
pub record IsRelinked (old new : Watches) : Type 0 where
  pub long : length new.places ≡ length old.places
  pub rest : new ≡ record old { places = new.places }

-- the clause that owns a place
abbrev pub owner : Watches → ℕ → Ref
owner W p = slice_index_or W.clauses ((p - W.base) / 2) no_clause

-- if w became false by one of the first `head` entries of the trail, b is true, at no greater level than that entry's: so no backtrack
-- unassigns b and keeps w false
abbrev pub IsGuarded : List Assigned → ℕ → Literal → Literal → Type 0
IsGuarded entries head w b = (i : ℕ) (d : Assigned) → i < head → (slice_index_or entries i d).literal ≡ negation w → up_to entries (slice_index_or entries i d).level b ≡ true

-- the watch at the place p is pending, or it is in the watch list of its literal and guarded by the literal of its twin
abbrev pub IsPendingOrGuarded : List Watch → List Assigned → ℕ → (ℕ → List ℕ) → ℕ → Type 0
IsPendingOrGuarded places entries head paths p = IsIn p (paths 0) ⊎ (IsIn p (paths (index_of (literal_at places p))) × IsGuarded entries head (literal_at places p) (literal_at places (twin p)))

-- a place's property: it has a watch, of a clause of two or more literals
abbrev pub IsLong : Watches → ℕ → Type 0
IsLong W p = (W.base ≤ p) × (p < length W.places) × (2 ≤ (owner W p).len)

-- a clause's property: some literal of it is true at level 0, which no backtrack undoes
abbrev pub IsRootSatisfied : Clauses → List Assigned → Ref → Type 0
IsRootSatisfied m entries at = (C : Clause) → RefersTo m at C → (b : Literal) × Contains C b × (up_to entries 0 b ≡ true)

-- the invariant of watch lists, if `paths` has the places of each list, by its head. One half of the first `base` places are the heads: 0
-- of the pending list, 1 of the retired watches, the others of the watch lists of literals, by index. The other half names the lists' last
-- places. After them come two watches for each of the first clauses; later clauses have none yet
pub record IsWatching (W : Watches) (m : Clauses) (t : TrailValue) (paths : ℕ → List ℕ) : Type 0 where
  pub lists : AreWatchLists W.places W.base paths
  pub wide : 4 * t.vars + 4 ≤ W.base
  pub even : W.base % 2 ≡ 0
  pub low : W.base ≤ length W.places
  pub paired : length W.places % 2 ≡ 0
  pub partly : length W.places ≤ W.base + 2 * length W.clauses
  pub named : (i j : ℕ) → i < length W.clauses → j < length W.clauses → (slice_index_or W.clauses i no_clause).number ≡ (slice_index_or W.clauses j no_clause).number → i ≡ j
  pub here : All (IsLiveWithin m t.vars) W.clauses
  -- the watched literals of a clause are its first two
  pub front : (p : ℕ) (C : Clause) (d : Literal) → IsLong W p → RefersTo m (owner W p) C → literal_at W.places p ≡ slice_index_or C (p % 2) d
  pub apart : (p : ℕ) → IsLong W p → literal_at W.places p ≢ literal_at W.places (twin p)
  -- each watch of a literal's list has that literal
  pub home : (l : Literal) (p : ℕ) → IsWithin t.vars l → IsIn p (paths (index_of l)) → (literal_at W.places p ≡ l) × IsLong W p
  pub kept : (p : ℕ) → IsLong W p → IsPendingOrGuarded W.places t.entries W.head paths p
  pub short : (i : ℕ) → W.base + 2 * i < length W.places → (slice_index_or W.clauses i no_clause).len < 2 → IsIn (W.base + 2 * i) (paths 0) ⊎ IsRootSatisfied m t.entries (slice_index_or W.clauses i no_clause)
  pub handled : W.head ≤ length t.entries

-- the invariant of watch lists, for some paths
abbrev pub AreWatching : Watches → Clauses → TrailValue → Type 0
AreWatching W m t = (paths : ℕ → List ℕ) × IsWatching W m t paths
