-- Invariants of walks: along the watch list of a literal, and along the pending list.
use Rattle.std.specs.Prelude.{◌≡◌, ℕ, ◌+◌, zero, suc, ◌<◌, ◌≤◌, ◌==◌, if◌then◌else◌, true, List, ◌++◌, length, slice_index_or, All, Contains}
use Rattle.dimacs.specs.logic.Literal.{Literal, Clause, IsWithin, negation, index_of}
use Rattle.clause_arena.specs.declared.reference.Ref.{Ref}
use Rattle.clause_arena.specs.Clauses.{Clauses, RefersTo, live_of}
use Rattle.watches.specs.declared.trail.Assigned.{Assigned}
use Rattle.watches.specs.Trails.{TrailValue, holds, up_to}
use Rattle.watches.specs.Law.{Grows, IsConflict, SameUpToOrder, live_among}
use Rattle.watches.specs.ClauseNumbers.{numbers}
use Rattle.watches.specs.declared.watched.watch.Watch.{Watch}
use Rattle.watches.specs.declared.watched.visit.Visit.{Visit}
use Rattle.watches.specs.declared.watched.visit.Visit.TheVariants.{Stays, Moves, False}
use Rattle.watches.specs.Watches.{Watches}
use Rattle.watches.specs.inner.WatchLists.{IsIn, last_of, literal_at, next_of, twin}
use Rattle.watches.specs.inner.WatchInvariants.{owner, IsWatching, IsRelinked}

-- a trail's property: it has no literal together with its negation
abbrev pub IsConsistent : List Assigned → Type 0
IsConsistent es = (l : Literal) → holds es l ≡ true → holds es (negation l) ≡ true → ⊥

-- the invariant of a walk along the watch list of the false literal f: `previous` is the last place that was visited, or the head of the
-- list
pub record Walk (W : Watches) (m : Clauses) (t : TrailValue) (f : Literal) (level previous : ℕ) : Type 0 where
  pub paths : ℕ → List ℕ
  pub done : List ℕ
  pub rest : List ℕ
  pub watching : IsWatching W m t paths
  pub path : paths (index_of f) ≡ done ++ rest
  pub previous_is : previous ≡ last_of (index_of f) done
  pub guarded : (p : ℕ) → IsIn p done → up_to t.entries level (literal_at W.places (twin p)) ≡ true
  pub f_in : IsWithin t.vars f
  pub f_false : holds t.entries (negation f) ≡ true
  pub sound : IsConsistent t.entries
  pub levels : All (λ e. e.level ≤ level) t.entries

-- the invariant of a walk along the watch list of the literal that the trail's entry at `head` makes false
pub record IsWalk (W : Watches) (m : Clauses) (t : TrailValue) (previous : ℕ) : Type 0 where
  pub entry : Assigned
  pub inside : W.head < length t.entries
  pub entry_is : (d : Assigned) → slice_index_or t.entries W.head d ≡ entry
  pub walk : Walk W m t (negation entry.literal) entry.level previous

-- the number of places of a list from the place p on, at most n
abbrev pub left_from : List Watch → ℕ → ℕ → ℕ
left_from places zero p = 0
left_from places (suc n) p = if p == 0 then 0 else suc (left_from places n (next_of places p))

-- the number of places that are left in a list after `previous`
abbrev pub left_behind : List Watch → ℕ → ℕ
left_behind places previous = left_from places (suc (length places)) (next_of places previous)

-- a visit, before and after: one place less is left of the walk
pub record IsShorter (old new : List Watch) (before behind : ℕ) : Type 0 where
  pub less : left_behind new behind + 1 ≡ left_behind old before

-- a step of propagation, before and after: watches were relinked, implied entries were pushed, and literals of clauses may have been
-- swapped
pub record IsStep (old new : Watches) (m k : Clauses) (t u : TrailValue) : Type 0 where
  pub rest : IsRelinked old new
  pub grows : Grows (live_among (numbers old.clauses) (live_of m)) t u
  pub same : SameUpToOrder m k

-- a call of propagation, before and after: watches were relinked, `head` moved on, implied entries were pushed, and literals of clauses may
-- have been swapped
pub record HasPropagated (old new : Watches) (m k : Clauses) (t u : TrailValue) : Type 0 where
  pub long : length new.places ≡ length old.places
  pub rest : new ≡ record old { places = new.places; head = new.head }
  pub grows : Grows (live_among (numbers old.clauses) (live_of m)) t u
  pub same : SameUpToOrder m k

-- the end of a walk at a false clause, of number n; the invariant of the watch lists holds
pub record StopsAtConflict (W : Watches) (m : Clauses) (t : TrailValue) (n : ℕ) : Type 0 where
  pub paths : ℕ → List ℕ
  pub watching : IsWatching W m t paths
  pub conflict : IsConflict (live_among (numbers W.clauses) (live_of m)) t.entries n

-- after a visit of the watch at `here`: the walk goes on after it, or after `previous` if the watch moved, or ends at a conflict
abbrev pub Visits : (old new : Watches) → Clauses → TrailValue → (previous here : ℕ) → Visit → Type 0
Visits old new m t previous here Stays = IsWalk new m t here × IsShorter old.places new.places previous here
Visits old new m t previous here Moves = IsWalk new m t previous × IsShorter old.places new.places previous previous
Visits old new m t previous here (False n) = StopsAtConflict new m t n

-- a clause's property: a literal of it is true
abbrev pub IsSatisfied : Clauses → List Assigned → Ref → Type 0
IsSatisfied m entries at = (C : Clause) → RefersTo m at C → (b : Literal) × Contains C b × (holds entries b ≡ true)

-- the invariant of a walk along the pending list: `previous` is the last place that was visited, or the head of the list; each watch that
-- stays up to there has a clause with a true literal
pub record PendingWalk (W : Watches) (m : Clauses) (t : TrailValue) (previous : ℕ) : Type 0 where
  pub paths : ℕ → List ℕ
  pub done : List ℕ
  pub rest : List ℕ
  pub watching : IsWatching W m t paths
  pub path : paths 0 ≡ done ++ rest
  pub previous_is : previous ≡ last_of 0 done
  pub seen : (p : ℕ) → IsIn p done → IsSatisfied m t.entries (owner W p)
  pub sound : IsConsistent t.entries

-- after a visit of the pending watch at `here`: the walk goes on after it, or after `previous` if the watch moved, or ends at a conflict
abbrev pub VisitsPending : (old new : Watches) → Clauses → TrailValue → (previous here : ℕ) → Visit → Type 0
VisitsPending old new m t previous here Stays = PendingWalk new m t here × IsShorter old.places new.places previous here
VisitsPending old new m t previous here Moves = PendingWalk new m t previous × IsShorter old.places new.places previous previous
VisitsPending old new m t previous here (False n) = StopsAtConflict new m t n

-- the end of a walk along the pending list: the clause of each watch that is still pending has a true literal
pub record AllPendingSatisfied (W : Watches) (m : Clauses) (t : TrailValue) : Type 0 where
  pub paths : ℕ → List ℕ
  pub watching : IsWatching W m t paths
  pub seen : (p : ℕ) → IsIn p (paths 0) → IsSatisfied m t.entries (owner W p)
