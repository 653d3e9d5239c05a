-- The invariant of `Watched` between two calls.
use Rattle.std.specs.Prelude.{◌≡◌, ℕ, ◌+◌, ◌*◌, ◌/◌, ◌%◌, ◌^◌, ◌<◌, ◌≤◌, Bool, true, false, List, length, slice_index_or, All}
use Rattle.clause_arena.specs.declared.reference.Ref.{Ref}
use Rattle.clause_arena.specs.Clauses.{Clauses}
use Rattle.watches.specs.Trails.{TrailValue}
use Rattle.watches.specs.inner.LiveClauses.{IsLiveWithin}
use Rattle.watches.specs.declared.watched.watch.Watch.{Watch}
use Rattle.watches.specs.inner.WatchLists.{IsLink, next_of}
use Rattle.watches.specs.inner.WatchInvariants.{AreWatching, no_clause}
use Rattle.watches.specs.Watches.{Watches, attached_of}

-- no two clauses have one number
abbrev pub AreNamed : List Ref → Type 0
AreNamed clauses = (i j : ℕ) → i < length clauses → j < length clauses → (slice_index_or clauses i no_clause).number ≡ (slice_index_or clauses j no_clause).number → i ≡ j

-- the invariant of the vectors of `Watched`: after the cells two watches for each clause, all places of 32 bits, the last place of the
-- pending list where links may change, and an entry of `live` for each clause, which is true for each unless the lists are stale
pub record AreWatches (places : List Watch) (clauses : List Ref) (live : List Bool) (base : ℕ) (stale : Bool) : Type 0 where
  pub whole : length places ≡ base + 2 * length clauses
  pub few : length places ≤ 2 ^ 32
  pub even : base % 2 ≡ 0
  pub last : 0 < base → IsLink base (next_of places (base / 2)) × (next_of places (base / 2) < length places)
  pub marked : length live ≡ length clauses
  pub named : AreNamed (attached_of clauses live)
  pub none_gone : stale ≡ false → All (λ b. b ≡ true) live

-- the invariant of `Watched` between two calls: its clauses are live in the arena, each literal has a head, and the lists keep their
-- invariant unless they are stale
pub record IsReady (w : Watches) (m : Clauses) (t : TrailValue) : Type 0 where
  pub wide : 4 * t.vars + 4 ≤ w.base
  pub here : All (IsLiveWithin m t.vars) w.clauses
  pub watching : w.stale ≡ false → AreWatching w m t
