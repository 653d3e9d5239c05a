-- A session that is given clauses under numbers with gaps between them.
use Rattle.std.specs.Prelude.{◌≡◌, ℕ, ◌<◌, ◌≤◌, List, [], length, slice_index_or, All, Contains}
use Rattle.std.specs.List.{AllPairs}
use Rattle.dimacs.specs.logic.ClauseMap.{ClauseMap, live_in}
use Rattle.dimacs.specs.logic.Literal.{Clause}
use Rattle.cube_solve.specs.Session.{last_of}
use Rattle.cube_solve.specs.SessionLog.{IsKnown}
use Rattle.cube_solve.specs.declared.session.Session.{Session}

-- the clauses have these numbers, which rise from 1 or above to `top` at most
pub record AreNumbered (clauses : List Clause) (numbers : List ℕ) (top : ℕ) : Type 0 where
  pub matched : length clauses ≡ length numbers
  pub rising : AllPairs (λ x y. x < y) numbers
  pub within : All (λ n. (1 ≤ n) × (n ≤ top)) numbers

-- the session's live clauses are those of M, and all numbers so far may be counted among those of given clauses
pub record KnowsAll {P : Type 0} (M : ClauseMap) (s : Session P) : Type 0 where
  pub given : List ℕ
  pub every : (n : ℕ) → n ≤ last_of s → Contains given n
  pub known : IsKnown given M s

-- the session knows some of these clauses under their numbers, and no other ones
pub record HasNumbered {P : Type 0} (clauses : List Clause) (numbers : List ℕ) (s : Session P) : Type 0 where
  pub map : ClauseMap
  pub all : KnowsAll map s
  pub are : (n : ℕ) (C : Clause) → live_in map n C
      → (i : ℕ) × (i < length numbers) × (slice_index_or numbers i 0 ≡ n) × (slice_index_or clauses i [] ≡ C)
