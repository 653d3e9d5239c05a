-- The open clauses along a walk, in tables.
use Rattle.std.specs.Prelude.{◌≡◌, ℕ, zero, suc, ◌+◌, ◌<◌, ◌≤◌, ◌==◌, ◌&&◌, true, not, List, length, take, cond, slice_index}
use Rattle.dimacs.specs.logic.Literal.{Literal, Clause, var_of, has}
use Rattle.cube_split.specs.Choice.{has_variable}
use Rattle.cube_split.specs.inner.Places.{place_at, places_of, clause_of, AreOf, AreChained}
use Rattle.cube_split.specs.declared.places.Place.{Place}

-- each place of a clause is flagged if no place before it has its variable
abbrev pub AreFlagged : Clause → List Place → Type 0
AreFlagged C places = (k : ℕ) → k < length places → (place_at places k).first ≡ not (has_variable (take k C) (var_of (place_at places k).literal))

-- the number of the first n clauses that are open (0 in the table) and have the variable w
abbrev pub open_count : ℕ → (ℕ → Clause) → List ℕ → ℕ → ℕ
open_count zero clause closed w = 0
open_count (suc n) clause closed w = open_count n clause closed w + cond (slice_index closed n == 0 && has_variable (clause n) w) 1 0

-- levels of the first n clauses, before and after: those that have the literal l and had the level `from` have the level `to`; the others
-- are unchanged
pub record AreTurned (n : ℕ) (clause : ℕ → Clause) (l : Literal) (from to : ℕ) (old new : List ℕ) : Type 0 where
  pub size : length new ≡ length old
  pub turned : (i : ℕ) → i < n → has (clause i) l ≡ true → slice_index old i ≡ from → slice_index new i ≡ to
  pub kept : (i : ℕ) → i < n → (has (clause i) l ≡ true → slice_index old i ≡ from → ⊥) → slice_index new i ≡ slice_index old i

-- the places of n clauses are indexed: the table `starts` leads to those of each clause, and `latest` to the last one of each literal
pub record AreIndexed (n : ℕ) (places : List Place) (starts latest : List ℕ) : Type 0 where
  pub long : length starts ≡ n + 1
  pub inside : (i : ℕ) → i < n → (slice_index starts i ≤ slice_index starts (i + 1)) × (slice_index starts (i + 1) ≤ length places)
  pub here : (i : ℕ) → i < n → AreOf i (clause_of places starts i) (places_of places starts i)
  pub owned : (p : ℕ) → p < length places → (place_at places p).clause < n
  pub inside_own : (p : ℕ) → p < length places → (slice_index starts (place_at places p).clause ≤ p) × (p < slice_index starts ((place_at places p).clause + 1))
  pub chained : AreChained places latest
