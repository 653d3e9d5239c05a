-- Occurrence lists: the places of literals in clauses. The number of a place is its index plus 1.
use Rattle.std.specs.Prelude.{◌≡◌, ◌≢◌, ℕ, ◌+◌, ◌-◌, ◌<◌, ◌≤◌, false, not, List, [], ◌++◌, length, map, take, slice_index_or, slice_range}
use Rattle.dimacs.specs.logic.Literal.{Literal, Pos, Clause, var_of, index_of}
use Rattle.cube_split.specs.Choice.{has_variable}
use Rattle.cube_split.specs.declared.places.Place.{Place}

-- the default for a read past the end of the places
abbrev pub nowhere : Place
nowhere = record { literal = Pos 0; clause = 0; before = 0; first = false }

-- the place at index p
abbrev pub place_at : List Place → ℕ → Place
place_at places p = slice_index_or places p nowhere

-- these are the places of the literals of clause i, in their order
pub record AreOf (i : ℕ) (C : Clause) (places : List Place) : Type 0 where
  pub literals : map (λ e. e.literal) places ≡ C
  pub clause : (k : ℕ) → k < length places → (place_at places k).clause ≡ i
  pub first : (k : ℕ) → k < length places → (place_at places k).first ≡ not (has_variable (take k C) (var_of (place_at places k).literal))

-- the places of clause i
abbrev pub places_of : List Place → List ℕ → ℕ → List Place
places_of places starts i = slice_range places (slice_index_or starts i 0) (slice_index_or starts (i + 1) 0)

-- the clause that the literals of these places are
abbrev pub clause_of : List Place → List ℕ → ℕ → Clause
clause_of places starts i = map (λ e. e.literal) (places_of places starts i)

-- places, before and after: those of clause i are appended
pub record Appends (old : List Place) (i : ℕ) (C : Clause) (new : List Place) : Type 0 where
  pub more : List Place
  pub appended : new ≡ old ++ more
  pub places : AreOf i C more

-- of the places at indices below n, the last one of the literal l has the number q; 0 if the literal has none
pub record IsLast (places : List Place) (n : ℕ) (l : Literal) (q : ℕ) : Type 0 where
  pub below : q ≤ n
  pub stands : 0 < q → (place_at places (q - 1)).literal ≡ l
  pub none : (r : ℕ) → q ≤ r → r < n → (place_at places r).literal ≢ l

-- each place leads to the previous one of its literal, and the table `latest` to the last one of each literal
pub record AreChained (places : List Place) (latest : List ℕ) : Type 0 where
  pub back : (p : ℕ) → p < length places → IsLast places p (place_at places p).literal (place_at places p).before
  pub table : (l : Literal) → index_of l < length latest → IsLast places (length places) l (slice_index_or latest (index_of l) 0)

-- these are the places of the first n clauses, clause after clause; the table `starts` has the index of each clause's first place
pub record ArePlaced (clauses : List Clause) (n : ℕ) (places : List Place) (starts : List ℕ) : Type 0 where
  pub long : length starts ≡ n + 1
  pub last : slice_index_or starts n 0 ≡ length places
  pub inside : (i : ℕ) → i < n → (slice_index_or starts i 0 ≤ slice_index_or starts (i + 1) 0) × (slice_index_or starts (i + 1) 0 ≤ length places)
  pub here : (i : ℕ) → i < n → AreOf i (slice_index_or clauses i []) (places_of places starts i)
  -- each place belongs to a clause of these
  pub owned : (p : ℕ) → p < length places → (place_at places p).clause < n
  pub inside_own : (p : ℕ) → p < length places → (slice_index_or starts (place_at places p).clause 0 ≤ p) × (p < slice_index_or starts ((place_at places p).clause + 1) 0)
