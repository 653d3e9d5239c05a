-- The invariant of a tally.
use Rattle.std.specs.Prelude.{◌≡◌, ◌≢◌, ℕ, ◌<◌, ◌≤◌, List, length, slice_index}
use Rattle.cube_split.specs.declared.tally.Tally.{Tally}

-- the first len entries of `met` are the variables of counted clauses, each once: only these have a clause number in `last`, and a count
-- above 0
pub record AreMet (counts last met : List ℕ) (len : ℕ) : Type 0 where
  pub some : 0 < length counts
  pub rows : length last ≡ length counts
  pub room : length met ≡ length counts
  pub few : len ≤ length met
  pub inside : (k : ℕ) → k < len → (0 < slice_index met k) × (slice_index met k < length counts)
  pub distinct : (j k : ℕ) → j < k → k < len → slice_index met j ≢ slice_index met k
  pub numbered : (k : ℕ) → k < len → 0 < slice_index last (slice_index met k)
  pub listed : (w : ℕ) → w < length counts → 0 < slice_index last w → (k : ℕ) × (k < len) × (slice_index met k ≡ w)
  pub none : (w : ℕ) → w < length counts → slice_index last w ≡ 0 → slice_index counts w ≡ 0

-- the invariant of a tally
abbrev pub IsTally : Tally → Type 0
IsTally t = AreMet t.counts.items t.last.items t.met.items t.len

-- a tally's property: it has this many rows, and every count is 0
pub record IsClear (rows : ℕ) (t : Tally) : Type 0 where
  pub tally : IsTally t
  pub size : length t.counts.items ≡ rows
  pub counts : (w : ℕ) → w < rows → slice_index t.counts.items w ≡ 0
  pub last : (w : ℕ) → w < rows → slice_index t.last.items w ≡ 0

-- a list `variables` has each variable whose count is above 0
pub record AreListed (counts variables : List ℕ) : Type 0 where
  pub inside : (k : ℕ) → k < length variables → (0 < slice_index variables k) × (slice_index variables k < length counts)
  pub listed : (w : ℕ) → 0 < w → w < length counts → 0 < slice_index counts w → (k : ℕ) × (k < length variables) × (slice_index variables k ≡ w)
