-- A table of stamps, indexed by literal, as a partial assignment.
use Rattle.std.specs.Prelude.{◌≡◌, ℕ, ◌≤◌, ◌≢◌, ◌⊎◌, ◌||◌, ◌==◌, List, slice_index}
use Rattle.dimacs.specs.logic.Literal.{index_of}
use Rattle.dimacs.specs.logic.Propagation.{Assumed}

-- the literals that are assumed: those whose stamp is base or current
abbrev pub assumed_by : List ℕ → ℕ → ℕ → Assumed
assumed_by marks base current = λ l. (slice_index marks (index_of l) == base) || (slice_index marks (index_of l) == current)

-- each stamp of the table new is that of old; or it is current, and that of old was not base
abbrev pub OnlyMarks : ℕ → ℕ → List ℕ → List ℕ → Type 0
OnlyMarks base current old new =
    (i : ℕ) → (slice_index new i ≡ slice_index old i) ⊎ ((slice_index new i ≡ current) × (slice_index old i ≢ base))

-- no literal has the stamp n
abbrev pub IsUnused : ℕ → List ℕ → Type 0
IsUnused n marks = (i : ℕ) → slice_index marks i ≢ n

-- each stamp is at most n
abbrev pub AllAtMost : ℕ → List ℕ → Type 0
AllAtMost n marks = (i : ℕ) → slice_index marks i ≤ n
