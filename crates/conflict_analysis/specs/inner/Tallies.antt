-- How often a walk has met each variable.
use Rattle.std.specs.Prelude.{◌≡◌, ℕ, ◌+◌, ◌-◌, ◌<◌, Bool, true, false, ◌||◌, if◌then◌else◌, nat_eq, nat_lt, List, [], ◌∷◌, ◌++◌, ◌⊎◌, map, All, slice_index_or}
use Rattle.std.specs.List.{count_by}
use Rattle.dimacs.specs.logic.ClauseMap.{Live}
use Rattle.dimacs.specs.logic.Literal.{Clause}
use Rattle.watches.specs.Trails.{TrailValue, present}
use Rattle.watches.specs.declared.trail.Assigned.{Assigned}
use Rattle.conflict_analysis.specs.Lemmas.{IsReason, occurrences_in, occurrences}
use Rattle.conflict_analysis.specs.inner.Seen.{met}
use Rattle.conflict_analysis.specs.declared.first_uip.TrailWalk.{TrailWalk}

-- how often n occurrences in a clause repeat a variable: n times if it was seen before, else once less
abbrev pub again_of : Bool → ℕ → ℕ
again_of before n = if before then n else n - 1

-- the walk, before and after it met the literals of the clause C
pub record HasNoted (old new : TrailWalk) (C : Clause) : Type 0 where
  pub notes : new.notes ≡ old.notes
  pub seen : (v : ℕ) → met new.seen v ≡ (met old.seen v || nat_lt 0 (occurrences v C))
  pub again : (v : ℕ) → count_by (nat_eq v) new.again.items
      ≡ count_by (nat_eq v) old.again.items + (if old.notes then again_of (met old.seen v) (occurrences v C) else 0)

-- a walk's property: it has met no entry
pub record IsFresh (w : TrailWalk) : Type 0 where
  pub none : (v : ℕ) → met w.seen v ≡ false
  pub again : w.again.items ≡ []
  pub notes : w.notes ≡ true

-- the clauses that a walk met on the way down to index i: the false one, reasons of entries of the present level, and then reasons of lower
-- levels
pub record IsTallied (live : Live) (t : TrailValue) (number i : ℕ) (w : TrailWalk) (hints : List ℕ) : Type 0 where
  pub conflict : Clause
  pub here : List (ℕ × Clause)
  pub lower : List (ℕ × Clause)
  pub lives : live number conflict
  pub of_present : All (IsReason live t.entries (λ level. level ≡ present t.entries)) here
  pub of_lower : All (IsReason live t.entries (λ level. level < present t.entries)) lower
  pub named : hints ≡ map (λ c. c.0) (here ++ lower)
  pub seen : (v : ℕ) → met w.seen v ≡ nat_lt 0 (occurrences_in v ((number, conflict) ∷ here ++ lower))
  pub again : (v : ℕ) → count_by (nat_eq v) w.again.items ≡ occurrences_in v ((number, conflict) ∷ here) - 1
  -- once a reason of a lower level was met, no entry of the present level is left
  pub phase : (lower ≡ []) ⊎ ((k : ℕ) (d : Assigned) → k < i → (slice_index_or t.entries k d).level < present t.entries)
