use Rattle.std.proofs.Common.{ℕ, ◌<◌}
use Rattle.cube_split.specs.inner.Marks.{IsUndecidedBy}
use Rattle.cube_split.proofs.definitions.first_undecided.Given as goal

-- none so far is open
abbrev pub invariant-loop-i : goal.invariant-loop-i
invariant-loop-i l = (j : ℕ) → j < l.i → ¬ (IsUndecidedBy l.marks l.vars l.pairs j)
