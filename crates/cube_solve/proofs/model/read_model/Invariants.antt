use Rattle.std.proofs.Common.{◌≡◌, ℕ, ◌+◌, ◌<◌, length, true, false}
use Rattle.dimacs.specs.logic.Cnf.{assignment_of}
use Rattle.dimacs.specs.logic.Literal.{Pos, Neg}
use Rattle.watches.specs.Trails.{holds}
use Rattle.cube_solve.proofs.model.read_model.Given as goal

abbrev pub invariant-loop-number : goal.invariant-loop-number
invariant-loop-number l = record {
  len : length l.values.items + 1 ≡ l.number;
  positive : (v : ℕ) → 0 < v → v < l.number → holds l.trail.entries (Pos v) ≡ true → assignment_of l.values.items v ≡ true;
  negative : (v : ℕ) → 0 < v → v < l.number → holds l.trail.entries (Neg v) ≡ true → assignment_of l.values.items v ≡ false;
}
