use Rattle.std.proofs.Common.{◌≡◌, ◌<◌, ℕ, true, false, get_or}
use Rattle.elimination.specs.Kept.{IsEliminated}
use Rattle.elimination.proofs.kept.are_apart.Given as goal

abbrev pub invariant-loop-i : goal.invariant-loop-i
invariant-loop-i l = (v : ℕ) → v < l.i → get_or l.frozen v false ≡ true → ¬ (IsEliminated l.eliminated v)
