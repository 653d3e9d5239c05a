use Rattle.std.proofs.Common.{◌≡◌, ℕ, ◌/◌, ◌%◌, take}
use Rattle.log_join.specs.Bits.{Has}
use Rattle.log_join.specs.inner.Trees.{AllHavePlace}
use Rattle.log_join.proofs.leaf_lookup.meet.Given as goal

abbrev pub invariant-loop-l : goal.invariant-loop-l
invariant-loop-l l = (p : ℕ) → p / 1024 ≡ l.block → Has l.unclosed p → AllHavePlace l.index (take l.l-index l.clause) p → Has l.part (p % 1024)
