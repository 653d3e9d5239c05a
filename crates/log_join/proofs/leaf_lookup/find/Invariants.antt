use Rattle.std.proofs.Common.{◌≡◌, ℕ, ◌/◌, ◌<◌, true}
use Rattle.log_join.specs.Bits.{Has}
use Rattle.log_join.specs.inner.Trees.{AllHavePlace}
use Rattle.log_join.proofs.leaf_lookup.find.Given as goal

abbrev pub invariant-loop-block : goal.invariant-loop-block
invariant-loop-block l = (p : ℕ) → p / 1024 < l.block → Has l.unclosed p → AllHavePlace l.index l.clause p → (l.some ≡ true) × Has l.found p
