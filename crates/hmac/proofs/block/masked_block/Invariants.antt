use Rattle.std.proofs.Common.{◌≡◌, ℕ, ◌<◌, length, get_or}
use Rattle.std.specs.Int.Bits.{bit_xor}
use Rattle.hmac.proofs.block.masked_block.Given as goal

abbrev pub invariant-loop-i : goal.invariant-loop-i
invariant-loop-i l = (length l.masked ≡ 64) × ((k : ℕ) → k < l.i → get_or l.masked k 0 ≡ bit_xor (get_or l.block k 0) l.mask)
