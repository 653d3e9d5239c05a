use Rattle.std.proofs.Common.{◌≡◌, ℕ, ◌+◌, ◌<◌, get_or, length}
use Rattle.log_join.proofs.bits.block_of.Given as goal

abbrev pub invariant-loop-i : goal.invariant-loop-i
invariant-loop-i l = record {
  len : length l.part ≡ 16;
  copied : (j : ℕ) → j < l.i → get_or l.part j 0 ≡ get_or l.words (l.at + j) 0;
}
