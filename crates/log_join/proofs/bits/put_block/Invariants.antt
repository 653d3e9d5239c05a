use Rattle.std.proofs.Common.{◌≡◌, ℕ, ◌+◌, ◌<◌, ◌≤◌, ◌⊎◌, get_or}
use Rattle.log_join.proofs.bits.put_block.Given as goal

abbrev pub invariant-loop-i : goal.invariant-loop-i
invariant-loop-i l = record {
  here : (j : ℕ) → j < l.i → get_or l.words (l.at + j) 0 ≡ get_or l.part j 0;
  others : (j : ℕ) → j < l.at ⊎ l.at + l.i ≤ j → get_or l.words j 0 ≡ get_or l.fn.words j 0;
}
