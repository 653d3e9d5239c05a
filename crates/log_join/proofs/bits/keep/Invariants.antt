use Rattle.std.proofs.Common.{◌≡◌, ℕ, ◌+◌, ◌<◌, ◌≤◌, get_or, length}
use Rattle.std.specs.Prelude.{bit_and}
use Rattle.log_join.proofs.bits.keep.Given as goal

abbrev pub invariant-loop-i : goal.invariant-loop-i
invariant-loop-i l = record {
  len : length l.part ≡ 16;
  here : (j : ℕ) → j < l.i → get_or l.part j 0 ≡ bit_and (get_or l.fn.part j 0) (get_or l.words (l.at + j) 0);
  later : (j : ℕ) → l.i ≤ j → get_or l.part j 0 ≡ get_or l.fn.part j 0;
  none : l.some ≡ 0 → (j : ℕ) → j < l.i → get_or l.part j 0 ≡ 0;
}
