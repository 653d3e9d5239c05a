use Rattle.std.proofs.Common.{◌≡◌, ◌++◌, length}
use Rattle.packed_text.proofs.text.PackedText.of.Given as goal

abbrev pub invariant-loop-rest : goal.invariant-loop-rest
invariant-loop-rest l = l.packed ++ l.rest ≡ l.fn.text

abbrev pub decreases-loop-rest : goal.decreases-loop-rest
decreases-loop-rest l = length l.rest
