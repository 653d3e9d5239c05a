use Rattle.std.proofs.Common.{take}
use Rattle.std.specs.List.{All}
use Rattle.dimacs.specs.logic.Literal.{IsWithin}
use Rattle.receipts.proofs.coverage_update.is_small.Given as goal

abbrev pub invariant-loop-l : goal.invariant-loop-l
invariant-loop-l l = All (IsWithin 2000000) (take l.l-index l.clause)
