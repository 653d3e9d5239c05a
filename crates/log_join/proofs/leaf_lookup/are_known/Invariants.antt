use Rattle.std.proofs.Common.{take, All}
use Rattle.dimacs.specs.logic.Literal.{IsWithin}
use Rattle.log_join.proofs.leaf_lookup.are_known.Given as goal

abbrev pub invariant-loop-l : goal.invariant-loop-l
invariant-loop-l l = All (IsWithin 199999999) (take l.l-index l.clause)
