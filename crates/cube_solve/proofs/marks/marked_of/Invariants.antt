use Rattle.std.proofs.Common.{◌≡◌, nat_eq, slice_index_or, take}
use Rattle.std.specs.List.{filter}
use Rattle.dimacs.specs.logic.Literal.{index_of}
use Rattle.cube_solve.proofs.marks.marked_of.Given as goal

abbrev pub invariant-loop-literal : goal.invariant-loop-literal
invariant-loop-literal l = l.kept.items ≡ filter (λ k. nat_eq (slice_index_or l.marks.stamps.items (index_of k) 0) l.marks.stamp) (take l.literal-index l.literals)
