use Rattle.std.proofs.Common.{◌≡◌, ◌+◌, ◌++◌, drop}
use Rattle.cubes_to_tree.specs.Completion.{added_lines}
use Rattle.cubes_to_tree.proofs.completion.put_added.Given as goal

abbrev pub invariant-loop-i : goal.invariant-loop-i
invariant-loop-i l = l.out.items ++ added_lines (l.i + 1) (drop l.i l.added) ≡ l.initial.out.items ++ added_lines 1 l.added
