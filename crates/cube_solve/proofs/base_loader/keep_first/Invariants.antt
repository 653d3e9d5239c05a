use Rattle.std.proofs.Common.{◌+◌, ◌<◌, take}
use Rattle.std.specs.List.{All}
use Rattle.cube_solve.specs.inner.Marks.{AreMarks}
use Rattle.cube_solve.proofs.base_loader.keep_first.Given as goal

abbrev pub invariant-loop-literal : goal.invariant-loop-literal
invariant-loop-literal l = record {
  marks : AreMarks (take l.literal-index l.clause) l.kept.items l.stamps l.stamp;
  bounded : All (λ s. s < l.stamp + 1) l.stamps;
}
