use Rattle.std.proofs.Common.{take}
use Rattle.log_join.specs.Trees.{AreMet}
use Rattle.log_join.specs.inner.Trees.{Keeps}
use Rattle.log_join.proofs.index_builder.note_all.Given as goal

abbrev pub invariant-loop-l : goal.invariant-loop-l
invariant-loop-l l = record {
  met : AreMet l.index l.place (take l.l-index l.cube);
  kept : Keeps l.fn.index l.index;
}
