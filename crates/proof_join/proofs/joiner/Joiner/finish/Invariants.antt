use Rattle.std.proofs.Common.{◌≡◌, take}
use Rattle.proof_join.specs.Fronts.{IsFrontOf}
use Rattle.proof_join.proofs.joiner.Joiner.finish.Given as goal

abbrev pub invariant-loop-place : goal.invariant-loop-place
invariant-loop-place l = record {
  count : l.joining.count ≡ l.place;
  front : IsFrontOf l.fn.formula l.fn.preamble.pairs (take l.place l.fn.tree) (take l.place l.fn.fragments) l.joining;
}
