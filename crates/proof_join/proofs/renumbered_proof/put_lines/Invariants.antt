use Rattle.std.proofs.Common.{◌<◌, ◌^◌, length}
use Rattle.proof_join.specs.inner.RaisedLines.{IsUnderWay}
use Rattle.proof_join.proofs.renumbered_proof.put_lines.Given as goal

abbrev pub invariant-loop-line : goal.invariant-loop-line
invariant-loop-line l = record {
  way : IsUnderWay l.raise.above l.raise.by l.fn.text l.rewriter.top l.rewriter.out.items l.rest;
  short : length l.rewriter.out.items < 2 ^ 32;
}

abbrev pub decreases-loop-line : goal.decreases-loop-line
decreases-loop-line l = length l.rest
