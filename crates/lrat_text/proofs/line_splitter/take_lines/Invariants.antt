use Rattle.std.proofs.Common.{length}
use Rattle.lrat_text.specs.LineSink.{HandsOn}
use Rattle.lrat_text.proofs.line_splitter.take_lines.Given as goal

-- the lines so far lead from the text to the rest
abbrev pub invariant-loop-line : goal.invariant-loop-line
invariant-loop-line g l = record {
  may : g.T.TakesLines.may_take l.taker;
  hands : HandsOn g.T.TakesLines.takes l.initial.taker l.text l.taker l.rest;
}

abbrev pub decreases-loop-line : goal.decreases-loop-line
decreases-loop-line g l = length l.rest
