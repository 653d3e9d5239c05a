use Rattle.std.proofs.Common.{take}
use Rattle.cube_split.proofs.CountLemmas.{AreCounted}
use Rattle.cube_split.specs.inner.Tallies.{IsTally}
use Rattle.cube_split.proofs.tally.Tally.count_clause.Given as goal

-- the literals so far are counted
abbrev pub invariant-loop-literal : goal.invariant-loop-literal
invariant-loop-literal l = record {
  tally : IsTally l.self;
  counted : AreCounted l.fn.self.counts.items l.fn.self.last.items l.self.counts.items l.self.last.items l.number (take l.literal-index l.clause);
}
