use Rattle.cube_split.proofs.CountLemmas.{AreAllCounted}
use Rattle.std.proofs.Common.{length}
use Rattle.cube_split.specs.inner.Tallies.{IsTally}
use Rattle.cube_split.proofs.tally.Tally.count_clauses.Given as goal

-- the clauses so far are counted
abbrev pub invariant-loop-i : goal.invariant-loop-i
invariant-loop-i l = record {
  tally : IsTally l.self;
  counted : AreAllCounted l.marks l.self.counts.items l.self.last.items (length l.fn.self.counts.items) l.i l.formula.clauses;
}
