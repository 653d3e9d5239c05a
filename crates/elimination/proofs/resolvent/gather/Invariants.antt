use Rattle.std.proofs.Common.{take}
use Rattle.elimination.specs.inner.Gathered.{IsGathered}
use Rattle.elimination.proofs.resolvent.gather.Given as goal

abbrev pub invariant-loop-literal : goal.invariant-loop-literal
invariant-loop-literal l = IsGathered (take l.literal-index l.clause) l.on l.initial.out.items l.out.items
