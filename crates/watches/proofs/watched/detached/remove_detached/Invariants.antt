use Rattle.watches.proofs.DetachLemmas.{Sweeps}
use Rattle.watches.proofs.watched.detached.remove_detached.Given as goal

abbrev pub invariant-loop-i : goal.invariant-loop-i
invariant-loop-i l = Sweeps l.fn.clauses.items l.fn.live.items l.clauses.items l.live.items l.count l.i
