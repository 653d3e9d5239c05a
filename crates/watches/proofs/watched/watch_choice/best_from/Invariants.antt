use Rattle.std.proofs.Common.{◌<◌, length}
use Rattle.watches.proofs.watched.watch_choice.best_from.Given as goal

abbrev pub invariant-loop-k : goal.invariant-loop-k
invariant-loop-k l = l.best < length l.literals
