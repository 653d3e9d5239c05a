use Rattle.std.proofs.Common.{take}
use Rattle.std.specs.List.{All}
use Rattle.elimination.specs.inner.Indexed.{lists_in}
use Rattle.elimination.proofs.IndexLemmas.{IsCleared}
use Rattle.elimination.proofs.clauses.Clauses.is_new.Given as goal

abbrev pub invariant-loop-l : goal.invariant-loop-l
invariant-loop-l l = All (IsCleared l.self.all l.self.active.items (lists_in l.self.occurs.items) l.self.gone.items l.lits) (take l.l-index l.lits)
