use Rattle.std.proofs.Common.{take}
use Rattle.std.specs.List.{All}
use Rattle.elimination.specs.Kept.{IsSubset}
use Rattle.elimination.specs.inner.Indexed.{clause_at, IsActive}
use Rattle.elimination.proofs.clauses.Clauses.has_subset.Given as goal

abbrev pub invariant-loop-i : goal.invariant-loop-i
invariant-loop-i l = All (λ i. IsActive l.self.active.items i → IsSubset (clause_at l.self.all.clauses i) l.lits → ⊥) (take l.i-index l.i-items)
