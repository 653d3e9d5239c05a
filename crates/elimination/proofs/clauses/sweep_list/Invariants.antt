use Rattle.std.proofs.Common.{get_or, false}
use Rattle.std.proofs.lemmas.List.Filters.{FiltersInPlace}
use Rattle.elimination.proofs.clauses.sweep_list.Given as goal

abbrev pub invariant-loop-i : goal.invariant-loop-i
invariant-loop-i l = FiltersInPlace (λ i. get_or l.active i false) l.initial.list.items l.list.items l.kept l.i
