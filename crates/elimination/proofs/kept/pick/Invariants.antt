use Rattle.std.proofs.Common.{◌≡◌, []}
use Rattle.elimination.specs.inner.Reducing.{ArePicked}
use Rattle.elimination.proofs.kept.pick.Given as goal

abbrev pub invariant-loop-i : goal.invariant-loop-i
invariant-loop-i l = ArePicked l.reducer.all.clauses l.reducer.active l.i l.numbers.items l.builder.done × (l.builder.open_clause ≡ [])
