use Rattle.std.proofs.Common.{◌≡◌, ◌+◌, ◌≤◌, length, take}
use Rattle.elimination.proofs.kept.append_clause.Given as goal

abbrev pub invariant-loop-literal : goal.invariant-loop-literal
invariant-loop-literal l =
    (l.builder.done ≡ l.initial.builder.done) × (l.builder.open_clause ≡ take l.literal-index l.clause)
    × (l.builder.total + length l.clause ≤ 999999999 + l.literal-index)
