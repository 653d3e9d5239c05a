use Rattle.std.proofs.Common.{◌≡◌, []}
use Rattle.std.specs.Prelude.{replicate}
use Rattle.coordinator_core.proofs.leaf_table.no_fragments.Given as goal

-- the entries so far
abbrev pub invariant-loop : goal.invariant-loop
invariant-loop l = l.fragments.items ≡ replicate l.counter []
