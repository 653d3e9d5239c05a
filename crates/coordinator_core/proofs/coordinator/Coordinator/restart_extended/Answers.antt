use Rattle.std.proofs.Common.{List, sym, subst}
use Rattle.std.specs.List.{All}
use Rattle.dimacs.specs.logic.Literal.{IsWithin}
use Rattle.coordinator_core.proofs.AddedClausesLemmas.{leaf_narrow}
use Rattle.coordinator_core.proofs.coordinator.Coordinator.restart_extended.Goals as goal

pub with_defs-requires-clause-narrow : goal.with_defs-requires-clause-narrow
with_defs-requires-clause-narrow c = λ _. subst (All (All (IsWithin 2000000))) (sym c.in_ok-tree.ensures) leaf_narrow
