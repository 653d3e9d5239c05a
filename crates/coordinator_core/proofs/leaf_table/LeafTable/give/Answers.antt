use Rattle.std.proofs.Common.{◌∙◌, ap}
use Rattle.std.specs.Prelude.{position}
use Rattle.coordinator_core.specs.Coordinator.{is_open}
use Rattle.coordinator_core.specs.inner.LeafTable.{LeafRows}
use Rattle.coordinator_core.proofs.TableLemmas.{given_table}
use Rattle.coordinator_core.proofs.leaf_table.LeafTable.give.Goals as goal

pub invariant_of-self : goal.invariant_of-self
invariant_of-self c = given_table _ _ _ _ _ _ c.self.invariant (ap (λ (t : LeafRows). position is_open t.states) c.self.view_is ∙ c.requires)
