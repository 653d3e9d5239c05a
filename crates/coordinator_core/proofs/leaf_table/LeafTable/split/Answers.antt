use Rattle.std.proofs.Common.{◌≢◌, ◌<◌, ◌∙◌, [], length, get_or, subst, sym, ap}
use Rattle.coordinator_core.specs.Splits.{doubled}
use Rattle.coordinator_core.specs.inner.LeafTable.{LeafRows}
use Rattle.coordinator_core.specs.declared.job_state.LeafState.TheVariants.{Open, Closed}
use Rattle.coordinator_core.proofs.TableLemmas.{split_now}
use Rattle.coordinator_core.proofs.leaf_table.LeafTable.split.Goals as goal

pub invariant_of-self-2 : goal.invariant_of-self-2
invariant_of-self-2 c =
    split_now _ _ _ _ c.self.inside.unclosed c.self.inside.from _ c.args.leaf c.self.invariant
    (subst (λ (t : LeafRows). c.args.leaf < length t.states) (sym c.self.view_is) c.requires.inside)
    (subst (λ (t : LeafRows). get_or t.states c.args.leaf Closed ≢ Closed) (sym c.self.view_is) c.requires.unclosed)
    (c.open_branches.ensures ∙ ap (doubled c.args.leaf Open) c.reserve.ensures.items)
    (c.empty_branches.ensures ∙ ap (doubled c.args.leaf []) c.reserve-2.ensures.items)
    c.min-self-inside.ensures
