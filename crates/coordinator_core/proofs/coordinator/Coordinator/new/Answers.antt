use Rattle.std.proofs.Common.{◌≡◌}
use Rattle.std.proofs.lemmas.Result.{IfOk-weaker}
use Rattle.cube_split.specs.Pairs.{AreOf, Definitions}
use Rattle.coordinator_core.specs.Coordinator.{CoordinatorState, new_coordinator}
use Rattle.coordinator_core.proofs.NewCoordinatorLemmas.{beginning, begins_plain, plain_inside}
use Rattle.coordinator_core.proofs.coordinator.Coordinator.new.Goals as goal

pub with_defs-requires-clause-inside : goal.with_defs-requires-clause-inside
with_defs-requires-clause-inside c = plain_inside c.args.formula c.args.tree c.requires.inside

pub returns : goal.returns
returns c =
    IfOk-weaker c.with_defs.result
    (λ (s : CoordinatorState). (d : Definitions) × AreOf c.args.formula d × (d.wanted ≡ 0) × (s ≡ beginning c.args.formula d c.args.tree c.args.limit c.args.workers c.args.session))
    (λ (s : CoordinatorState). s ≡ new_coordinator c.args.formula c.args.tree c.args.limit c.args.workers c.args.session)
    (begins_plain c.args.formula c.args.tree c.args.limit c.args.workers c.args.session) c.with_defs.ensures
