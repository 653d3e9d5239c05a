use Rattle.std.proofs.Common.{subst}
use Rattle.cube_split.specs.ChoiceWithDefinitions.{Chooses}
use Rattle.coordinator_core.specs.Coordinator.{coordinator_opening, cube_at}
use Rattle.coordinator_core.proofs.SplitStates.{limit_splits, limit_stops}
use Rattle.coordinator_core.proofs.coordinator.Coordinator.deliver_limit.Goals as goal

pub returns-in-Ok : goal.returns-in-Ok
returns-in-Ok c =
    limit_splits c.args.self.now c.choice.new.self c.split.new.self c.args.worker c.in-Some.leaf c.in-Ok-Some.var c.choice.ensures.same c.in-Some.ensures (c.may_split.ensures.0 c.if-not-may_split.false)
    (subst (Chooses c.args.self.now.formula (coordinator_opening c.args.self.now) (cube_at c.args.self.now c.in-Some.leaf)) c.in-Ok-Some.field-0-is c.in-Ok-Some.ensures.choice) c.in-Ok.ensures.ok

pub returns-in-Ok-None : goal.returns-in-Ok-None
returns-in-Ok-None c =
    limit_stops c.args.self.now c.choice.new.self c.give_up-in-Ok-None.new.self c.args.worker c.in-Some.leaf c.choice.ensures.same c.in-Some.ensures
    (subst (Chooses c.args.self.now.formula (coordinator_opening c.args.self.now) (cube_at c.args.self.now c.in-Some.leaf)) c.in-Ok-None.field-0-is c.in-Ok-None.ensures.choice)
    c.give_up-in-Ok-None.ensures
