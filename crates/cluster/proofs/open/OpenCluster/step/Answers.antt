use Rattle.std.proofs.Common.{[], ◌∷◌, refl}
use Rattle.cluster.proofs.ScheduleLemmas.{runs_one}
use Rattle.cluster.proofs.open.OpenCluster.step.Goals as goal

pub returns-clause-formulas : goal.returns-clause-formulas
returns-clause-formulas c =
    rw (← c.self.view_is) (c.verdicts_agree.ensures.formula c.self.inside.nodes.items c.happen.new.nodes.items c.args.event.now c.happen.result c.happen.ensures.happens)

pub returns-clause-agree : goal.returns-clause-agree
returns-clause-agree c =
    rw (← c.self.view_is)
    (c.verdicts_agree.ensures.agree c.self.inside.nodes.items c.self.inside.nodes.items c.happen.new.nodes.items [] (c.args.event.now ∷ []) c.self.invariant refl
    (runs_one c.self.inside.nodes.items c.args.event.now c.happen.result c.happen.new.nodes.items c.happen.ensures.happens))

pub returns-clause-nothing : goal.returns-clause-nothing
returns-clause-nothing c =
    rw (← c.self.view_is)
    (c.verdicts_agree.ensures.nothing c.self.inside.nodes.items c.args.event.now c.happen.result c.happen.new.nodes.items c.happen.ensures.happens)

pub returns-clause-grown : goal.returns-clause-grown
returns-clause-grown c =
    rw (← c.self.view_is)
    (c.verdicts_agree.ensures.grown c.self.inside.nodes.items c.self.inside.nodes.items c.happen.new.nodes.items [] (c.args.event.now ∷ []) c.self.invariant refl
    (runs_one c.self.inside.nodes.items c.args.event.now c.happen.result c.happen.new.nodes.items c.happen.ensures.happens))
