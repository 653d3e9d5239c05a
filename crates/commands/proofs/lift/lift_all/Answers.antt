use Rattle.commands.proofs.lift.lift_all.Goals as goal

pub returns-clause-lifts : goal.returns-clause-lifts
returns-clause-lifts g c = c.lift_text.ensures.lifts c.args.split.formula 0 c.args.split.tree c.in_ok-lift.ensures.begins
