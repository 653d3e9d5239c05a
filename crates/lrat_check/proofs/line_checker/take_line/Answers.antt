use Rattle.std.proofs.Common.{subst}
use Rattle.lrat_check.specs.State.{StepTaken}
use Rattle.lrat_check.proofs.Passing.{passes}
use Rattle.lrat_check.proofs.line_checker.take_line.Goals as goal

pub returns-in-Ok-take-clause-passed : goal.returns-in-Ok-take-clause-passed
returns-in-Ok-take-clause-passed c =
    passes c.args.checker.now c.take.new.self c.read_line_within.new.buffer c.args.limit.most c.args.line c.args.text.now c.requires c.in-Ok.ensures.exact
    (λ refuted. (c.in-Ok-take.ensures.finished c.requires refuted).1)
    (λ running. subst (λ step. StepTaken c.args.checker.now step c.take.new.self) c.as_ref.ensures (c.in-Ok-take.ensures.running running))
