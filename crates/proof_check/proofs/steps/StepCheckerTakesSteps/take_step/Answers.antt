use Rattle.lrat_text.specs.Steps.{step_of}
use Rattle.proof_check.proofs.StepLemmas.{passes}
use Rattle.proof_check.proofs.steps.StepCheckerTakesSteps.take_step.Goals as goal

pub returns : goal.returns
returns c =
    let goes = passes c.args.self.now.checker c.take.new.self (step_of c.args.step) c.args.self.now.number c.requires (λ refuted. (c.in-Ok.ensures.finished c.requires refuted).1) c.in-Ok.ensures.running in
    (goes.0, (goes, c.in_ok-self.ensures))
