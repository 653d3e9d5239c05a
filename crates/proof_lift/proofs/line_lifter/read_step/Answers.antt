use Rattle.std.proofs.Common.{ℕ, ◌∙◌, ap, subst}
use Rattle.std.proofs.lemmas.Result.{on_ok_weaker}
use Rattle.lrat_text.specs.Grammar.{SpellsStepWithin}
use Rattle.lrat_text.specs.Log.{log_top}
use Rattle.lrat_text.specs.Parser.{GivesStep, step_within}
use Rattle.lrat_text.proofs.LineLemmas.{step_more}
use Rattle.proof_lift.proofs.line_lifter.read_step.Goals as goal

pub returns-clause-within : goal.returns-clause-within
returns-clause-within c =
    on_ok_weaker c.read_line_within.result (λ (s : SpellsStepWithin c.log_top-most.result c.args.line.now c.read_line_within.new.buffer). step_more c.log_top-most.result 199999999 c.log_top-most.ensures.limit c.read_line_within.new.buffer s.limits) c.read_line_within.ensures.found

pub returns-clause-exact : goal.returns-clause-exact
returns-clause-exact c =
    subst (λ (n : ℕ). GivesStep c.read_line_within.new.buffer c.read_line_within.result (step_within n c.args.line.now)) (c.log_top-most.ensures.value ∙ ap log_top c.as_base.ensures)
    c.read_line_within.ensures.exact
