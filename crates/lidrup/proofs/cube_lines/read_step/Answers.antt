use Rattle.std.proofs.Common.{ℕ, OnOk, subst}
use Rattle.std.proofs.lemmas.Result.{on_ok_weaker}
use Rattle.lrat_text.specs.Grammar.{IsStepWithin, SpellsStepWithin}
use Rattle.lrat_text.specs.Parser.{GivesStep, step_within}
use Rattle.lidrup.proofs.cube_lines.read_step.Goals as goal

pub returns-clause-within : goal.returns-clause-within
returns-clause-within c =
    subst (λ (n : ℕ). OnOk c.read_line_within.result (IsStepWithin n c.read_line_within.new.buffer)) c.most-most.ensures.value
    (on_ok_weaker c.read_line_within.result (λ (s : SpellsStepWithin c.most-most.result c.args.line.now c.read_line_within.new.buffer). s.limits) c.read_line_within.ensures.found)

pub returns-clause-exact : goal.returns-clause-exact
returns-clause-exact c =
    subst (λ (n : ℕ). GivesStep c.read_line_within.new.buffer c.read_line_within.result (step_within n c.args.line.now)) c.most-most.ensures.value c.read_line_within.ensures.exact
