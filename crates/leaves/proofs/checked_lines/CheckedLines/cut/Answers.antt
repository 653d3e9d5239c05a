use Rattle.std.proofs.Common.{ℕ, take, length, min, sym, ◌∙◌, ap}
use Rattle.lrat_check.specs.Logs.{ids_of}
use Rattle.lrat_text.specs.declared.step.Step.{Step}
use Rattle.lrat_text.specs.declared.step.StepRef.{StepRef}
use Rattle.lrat_text.specs.Steps.{step_of}
use Rattle.leaves.proofs.LineLemmas.{cut_is_empty, cut_is_written, on_ok, take_least, take_none}
use Rattle.leaves.proofs.checked_lines.CheckedLines.cut.Goals as goal

pub returns-then-cut-eq0 : goal.returns-then-cut-eq0
returns-then-cut-eq0 c = λ F cubes logs log written h.
    cut_is_empty F cubes logs log written c.args.self.now h (ap (λ (n : ℕ). take n (ids_of c.args.self.now.checker.step)) (sym c.cut-cut.ensures ∙ c.if-cut-eq0.true))

pub returns-in_default : goal.returns-in_default
returns-in_default c = λ F cubes logs log written h.
    let cut = c.args.self.now.checker.cut in
    cut_is_empty F cubes logs log written c.args.self.now h
    (ap (λ (s : Step). take cut (ids_of s)) (sym c.step.ensures) ∙ ap (λ (r : StepRef). take cut (ids_of (step_of r))) c.in_default.is ∙ take_none cut)

pub returns : goal.returns
returns c = let cut = c.args.self.now.checker.cut in on_ok c.line.result _ _ (λ put F cubes logs log written h.
    cut_is_written F cubes logs log written c.args.self.now h c.line.new.self c.line.new.out (take c.min.result c.in-Delete.ids.now)
    (ap (λ (x : Step). take cut (ids_of x)) (sym c.step.ensures) ∙ ap (λ (r : StepRef). take cut (ids_of (step_of r))) c.in-Delete.is
    ∙ take_least cut c.min.result c.in-Delete.ids.now (c.min.ensures ∙ ap (λ (n : ℕ). min n (length c.in-Delete.ids.now)) c.cut-cut.ensures))
    (c.are_clause_numbers.ensures c.if-not-are_clause_numbers.false) put)
    c.line.ensures.line
