use Rattle.std.proofs.Common.{◌≡◌, ◌∙◌, ◌++◌, ap}
use Rattle.lrat_text.specs.Steps.{step_of}
use Rattle.lrat_text.specs.WrittenLine.{line_of}
use Rattle.lrat_text.specs.inner.LineParts.{lemma_text, reasons_text}
use Rattle.lrat_text.specs.declared.step.StepRef.{StepRef}
use Rattle.lrat_text.proofs.WrittenLineLemmas.{line_addition}
use Rattle.lrat_text.proofs.writer.put_step.Goals as goal

pub returns-in-Add-clause-ok : goal.returns-in-Add-clause-ok
returns-in-Add-clause-ok c =
    let e : line_of c.args.top (step_of c.args.step) ≡ lemma_text c.in-Add.id c.in-Add.lits.now ++ reasons_text c.in-Add.hints.now c.in-Add.groups.now =
    ap (λ (s : StepRef). line_of c.args.top (step_of s)) c.in-Add.is ∙ line_addition c.args.top c.in-Add.id c.in-Add.lits.now c.in-Add.hints.now c.in-Add.groups.now in
    rw e c.put_addition.ensures.ok
