use Rattle.std.proofs.Common.{subst}
use Rattle.lrat_text.specs.Log.{Negates}
use Rattle.lrat_text.specs.declared.step.Step.{Step}
use Rattle.weaving.specs.declared.checked_text.CheckedText.{CheckedText}
use Rattle.weaving.proofs.TextLemmas.{line_closes, line_keeps, of_true}
use Rattle.weaving.proofs.checked_text.CheckedText.add_last.Goals as goal

pub returns-clause-woven : goal.returns-clause-woven
returns-clause-woven c = line_keeps c.args.self.now _ c.in_ok-append_made.ensures

pub returns-clause-closes : goal.returns-clause-closes
returns-clause-closes c = λ e.
    let new : CheckedText = record { checker = c.append_made.new.checker; out = c.append_made.new.out; made = c.make_lemma.new.line } in
    line_closes c.args.cube.now c.args.self.now new c.in_ok-append_made.ensures (subst (λ (s : Step). Negates c.args.cube.now s) c.step.ensures (of_true c.negates.result _ e c.negates.ensures))
