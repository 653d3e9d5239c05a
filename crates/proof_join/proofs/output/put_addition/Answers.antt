use Rattle.std.proofs.Common.{◌≡◌, ◌++◌, ◌∙◌, List, ℕ, ap, subst}
use Rattle.lrat_text.specs.WrittenLine.{line_of}
use Rattle.lrat_text.specs.declared.step.Step.TheVariants.{Add}
use Rattle.proof_join.specs.inner.Steps.{Writes}
use Rattle.proof_join.proofs.output.put_addition.Goals as goal

pub returns : goal.returns
returns c = λ top lits e.
    let own : List ℕ = line_of top (Add c.args.id lits c.args.hints.now c.args.groups.now) in
    let line : c.deref.result.now ≡ own = c.deref.ensures.value ∙ c.in_ok-put_with_literal_text.ensures.ok top lits e ∙ ap (λ (xs : List ℕ). xs ++ own) c.clear.ensures.items in
    subst (λ (l : List ℕ). Writes c.append.result c.append.new.text (c.args.out.now ++ l)) line (rw (← c.out.view_is) c.append.ensures)
