use Rattle.std.proofs.Common.{◌++◌, sym, subst}
use Rattle.lrat_text.specs.WrittenLine.{line_of}
use Rattle.lrat_text.specs.declared.step.Step.{Step}
use Rattle.lrat_text.specs.declared.step.Step.TheVariants.{Add}
use Rattle.proof_join.specs.inner.Steps.{IsApart, Writes}
use Rattle.proof_join.proofs.ApartLemmas.{apart_addition}
use Rattle.proof_join.proofs.lines.put_apart.Goals as goal

pub returns-in-Add : goal.returns-in-Add
returns-in-Add c = λ step h.
    let own : IsApart c.args.literals.now (Add c.in-Add.id c.in-Add.lits.now c.in-Add.hints.now c.in-Add.groups.now) step = rw c.in-Add.is at h in
    let a = apart_addition c.args.literals.now c.in-Add.id c.in-Add.lits.now c.in-Add.hints.now c.in-Add.groups.now step own in
    subst (λ (s : Step). Writes c.put_addition.result c.put_addition.new.out (c.args.out.now ++ line_of c.args.top s)) (sym a.1) (c.put_addition.ensures c.args.top a.0 a.2)
