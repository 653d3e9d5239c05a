use Rattle.std.proofs.Common.{◌+◌, ◌-◌, ◌∙◌, All, List, ℕ, map, arith, sym, subst}
use Rattle.lrat_text.specs.Grammar.{IsStepWithin, IsClauseNumber}
use Rattle.lrat_text.specs.declared.step.Step.TheVariants.{Add, Delete}
use Rattle.proof_join.specs.RenumberedSteps.{behind}
use Rattle.proof_join.specs.inner.Steps.{IsLow}
use Rattle.proof_join.proofs.StepLemmas.{low_addition, low_deletion}
use Rattle.proof_join.proofs.lines.put_renumbered.Goals as goal

pub put_found-requires-clause-limits : goal.put_found-requires-clause-limits
put_found-requires-clause-limits c =
    let limits : IsStepWithin 199999999 (Add c.in-Add.id c.in-Add.lits.now c.in-Add.hints.now c.in-Add.groups.now) = rw c.in-Add.is at c.requires.limits in
    let low : IsLow (c.args.shift.base + (c.args.top - c.args.shift.begun)) (Add c.in-Add.id c.in-Add.lits.now c.in-Add.hints.now c.in-Add.groups.now) = rw c.in-Add.is at c.requires.low in
    let above = c.requires.begun in
    let few = c.requires.top in
    let z : IsStepWithin 199999999 (Add (behind c.args.shift.base c.args.shift.begun c.in-Add.id) c.in-Add.lits.now (map (behind c.args.shift.base c.args.shift.begun) c.in-Add.hints.now) c.in-Add.groups.now) =
    low_addition 199999999 c.args.shift.base c.args.shift.begun (c.args.shift.base + (c.args.top - c.args.shift.begun)) c.in-Add.id c.in-Add.lits.now c.in-Add.hints.now c.in-Add.groups.now above.1 (omega arith) (omega arith) limits low in (
      subst IsClauseNumber (sym c.number-id.ensures) z.0,
      z.1,
      subst (λ (ns : List ℕ). All IsClauseNumber ns) (sym (c.deref.ensures.value ∙ c.in_ok-numbers-in-Add.ensures)) z.2,
      z.3,
    )

pub put_found-requires-in-Delete-clause-limits : goal.put_found-requires-in-Delete-clause-limits
put_found-requires-in-Delete-clause-limits c =
    let limits : IsStepWithin 199999999 (Delete c.in-Delete.ids.now) = rw c.in-Delete.is at c.requires.limits in
    let low : IsLow (c.args.shift.base + (c.args.top - c.args.shift.begun)) (Delete c.in-Delete.ids.now) = rw c.in-Delete.is at c.requires.low in
    let above = c.requires.begun in
    let few = c.requires.top in
    let z : IsStepWithin 199999999 (Delete (map (behind c.args.shift.base c.args.shift.begun) c.in-Delete.ids.now)) =
    low_deletion 199999999 c.args.shift.base c.args.shift.begun (c.args.shift.base + (c.args.top - c.args.shift.begun)) c.in-Delete.ids.now above.1 (omega arith) (omega arith) limits low in
    subst (λ (ns : List ℕ). All IsClauseNumber ns) (sym (c.deref-in-Delete.ensures.value ∙ c.in_ok-numbers-in-Delete.ensures)) z
