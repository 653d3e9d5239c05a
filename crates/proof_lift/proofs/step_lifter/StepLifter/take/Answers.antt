use Rattle.std.proofs.Common.{◌≡◌, ◌⊎◌, Err, OnOk, IfErr, sym, subst, length}
use Rattle.lrat_text.specs.Steps.{step_of}
use Rattle.proof_lift.specs.LiftedText.{lift_step}
use Rattle.proof_lift.specs.inner.Faults.{line_fault_number}
use Rattle.proof_lift.specs.inner.Ready.{state_of}
use Rattle.proof_lift.specs.inner.Output.{WritesAs}
use Rattle.proof_lift.specs.declared.fault.LineFault.TheVariants.{NoMemory}
use Rattle.proof_lift.proofs.step_lifter.StepLifter.take.Goals as goal

pub returns-in-Add-clause-writes : goal.returns-in-Add-clause-writes
returns-in-Add-clause-writes c =
    let old = c.args.self.now in
    subst (λ st. OnOk c.add.result (WritesAs (lift_step old.cube.items (length old.images.formula.clauses) (state_of old) (step_of st)) old.own (state_of c.add.new.self) c.args.out.now.items c.add.new.out.items)) (sym c.in-Add.is) c.add.ensures.writes

pub returns-in-Add-clause-refused : goal.returns-in-Add-clause-refused
returns-in-Add-clause-refused c =
    let old = c.args.self.now in
    subst (λ st. IfErr c.add.result (λ f. (f ≡ NoMemory) ⊎ (lift_step old.cube.items (length old.images.formula.clauses) (state_of old) (step_of st) ≡ Err (line_fault_number f)))) (sym c.in-Add.is) c.add.ensures.refused
