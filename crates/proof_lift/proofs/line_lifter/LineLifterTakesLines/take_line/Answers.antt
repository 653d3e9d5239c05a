use Rattle.std.proofs.Common.{◌≡◌, ℕ, ◌+◌, Ok, sym, ap, subst, length, arith}
use Rattle.lrat_text.specs.Log.{log_top}
use Rattle.lrat_text.specs.Parser.{step_within}
use Rattle.lrat_text.specs.declared.step.Step.{Step}
use Rattle.proof_lift.specs.LiftedText.{lift_step}
use Rattle.proof_lift.specs.inner.Ready.{IsReady, SameLeaf, state_of}
use Rattle.proof_lift.specs.inner.Output.{WritesAs}
use Rattle.proof_lift.specs.declared.line_lifter.LineLifter.{LineLifter}
use Rattle.proof_lift.proofs.TakenLemmas.{ready_later, takes_closed, takes_step}
use Rattle.proof_lift.proofs.line_lifter.LineLifterTakesLines.take_line.Goals as goal
use Rattle.proof_lift.proofs.line_lifter.LineLifterTakesLines.take_line.Goals.{then-not-self+in-Ok-take, else-not-self}

pub returns : goal.returns
returns c =
    let old = c.args.self.now in
    let M = c.if-not-self.self in
    let line = c.args.line.now in
    let reads : step_within (log_top old.lifting.images.formula) line ≡ Ok c.read_step.new.buffer = c.in-Ok.ensures.exact in
    let next : c.in-Some.next ≡ old.line + 1 = omega (arith, c.in-Some.ensures) in
    elim c.if-not-self.branch [
      | then-not-self+in-Ok-take w ↦
          let ready : IsReady (old.line + 1) M.lifting = subst (λ (x : LineLifter). IsReady (old.line + 1) x.lifting) (sym w.self-is) w.in-Ok-take.ensures.ready in
          let leaf : SameLeaf old.lifting M.lifting = subst (λ (x : LineLifter). SameLeaf old.lifting x.lifting) (sym w.self-is) w.in-Ok-take.ensures.leaf in
          let writes = subst (λ (x : LineLifter). WritesAs (lift_step old.lifting.cube.items (length old.lifting.images.formula.clauses) (state_of old.lifting) c.read_step.new.buffer) old.lifting.own (state_of x.lifting) old.out.items x.out.items) (sym w.self-is)
          (subst (λ (st : Step). WritesAs (lift_step old.lifting.cube.items (length old.lifting.images.formula.clauses) (state_of old.lifting) st) old.lifting.own (state_of w.take.new.self) old.out.items w.take.new.out.items) w.as_ref.ensures w.in-Ok-take.ensures.writes) in
          (subst (λ (n : ℕ). IsReady n M.lifting) (sym next) ready, takes_step old (record M { line = c.in-Some.next }) line c.read_step.new.buffer reads (w.if-not-self.true) writes leaf next)
      | else-not-self w ↦ (
        subst (λ (n : ℕ). IsReady n M.lifting) (sym next) (subst (λ (x : LineLifter). IsReady (old.line + 1) x.lifting) (sym w.self-is) (ready_later old.line (old.line + 1) old.lifting (omega arith) c.requires)),
        takes_closed old (record M { line = c.in-Some.next }) line c.read_step.new.buffer reads (w.if-not-self.false) (ap (λ (x : LineLifter). x.lifting) w.self-is) (ap (λ (x : LineLifter). x.out) w.self-is) next,
      )
    ]
