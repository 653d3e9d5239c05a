-- One line that is taken.
use Rattle.std.proofs.Common.{◌≡◌, ℕ, ◌+◌, ◌≤◌, true, false, List, [], Ok, cond, sym, ◌∙◌, ap, length, arith}
use Rattle.std.proofs.lemmas.List.{append-nil}
use Rattle.lrat_text.specs.Log.{log_top}
use Rattle.lrat_text.specs.Parser.{step_within}
use Rattle.lrat_text.specs.Runs.{text_of}
use Rattle.lrat_text.specs.declared.step.Step.{Step}
use Rattle.proof_lift.specs.LiftedText.{LiftedStep, prepend, lift_line, lifted_step, lift_step}
use Rattle.proof_lift.specs.inner.Lines.{Takes}
use Rattle.proof_lift.specs.inner.Ready.{IsReady, SameLeaf, state_of}
use Rattle.proof_lift.specs.inner.Output.{WritesAs}
use Rattle.proof_lift.specs.declared.step_lifter.StepLifter.{StepLifter}
use Rattle.proof_lift.specs.declared.line_lifter.LineLifter.{LineLifter}
use Rattle.proof_lift.proofs.ReadyLemmas.{below_later}
use Rattle.proof_lift.proofs.StreamLemmas.{behind_none}

pub ready_later : (n m : ℕ) (x : StepLifter) → n ≤ m → IsReady n x → IsReady m x
ready_later n m x later h = record {
  positive = let p = h.positive in omega arith;
  able = h.able;
  clean = record { marks = below_later n m x.scratch.marks.items later h.clean.marks; used = below_later n m x.scratch.used.items later h.clean.used };
}

pub takes_closed : (old new : LineLifter) (line : List ℕ) (step : Step) → step_within (log_top old.lifting.images.formula) line ≡ Ok step → old.lifting.closed ≡ true → new.lifting ≡ old.lifting → new.out ≡ old.out → new.line ≡ old.line + 1 → Takes old line new
takes_closed old new line step reads closed same out next = record {
  appended = [];
  out = ap (λ v. v.items) out ∙ sym (append-nil old.out.items);
  goes_on = λ later.
      ap (λ r. lift_line old.lifting.cube.items (length old.lifting.images.formula.clauses) (state_of old.lifting) old.line r later) reads
      ∙ ap (λ b. cond b (later (state_of old.lifting)) (lifted_step old.line old.lifting.own (lift_step old.lifting.cube.items (length old.lifting.images.formula.clauses) (state_of old.lifting) step) later)) closed
      ∙ sym (behind_none (later (state_of old.lifting)))
      ∙ ap (λ (x : StepLifter). prepend [] (later (state_of x))) (sym same);
  leaf = record { formula = ap (λ (x : StepLifter). x.images.formula) same; cube = ap (λ (x : StepLifter). x.cube) same };
  next = next;
}

pub takes_step : (old new : LineLifter) (line : List ℕ) (step : Step) → step_within (log_top old.lifting.images.formula) line ≡ Ok step → old.lifting.closed ≡ false
    → WritesAs (lift_step old.lifting.cube.items (length old.lifting.images.formula.clauses) (state_of old.lifting) step) old.lifting.own (state_of new.lifting) old.out.items new.out.items
    → SameLeaf old.lifting new.lifting → new.line ≡ old.line + 1 → Takes old line new
takes_step old new line step reads open_still (steps, is, out) leaf next = record {
  appended = text_of old.lifting.own steps;
  out = out;
  goes_on = λ later.
      ap (λ r. lift_line old.lifting.cube.items (length old.lifting.images.formula.clauses) (state_of old.lifting) old.line r later) reads
      ∙ ap (λ b. cond b (later (state_of old.lifting)) (lifted_step old.line old.lifting.own (lift_step old.lifting.cube.items (length old.lifting.images.formula.clauses) (state_of old.lifting) step) later)) open_still
      ∙ ap (λ (r : LiftedStep). lifted_step old.line old.lifting.own r later) is;
  leaf = leaf;
  next = next;
}
