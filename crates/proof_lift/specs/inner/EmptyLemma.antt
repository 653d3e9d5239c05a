-- The empty lemma, which `close` derives by unit propagation and writes.
use Rattle.std.specs.Prelude.{ℕ, ◌+◌, ◌≡◌, List, [], Ok, length}
use Rattle.lrat_text.specs.Grammar.{IsStep}
use Rattle.lrat_text.specs.declared.step.Step.{Step}
use Rattle.lrat_text.specs.declared.step.Step.TheVariants.{Add}
use Rattle.proof_lift.specs.LiftedText.{LiftState, lift_step}
use Rattle.proof_lift.specs.inner.Ready.{state_of}
use Rattle.proof_lift.specs.inner.Output.{WritesAs}
use Rattle.proof_lift.specs.declared.step_lifter.StepLifter.{StepLifter}

-- the empty lemma is lifted, with some hints, and written
pub record IsClosed (old new : StepLifter) (before after : List ℕ) : Type 0 where
  pub hints : List ℕ
  pub limits : IsStep (Add (old.top + 1) [] hints [])
  pub writes : WritesAs (lift_step old.cube.items (length old.images.formula.clauses) (state_of old) (Add (old.top + 1) [] hints [])) old.own (state_of new) before after

-- no hints lift the empty lemma
abbrev pub NothingCloses : StepLifter → Type 0
NothingCloses old =
    (n : ℕ) (hints : List ℕ) (steps : List Step) (s' : LiftState) → IsStep (Add n [] hints [])
    → ¬ (lift_step old.cube.items (length old.images.formula.clauses) (state_of old) (Add n [] hints []) ≡ Ok (steps, s'))
