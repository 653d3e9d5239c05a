-- Checking finds no fault exactly in an accepted proof.
use Rattle.std.proofs.Common.{◌≡◌, ◌⊎◌, ℕ, ◌+◌, ◌*◌, ◌^◌, ◌<◌, ◌≤◌, max, arith, Bool, true, false, List, [], ◌∷◌, length, Option, Some, None, Ok, inl, inr, refl, sym, ◌∙◌, ap}
use Rattle.std.proofs.lemmas.Bool.{true≢false}
use Rattle.dimacs.specs.logic.Cnf.{Cnf}
use Rattle.dimacs.specs.logic.ClauseMap.{ClauseMap, map_of}
use Rattle.lrat_text.specs.declared.fault.TextFault.{TextFault}
use Rattle.lrat_text.specs.declared.step.Step.{Step}
use Rattle.lrat_text.specs.Proof.{Refutation, TakesStep, AddsEmpty, proof_top}
use Rattle.lrat_binary.specs.Grammar.{SpellsWithin}
use Rattle.lrat_binary.specs.Parser.{ReadResult, steps_within}
use Rattle.lrat_check.specs.declared.fault.StepFault.{StepFault}
use Rattle.lrat_check.specs.StepFaults.{step_fault, adds_empty, live_after, top_after}
use Rattle.lrat_check.specs.ProofFaults.{check_step}
use Rattle.lrat_check.proofs.Checked.{adds_empty_is, adds_empty_from}
use Rattle.lrat_check.proofs.Taken.{taken_from_no_fault, no_fault_from_taken}
use Rattle.proof_check.specs.BinaryProof.{AcceptsBinary}
use Rattle.proof_check.specs.FirstFault.{behind_steps, check_steps, check_reading, check_binary_of}

-- nothing is wrong after the last step, and the empty clause was added
ended_well : (refuted : Bool) (n : ℕ) (fault : Option TextFault) → behind_steps refuted n fault ≡ Ok tt → (fault ≡ None) × (refuted ≡ true)
ended_well true n None e = (refl, refl)
ended_well false n None e = absurd cc
ended_well refuted n (Some fault) e = absurd cc

passed_after : (steps : List Step) (M : ClauseMap) (top n : ℕ) (fault : Option TextFault) → check_steps true M top n steps fault ≡ Ok tt → fault ≡ None
passed_after [] M top n fault e = (ended_well true n fault e).0
passed_after (step ∷ steps) M top n fault e = passed_after steps M top (n + 1) fault e

pub checked_refutes : (steps : List Step) (M : ClauseMap) (top n : ℕ) (fault : Option TextFault) → check_steps false M top n steps fault ≡ Ok tt → (fault ≡ None) × Refutation M top steps
checked_refutes [] M top n fault e = absurd (true≢false (sym (ended_well false n fault e).1))
checked_refutes (step ∷ steps) M top n fault e =
    by (step_fault M top step) refl e
    (λ f. checked_refutes steps (live_after M step) (top_after top step) (n + 1) fault f)
    (λ f. passed_after steps (live_after M step) (top_after top step) (n + 1) fault f)
  where
    on : TakesStep M top step (live_after M step) (top_after top step) → (b : Bool) → adds_empty step ≡ b
        → check_steps b (live_after M step) (top_after top step) (n + 1) steps fault ≡ Ok tt
        → (check_steps false (live_after M step) (top_after top step) (n + 1) steps fault ≡ Ok tt → (fault ≡ None) × Refutation (live_after M step) (top_after top step) steps)
        → (check_steps true (live_after M step) (top_after top step) (n + 1) steps fault ≡ Ok tt → fault ≡ None)
        → (fault ≡ None) × Refutation M top (step ∷ steps)
    on taken true empty e refutes after = (after e, (live_after M step, top_after top step, taken, inl (adds_empty_is step empty)))
    on taken false empty e refutes after = ((refutes e).0, (live_after M step, top_after top step, taken, inr (refutes e).1))

    by : (o : Option StepFault) → step_fault M top step ≡ o
        → check_step n o (check_steps (adds_empty step) (live_after M step) (top_after top step) (n + 1) steps fault) ≡ Ok tt
        → (check_steps false (live_after M step) (top_after top step) (n + 1) steps fault ≡ Ok tt → (fault ≡ None) × Refutation (live_after M step) (top_after top step) steps)
        → (check_steps true (live_after M step) (top_after top step) (n + 1) steps fault ≡ Ok tt → fault ≡ None)
        → (fault ≡ None) × Refutation M top (step ∷ steps)
    by (Some f) first e refutes after = absurd cc
    by None first e refutes after = on (taken_from_no_fault M top step first) (adds_empty step) refl e refutes after

passed_over : (steps : List Step) (M : ClauseMap) (top n : ℕ) → check_steps true M top n steps None ≡ Ok tt
passed_over [] M top n = refl
passed_over (step ∷ steps) M top n = passed_over steps M top (n + 1)

pub refutes_checked : (steps : List Step) (M : ClauseMap) (top n : ℕ) → Refutation M top steps → check_steps false M top n steps None ≡ Ok tt
refutes_checked [] M top n r = absurd r
refutes_checked (step ∷ steps) M top n (M', top', taken, ends) =
    let none : (step_fault M top step ≡ None) × (M' ≡ live_after M step) × (top' ≡ top_after top step) = no_fault_from_taken M M' top top' step taken in
    ap (λ o. check_step n o (check_steps (adds_empty step) (live_after M step) (top_after top step) (n + 1) steps None)) none.0
    ∙ ap (λ N. check_steps (adds_empty step) N (top_after top step) (n + 1) steps None) (sym none.1)
    ∙ ap (λ t. check_steps (adds_empty step) M' t (n + 1) steps None) (sym none.2)
    ∙ at ends (adds_empty step) refl (λ r. refutes_checked steps M' top' (n + 1) r)
  where
    at : AddsEmpty step ⊎ Refutation M' top' steps → (b : Bool) → adds_empty step ≡ b → (Refutation M' top' steps → check_steps false M' top' (n + 1) steps None ≡ Ok tt)
        → check_steps b M' top' (n + 1) steps None ≡ Ok tt
    at ends true is refutes = passed_over steps M' top' (n + 1)
    at (inl empty) false is refutes = absurd (true≢false (sym (adds_empty_from step empty) ∙ is))
    at (inr r) false is refutes = refutes r

-- ---- a proof

module _ (found : (most : ℕ) (bytes : List ℕ) (steps : List Step) → steps_within most bytes ≡ (steps, None) → SpellsWithin most bytes steps)
    (only : (most : ℕ) (bytes : List ℕ) (steps : List Step) → most < 2 ^ 48 → SpellsWithin most bytes steps → steps_within most bytes ≡ (steps, None)) where
  pub checked_accepted : (F : Cnf) (bytes : List ℕ) → check_binary_of F bytes ≡ Ok tt → AcceptsBinary F bytes
  checked_accepted F bytes e =
      let read : ReadResult = steps_within (proof_top F) bytes in
      let r = checked_refutes read.0 (map_of F) (length F.clauses) 1 read.1 e in
      (read.0, found (proof_top F) bytes read.0 (ap (λ (o : Option TextFault). (read.0, o)) r.0), r.1)

  pub accepted_checked : (F : Cnf) (bytes : List ℕ) → F.vars ≤ 99999999 → AcceptsBinary F bytes → check_binary_of F bytes ≡ Ok tt
  accepted_checked F bytes small (steps, spelled, refutes) =
      let few : max 2000000 (2 * F.vars) < 2 ^ 48 = omega arith in
      ap (check_reading false (map_of F) (length F.clauses) 1) (only (proof_top F) bytes steps few spelled) ∙ refutes_checked steps (map_of F) (length F.clauses) 1 refutes
