-- A log that was read to its end: its first fault, or the contents of its receipt.
use Rattle.std.proofs.Common.{◌≡◌, ◌≢◌, ◌⊎◌, inl, inr, ℕ, ◌+◌, ◌-◌, ◌^◌, List, [], length, min, Option, Some, None, Result, Ok, Err, sym, ◌∙◌, ap, subst}
use Rattle.std.proofs.lemmas.Bool.{cases_eq}
use Rattle.dimacs.specs.logic.ClauseMap.{ClauseMap, map_of}
use Rattle.dimacs.specs.logic.Cnf.{Cnf}
use Rattle.icnf.specs.Leaves.{Cube}
use Rattle.log_join.specs.ClosedLeaves.{Numbered}
use Rattle.log_join.specs.JoinedLogs.{live_from}
use Rattle.lrat_check.specs.Logs.{log_end, log_of}
use Rattle.lrat_check.specs.declared.line_checker.CheckFault.{CheckFault}
use Rattle.lrat_check.proofs.LogLines.{HasTakenLog, log_ends}
use Rattle.lrat_text.specs.Grammar.{LineSpellsWithin}
use Rattle.lrat_text.specs.Lines.{IsOpen}
use Rattle.lrat_text.specs.Log.{log_top}
use Rattle.lrat_text.specs.Runs.{after_steps}
use Rattle.lrat_text.specs.declared.step.Step.{Step}
use Rattle.sha2.specs.Sha256.{sha256}
use Rattle.receipts.specs.ClosedLeaves.{closing_of}
use Rattle.receipts.specs.Receipts.{ReceiptContents, formula_digest}
use Rattle.receipts.specs.LogReceipt.{ClosesNone, HasLogFault, HasReadLog, IsReceiptOf, IsLogSoFar, IsLogOrFault, closing_lemmas}
use Rattle.receipts.specs.declared.fault.BuildFault.{BuildFault}
use Rattle.receipts.specs.declared.fault.BuildFault.TheVariants.{Log, NoMemory}
use Rattle.receipts.specs.declared.receipt_builder.ReceiptBuilder.{ReceiptBuilder}
use Rattle.receipts.proofs.LogReadLemmas.{count_is, ended_well}

-- ---- faults
pub told_fault : (F : Cnf) (bytes : List ℕ) (f fault : CheckFault) (r : BuildFault) → (f.number ≡ 14) ⊎ (log_of F bytes ≡ Err f)
    → (f.number ≡ 14 → r ≡ NoMemory) → (¬ (f.number ≡ 14) → r ≡ Log f) → r ≡ Log fault → log_of F bytes ≡ Err fault
told_fault F bytes f fault r (inl memory) refuses tells e = absurd (other (refuses memory) e)
  where
    other : r ≡ NoMemory → r ≡ Log fault → ⊥
    other p q = absurd cc
told_fault F bytes f fault r (inr is) refuses tells e = at (cases_eq f.number 14)
  where
    other : r ≡ NoMemory → r ≡ Log fault → ⊥
    other p q = absurd cc

    same : r ≡ Log f → r ≡ Log fault → f ≡ fault
    same p q = cc

    at : (f.number ≡ 14) ⊎ (f.number ≢ 14) → log_of F bytes ≡ Err fault
    at (inl memory) = absurd (other (refuses memory) e)
    at (inr s) = is ∙ ap (λ (x : CheckFault). Err x) (same (tells s) e)

pub its_fault : (p q : BuildFault) → ◌≡◌ {A = Result ReceiptContents BuildFault} (Err p) (Err q) → p ≡ q
its_fault p q e = cc

pub has_met : (F : Cnf) (cubes : List Cube) (bytes : List ℕ) (r : ReceiptBuilder) (f : CheckFault) → HasReadLog F cubes bytes r → r.fault ≡ Some f → HasLogFault F bytes f
has_met F cubes bytes r f h e = subst (λ (o : Option CheckFault). IsLogOrFault o F bytes r) e h.read

pub has_read : (F : Cnf) (cubes : List Cube) (bytes : List ℕ) (r : ReceiptBuilder) → HasReadLog F cubes bytes r → r.fault ≡ None → IsLogSoFar F bytes r
has_read F cubes bytes r h e = subst (λ (o : Option CheckFault). IsLogOrFault o F bytes r) e h.read

pub ended : (F : Cnf) (bytes : List ℕ) (r : ReceiptBuilder) (rest : List ℕ) (result : Result (Unit {0}) CheckFault) → IsLogSoFar F bytes r → rest ≡ r.begun → IsOpen r.begun → result ≡ log_end r.checker rest → log_of F bytes ≡ result
ended F bytes r rest result h same bare e =
    log_ends F h.first bytes r.checker r.begun h.begun h.checked bare ∙ ap (λ (x : List ℕ). log_end r.checker x) (sym same) ∙ sym e

-- ---- the contents of its receipt
pub record IsEnded (F : Cnf) (cubes : List Cube) (bytes : List ℕ) (r : ReceiptBuilder) : Type 0 where
  pub steps : List Step
  pub spells : LineSpellsWithin (log_top F) bytes steps
  pub taken : HasTakenLog F bytes steps r.checker r.begun

pub well_ended : (F : Cnf) (cubes : List Cube) (bytes : List ℕ) (r : ReceiptBuilder) (rest : List ℕ) → IsLogSoFar F bytes r → rest ≡ r.begun → log_end r.checker rest ≡ Ok tt → IsEnded F cubes bytes r
well_ended F cubes bytes r rest h same e =
    let w = ended_well F h.first bytes r.checker r.begun h.begun h.checked (ap (λ (x : List ℕ). log_end r.checker x) (sym same) ∙ e) in
    record { steps = w.0; spells = w.1; taken = w.2 }

closing_is : (F : Cnf) (cubes : List Cube) (bytes : List ℕ) (r : ReceiptBuilder) (h : IsEnded F cubes bytes r)
    → closing_of cubes [] (live_from (λ n. n) r.checker.live (r.checker.base + 1) (r.checker.top - r.checker.base)) ≡ closing_lemmas F cubes h.steps
closing_is F cubes bytes r h =
    ap (λ (M : ClauseMap). closing_of cubes [] (live_from (λ n. n) M (r.checker.base + 1) (r.checker.top - r.checker.base))) h.taken.live
    ∙ ap (λ (b : ℕ). closing_of cubes [] (live_from (λ n. n) (after_steps (map_of F) h.steps) (b + 1) (r.checker.top - r.checker.base))) h.taken.base
    ∙ ap (λ (k : ℕ). closing_of cubes [] (live_from (λ n. n) (after_steps (map_of F) h.steps) (length F.clauses + 1) k)) (count_is F bytes r.begun h.steps r.checker h.taken)

pub closes_none : (F : Cnf) (cubes : List Cube) (bytes : List ℕ) (r : ReceiptBuilder) (closing : List Numbered) → IsEnded F cubes bytes r
    → closing ≡ closing_of cubes [] (live_from (λ n. n) r.checker.live (r.checker.base + 1) (r.checker.top - r.checker.base)) → closing ≡ [] → ClosesNone F cubes bytes
closes_none F cubes bytes r closing h e none = record { steps = h.steps; spells = h.spells; is_log = h.taken.log; none = sym (e ∙ closing_is F cubes bytes r h) ∙ none }

pub tells : (F : Cnf) (cubes : List Cube) (bytes : List ℕ) (r : ReceiptBuilder) (t : ReceiptContents) → IsEnded F cubes bytes r → t.formula ≡ formula_digest F → t.log ≡ sha256 bytes
    → t.lemmas ≡ r.checker.top - r.checker.base → t.bytes ≡ min (2 ^ 64 - 1) (length bytes)
    → t.closing ≡ closing_of cubes [] (live_from (λ n. n) r.checker.live (r.checker.base + 1) (r.checker.top - r.checker.base)) → t.closing ≢ [] → IsReceiptOf F cubes bytes t
tells F cubes bytes r t h formula log lemmas count closing some = record {
  steps = h.steps;
  spells = h.spells;
  is_log = h.taken.log;
  formula = formula;
  log = log;
  lemmas = lemmas ∙ count_is F bytes r.begun h.steps r.checker h.taken;
  bytes = count;
  closing = closing ∙ closing_is F cubes bytes r h;
  some = some;
}
