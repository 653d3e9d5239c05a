-- What `check` reports of a proof that comes in pieces.
use Rattle.std.proofs.Common.{◌≡◌, ◌≢◌, ◌⊎◌, ℕ, Bool, true, false, List, [], cond, Result, Ok, Err, None, inl, inr, refl, sym, ap, subst, ◌∙◌}
use Rattle.std.specs.Prelude.{IfOk, OnOk, is_ok}
use Rattle.std.specs.declared.alloc.AllocError.{AllocError}
use Rattle.std.proofs.lemmas.Bool.{true≢false}
use Rattle.std.proofs.lemmas.List.Elements.{All-nil}
use Rattle.dimacs.specs.logic.Cnf.{Cnf}
use Rattle.dimacs.specs.logic.ClauseMap.{map_of}
use Rattle.dimacs.specs.logic.Limits.{AreNoMore, Limits, large}
use Rattle.dimacs.specs.text.Parser.{GivesFormula, parse_within, no_memory as input_no_memory}
use Rattle.dimacs.specs.text.Rows.{Fails}
use Rattle.dimacs.specs.text.Grammar.{SpellsWithin}
use Rattle.dimacs.specs.declared.fault.DimacsFault.{DimacsFault}
use Rattle.dimacs.specs.declared.fault.Kind.TheVariants.{NoMemory}
use Rattle.dimacs.proofs.SpellingLemmas.{spells_parse_within, found_spells_within as input_found_within}
use Rattle.lrat_text.specs.Proof.{Accepts, proof_top}
use Rattle.lrat_text.proofs.SpellingLemmas.{found_spells_within, spelled_found_within}
use Rattle.lrat_binary.proofs.ReadLemmas.{found_spells_within as binary_found_within}
use Rattle.lrat_binary.proofs.SpelledLemmas.{spelled_found_within as binary_spelled_within}
use Rattle.lrat_check.specs.ProofFaults.{GivesCheck, check_of, no_memory}
use Rattle.lrat_check.specs.Soundness.{Soundness}
use Rattle.lrat_check.specs.declared.line_checker.CheckFault.{CheckFault}
use Rattle.lrat_check.proofs.Lines.{checked_accepted, accepted_checked, check_text-end, is_lf}
use Rattle.proof_check.specs.BinaryProof.{AcceptsBinary, BinarySoundness}
use Rattle.proof_check.specs.FirstFault.{check_binary_of}
use Rattle.proof_check.proofs.CheckedLemmas.{checked_accepted as binary_checked_accepted, accepted_checked as binary_accepted_checked}
use Rattle.proof_check.specs.Forms.{is_binary}
use Rattle.proof_check.specs.Reports.{answer_text, binary_answer_text, check_text, proof_text}
use Rattle.proof_check.specs.ProofChecks.{IsCheckReport}
use Rattle.proof_check.specs.inner.Checks.{IsTextReport}
use Rattle.proof_check.specs.Truth.{SpellsUnsatisfiable}
use Rattle.proof_check.proofs.FormLemmas.{text_form, binary_form}
use Rattle.reports.specs.Faults.{input_fault_text}
use Rattle.reports.specs.declared.report.Report.{Report}

-- ---- the input

-- the formula that was found is the one that the input spells
pub spelled : (L : Limits) (input : List ℕ) (r : Result Cnf DimacsFault) (F : Cnf) → AreNoMore L large → r ≡ Ok F → GivesFormula r (parse_within L input) → SpellsWithin L input F
spelled L input r F no_more is h = subst (λ (x : Result Cnf DimacsFault). IfOk x (λ f. SpellsWithin L input f)) is (input_found_within L input r no_more h)

-- ---- the proof's answer

-- an answer that is not want of memory is the check's
answer_is : (answer expected : Result (Unit {0}) CheckFault) → GivesCheck answer expected → answer ≢ Err no_memory → answer ≡ expected
answer_is (Ok u) expected gives other = sym gives
answer_is (Err fault) expected (inl none) other = absurd (other (ap Err none))
answer_is (Err fault) expected (inr is) other = sym is

abbrev status_of : Result (Unit {0}) CheckFault → ℕ
status_of answer = cond (is_ok answer) 0 1

passed : (answer : Result (Unit {0}) CheckFault) → status_of answer ≡ 0 → answer ≡ Ok tt
passed (Ok u) e = refl
passed (Err fault) e = absurd cc

one_of_two : (answer : Result (Unit {0}) CheckFault) → (status_of answer ≡ 0) ⊎ (status_of answer ≡ 1)
one_of_two (Ok u) = inl refl
one_of_two (Err fault) = inr refl

formula_is : (L : Limits) (input : List ℕ) (F G : Cnf) → SpellsWithin L input F → SpellsWithin L input G → G ≡ F
formula_is L input F G read spells =
    let first : parse_within L input ≡ Ok F = spells_parse_within L input F read in
    let other : parse_within L input ≡ Ok G = spells_parse_within L input G spells in
    cc

-- ---- a text

pub text_report : (L : Limits) (input proof : List ℕ) (F : Cnf) (answer : Result (Unit {0}) CheckFault) (result : Result Report AllocError) → SpellsWithin L input F → GivesCheck answer (check_of F proof)
    → IfOk result (λ r. r.stdout.items ≡ answer_text answer) → IfOk result (λ r. r.status ≡ status_of answer) → IfOk result (λ r. r.proof ≡ None) → OnOk result (answer ≢ Err no_memory) → IfOk result (IsTextReport L input proof)
text_report L input proof F answer (Err e) read gives text status none other = tt
text_report L input proof F answer (Ok report) read gives text status none other =
    let is : answer ≡ check_of F proof = answer_is answer (check_of F proof) gives other in
    record {
      verified = (
        λ zero. (F, read, checked_accepted found_spells_within spelled_found_within F proof (sym is ∙ passed answer (sym status ∙ zero))),
        λ (G, spells, accepts).
            let same : G ≡ F = formula_is L input F G read spells in
            let well : check_of F proof ≡ Ok tt = accepted_checked found_spells_within spelled_found_within F proof read.0.vars (subst (λ H. Accepts H proof) same accepts) in
            status ∙ ap status_of (is ∙ well),
      );
      status = subst (λ n. (n ≡ 0) ⊎ (n ≡ 1)) (sym status) (one_of_two answer);
      text = text ∙ ap answer_text is ∙ sym (ap (λ found. check_text found proof) (spells_parse_within L input F read));
      no_proof = none;
    }

same_text : (found : Result Cnf DimacsFault) (proof : List ℕ) → is_binary proof ≡ false → check_text found proof ≡ proof_text found proof
same_text (Ok F) proof form = ap (λ (b : Bool). cond b (binary_answer_text (check_binary_of F proof)) (answer_text (check_of F proof))) (sym form)
same_text (Err fault) proof form = refl

-- what is reported of a text is what is reported of a proof that is not in binary form
pub proof_report : (L : Limits) (input proof : List ℕ) (result : Result Report AllocError) → is_binary proof ≡ false → IfOk result (IsTextReport L input proof) → IfOk result (IsCheckReport L input proof)
proof_report L input proof (Err e) form is = tt
proof_report L input proof (Ok report) form is = record {
  verified = (
    λ zero. let h = is.verified.0 zero in (h.0, h.1, inl h.2),
    λ (G, spells, accepts). elim accepts [
      | inl text ↦ is.verified.1 (G, spells, text)
      | inr binary ↦ absurd (true≢false (sym (binary_form G proof binary) ∙ form))
    ],
  );
  status = is.status;
  text = is.text ∙ same_text (parse_within L input) proof form;
  no_proof = is.no_proof;
}

-- a text without a byte
pub nothing_given : (F : Cnf) → GivesCheck (Err (record { number = 13; line = 1; text = 0 })) (check_of F [])
nothing_given F = inr (check_text-end (proof_top F) false (map_of F) _ 1 [] (All-nil (λ b. is_lf b ≡ false)))

-- ---- the binary form

pub binary_report : (L : Limits) (input proof : List ℕ) (F : Cnf) (answer : Result (Unit {0}) CheckFault) (result : Result Report AllocError) → SpellsWithin L input F → is_binary proof ≡ true → GivesCheck answer (check_binary_of F proof)
    → IfOk result (λ r. r.stdout.items ≡ binary_answer_text answer) → IfOk result (λ r. r.status ≡ status_of answer) → IfOk result (λ r. r.proof ≡ None) → OnOk result (answer ≢ Err no_memory) → IfOk result (IsCheckReport L input proof)
binary_report L input proof F answer (Err e) read form gives text status none other = tt
binary_report L input proof F answer (Ok report) read form gives text status none other =
    let is : answer ≡ check_binary_of F proof = answer_is answer (check_binary_of F proof) gives other in
    record {
      verified = (
        λ zero. (F, read, inr (binary_checked_accepted binary_found_within (λ most bytes steps few h. binary_spelled_within most few steps bytes h) F proof (sym is ∙ passed answer (sym status ∙ zero)))),
        λ (G, spells, accepts).
            elim accepts [
              | inl text ↦ absurd (true≢false (sym form ∙ text_form G proof text))
              | inr binary ↦
                  let same : G ≡ F = formula_is L input F G read spells in
                  let well : check_binary_of F proof ≡ Ok tt = binary_accepted_checked binary_found_within (λ most bytes steps few h. binary_spelled_within most few steps bytes h) F proof read.0.vars (subst (λ H. AcceptsBinary H proof) same binary) in
                  status ∙ ap status_of (is ∙ well)
            ],
      );
      status = subst (λ n. (n ≡ 0) ⊎ (n ≡ 1)) (sym status) (one_of_two answer);
      text = text ∙ ap binary_answer_text is ∙ sym (ap (λ (b : Bool). cond b (binary_answer_text (check_binary_of F proof)) (answer_text (check_of F proof))) form) ∙ sym (ap (λ found. proof_text found proof) (spells_parse_within L input F read));
      no_proof = none;
    }

-- ---- the input's fault

-- a fault that is not want of memory is the input's
fault_stands : (fault : DimacsFault) (expected : Result Cnf DimacsFault) → Fails input_no_memory fault expected → fault.kind ≢ NoMemory → expected ≡ Err fault
fault_stands fault expected (inl none) other = absurd (other (ap (λ (f : DimacsFault). f.kind) none))
fault_stands fault expected (inr is) other = is

unspelled : {P : Type 0} (L : Limits) (input : List ℕ) (fault : DimacsFault) (F : Cnf) → parse_within L input ≡ Err fault → SpellsWithin L input F → P
unspelled L input fault F read spells = let other : parse_within L input ≡ Ok F = spells_parse_within L input F spells in absurd cc

pub input_text_report : (L : Limits) (input proof : List ℕ) (fault : DimacsFault) (result : Result Report AllocError) → Fails input_no_memory fault (parse_within L input)
    → IfOk result (λ r. r.stdout.items ≡ input_fault_text fault) → IfOk result (λ r. r.status ≡ 1) → IfOk result (λ r. r.proof ≡ None) → OnOk result (fault.kind ≢ NoMemory) → IfOk result (IsTextReport L input proof)
input_text_report L input proof fault (Err e) fails text status none other = tt
input_text_report L input proof fault (Ok report) fails text status none other =
    let read : parse_within L input ≡ Err fault = fault_stands fault (parse_within L input) fails other in
    record {
      verified = (λ zero. absurd (let one : 1 ≡ 0 = sym status ∙ zero in cc), λ (G, spells, accepts). unspelled L input fault G read spells);
      status = inr status;
      text = text ∙ sym (ap (λ found. check_text found proof) read);
      no_proof = none;
    }

pub input_report : (L : Limits) (input proof : List ℕ) (fault : DimacsFault) (result : Result Report AllocError) → Fails input_no_memory fault (parse_within L input)
    → IfOk result (λ r. r.stdout.items ≡ input_fault_text fault) → IfOk result (λ r. r.status ≡ 1) → IfOk result (λ r. r.proof ≡ None) → OnOk result (fault.kind ≢ NoMemory) → IfOk result (IsCheckReport L input proof)
input_report L input proof fault (Err e) fails text status none other = tt
input_report L input proof fault (Ok report) fails text status none other =
    let read : parse_within L input ≡ Err fault = fault_stands fault (parse_within L input) fails other in
    record {
      verified = (λ zero. absurd (let one : 1 ≡ 0 = sym status ∙ zero in cc), λ (G, spells, accepts). unspelled L input fault G read spells);
      status = inr status;
      text = text ∙ sym (ap (λ found. proof_text found proof) read);
      no_proof = none;
    }

-- ---- the truth

-- what is verified is unsatisfiable, in whichever form it was
pub check_true : Soundness → BinarySoundness → (L : Limits) (input proof : List ℕ) (r : Result Report AllocError) → IfOk r (IsCheckReport L input proof) → IfOk r (λ (x : Report). (x.status ≡ 0) → SpellsUnsatisfiable L input)
check_true sound binary_sound L input proof (Err e) is = tt
check_true sound binary_sound L input proof (Ok x) is = λ zero.
    let h = is.verified.0 zero in
    (h.0, h.1, elim h.2 [ inl text ↦ sound h.0 proof text | inr binary ↦ binary_sound h.0 proof binary ])

-- what is verified is unsatisfiable
pub verified_true : {E : Type 0} → Soundness → (L : Limits) (input proof : List ℕ) (r : Result Report E)
    → IfOk r (IsTextReport L input proof) → IfOk r (λ (x : Report). (x.status ≡ 0) → SpellsUnsatisfiable L input)
verified_true sound L input proof (Ok x) is = λ zero. let h = is.verified.0 zero in (h.0, h.1, sound h.0 proof h.2)
verified_true sound L input proof (Err fault) is = tt
