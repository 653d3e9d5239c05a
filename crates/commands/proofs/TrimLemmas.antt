-- A proof that is trimmed, and its first fault.
use Rattle.std.specs.Prelude.{◌≡◌, ◌≢◌, ◌==◌, length, ◌⊎◌, ◌++◌, ℕ, Bool, true, false, List, [], ◌∷◌, Option, Result, Ok, Err, IfOk, OnOk, refl, is_ok, if◌then◌else◌}
use Rattle.std.proofs.Common.{sym, ◌∙◌, ap, subst, inl, inr, append_assoc, append-nil}
use Rattle.commands.specs.Known.{HoldsOf}
use Rattle.commands.specs.Trim.{TellsTrimming, Trims}
use Rattle.commands.specs.declared.trim.Faulty.{Faulty}
use Rattle.commands.specs.inner.Trim.{IsFaulty}
use Rattle.commands.proofs.KnownLemmas.{of_any}
use Rattle.commands.proofs.OfLemmas.{of_map}
use Rattle.dimacs.specs.logic.Cnf.{Cnf}
use Rattle.dimacs.specs.logic.Limits.{Limits}
use Rattle.dimacs.specs.text.Parser.{no_memory as no_input_memory, parse_within}
use Rattle.dimacs.specs.text.Rows.{Fails}
use Rattle.dimacs.specs.declared.fault.DimacsFault.{DimacsFault}
use Rattle.leaves.specs.Leaf.{Prints}
use Rattle.reports.specs.Faults.{input_fault_text}
use Rattle.text_or_binary.specs.FormTrim.{HasTakenForm}
use Rattle.text_or_binary.specs.declared.form_trim.FormTrimming.{FormTrimming}
use Rattle.lrat_check.specs.ProofFaults.{check_of, no_memory}
use Rattle.lrat_check.specs.Stream as stream
use Rattle.lrat_check.specs.Stream.{CheckProgress, Failed, Within, answer_in}
use Rattle.lrat_check.specs.declared.line_checker.CheckFault.{CheckFault}
use Rattle.lrat_forms.specs.Forms.{is_binary, text_form_within}
use Rattle.lrat_text.specs.Proof.{proof_top}
use Rattle.lrat_forms.specs.Pieces.{is_cut, text_behind}
use Rattle.reports.specs.declared.report.Report.{Report}
use Rattle.lrat_trim.specs.Reports.{trim_text, trimmed_text}
use Rattle.lrat_trim.specs.TrimmedProof as of_text
use Rattle.lrat_trim.specs.declared.trimmer.Trimmed.{Trimmed}

err_is : {T : Type 0} (a b : CheckFault) (x : Result T CheckFault) → x ≡ Err a → x ≡ Err b → a ≡ b
err_is a b x h k = cc

-- the first byte tells the form
form_stays : (bytes more : List ℕ) → ¬ (bytes ≡ []) → is_binary (bytes ++ more) ≡ is_binary bytes
form_stays [] more some = absurd (some refl)
form_stays (b ∷ bytes) more some = refl

-- what a checker that failed answers to a text, whatever follows
failed_is : (F : Cnf) (p : CheckProgress) (fault : CheckFault) (r : Result (Unit {0}) CheckFault) (text : List ℕ) → r ≡ Err fault → r ≡ answer_in p → stream.HasTaken F p text
    → (fault ≡ no_memory) ⊎ ((more : List ℕ) → check_of F (text ++ more) ≡ Err fault)
failed_is F (Within most s line begun) fault r text e is h = let clash : Ok tt ≡ Err fault = sym is ∙ e in absurd (cc)
failed_is F (Failed g) fault r text e is (inl wants) =
    inl (err_is fault no_memory r e (is ∙ ap answer_in wants))
failed_is F (Failed g) fault r text e is (inr tells) =
    inr (λ more. tells more ∙ sym is ∙ e)

faulty_uncut : (F : Cnf) (t : FormTrimming) (f : Faulty) (r : Result (Unit {0}) CheckFault) (bytes : List ℕ)
    → ¬ (bytes ≡ []) → r ≡ Err f.fault → is_cut t.form.stage ≡ false → r ≡ answer_in t.trimming.progress → f.is_binary ≡ is_binary bytes → HasTakenForm F t bytes → IsFaulty F bytes f
faulty_uncut F t f r bytes some e uncut answers form h =
    elim (failed_is F t.trimming.progress f.fault r h.text e answers h.taken.checked) [
      | inl wants ↦ inl wants
      | inr fails ↦ inr (λ more.
          (ap (check_of F) (h.given.gives uncut more) ∙ fails (text_behind t.form.stage t.form.reader t.form.writer.top more), form_stays bytes more some ∙ sym form))
    ]

faulty_at : (F : Cnf) (t : FormTrimming) (f : Faulty) (r : Result (Unit {0}) CheckFault) (bytes : List ℕ) (cut : Bool)
    → ¬ (bytes ≡ []) → r ≡ Err f.fault → is_cut t.form.stage ≡ cut
    → (is_cut t.form.stage ≡ false → r ≡ answer_in t.trimming.progress) → (is_cut t.form.stage ≡ true → r ≡ Err no_memory)
    → (is_cut t.form.stage ≡ false → f.is_binary ≡ is_binary bytes) → HasTakenForm F t bytes → IsFaulty F bytes f
faulty_at F t f r bytes true some e cut answers wanting form h = inl (err_is f.fault no_memory r e (wanting cut))
faulty_at F t f r bytes false some e cut answers wanting form h = faulty_uncut F t f r bytes some e cut (answers cut) (form cut) h

pub faulty_of : (F : Cnf) (t : FormTrimming) (f : Faulty) (r : Result (Unit {0}) CheckFault) (bytes : List ℕ)
    → ¬ (bytes ≡ []) → r ≡ Err f.fault
    → (is_cut t.form.stage ≡ false → r ≡ answer_in t.trimming.progress) → (is_cut t.form.stage ≡ true → r ≡ Err no_memory)
    → (is_cut t.form.stage ≡ false → f.is_binary ≡ is_binary bytes) → HasTakenForm F t bytes → IsFaulty F bytes f
faulty_of F t f r bytes some e answers wanting form h = faulty_at F t f r bytes (is_cut t.form.stage) some e refl answers wanting form h

-- nothing changes after a fault
pub faulty_more : (F : Cnf) (bytes more : List ℕ) (f : Faulty) → IsFaulty F bytes f → IsFaulty F (bytes ++ more) f
faulty_more F bytes more f (inl wants) = inl wants
faulty_more F bytes more f (inr fails) = inr (λ rest.
    let P : List ℕ → Type 0 = λ all. (check_of F (text_form_within (proof_top F) all) ≡ Err f.fault) × (is_binary all ≡ f.is_binary) in
    subst P (sym (append_assoc bytes more rest)) (fails (more ++ rest)))

-- ---- the report
pub tells_right : (F : Cnf) (proof : List ℕ) (b : Bool) (found : Result Trimmed CheckFault) (r : Report)
    → of_text.Trims F (text_form_within (proof_top F) proof) found → b ≡ is_binary proof → found ≢ Err no_memory
    → r.stdout.items ≡ trim_text b found → r.status ≡ (if is_ok found then 0 else 1) → r.proof ≡ trimmed_text found → TellsTrimming F proof r
tells_right F proof b found r trims form other text status trimmed = record {
  found = found;
  trims = trims;
  remembers = other;
  text = text ∙ ap (λ x. trim_text x found) form;
  status = status;
  trimmed = trimmed;
}

right_form : (F : Cnf) (proof : List ℕ) (b cut : Bool) (found : Result Trimmed CheckFault)
    → (cut ≡ false → b ≡ is_binary proof) → (cut ≡ true → found ≡ Err no_memory) → found ≢ Err no_memory → b ≡ is_binary proof
right_form F proof b true found form wanting other = absurd (other (wanting refl))
right_form F proof b false found form wanting other = form refl

-- a proof without a fault before its end
pub tells_uncut : (F : Cnf) (proof : List ℕ) (b cut : Bool) (found : Result Trimmed CheckFault) (r : Report)
    → of_text.Trims F (text_form_within (proof_top F) proof) found → (cut ≡ false → b ≡ is_binary proof) → (cut ≡ true → found ≡ Err no_memory) → found ≢ Err no_memory
    → r.stdout.items ≡ trim_text b found → r.status ≡ (if is_ok found then 0 else 1) → r.proof ≡ trimmed_text found → TellsTrimming F proof r
tells_uncut F proof b cut found r trims form wanting other text status trimmed =
    tells_right F proof b found r trims (right_form F proof b cut found form wanting other) other text status trimmed

-- a proof with a fault
pub tells_faulty : (F : Cnf) (proof : List ℕ) (f : Faulty) (found : Result Trimmed CheckFault) (r : Report)
    → found ≡ Err f.fault → IsFaulty F proof f → found ≢ Err no_memory
    → r.stdout.items ≡ trim_text f.is_binary found → r.status ≡ (if is_ok found then 0 else 1) → r.proof ≡ trimmed_text found → TellsTrimming F proof r
tells_faulty F proof f found r e (inl wants) other text status trimmed = absurd (other (e ∙ ap Err wants))
tells_faulty F proof f found r e (inr fails) other text status trimmed =
    let Whole : List ℕ → Type 0 = λ all. (check_of F (text_form_within (proof_top F) all) ≡ Err f.fault) × (is_binary all ≡ f.is_binary) in
    let is = subst Whole (append-nil proof) (fails []) in
    let Trimming : Result Trimmed CheckFault → Type 0 = of_text.Trims F (text_form_within (proof_top F) proof) in
    tells_right F proof f.is_binary found r (subst Trimming (sym e) (inr is.0)) (sym is.1) other text status trimmed

pub faulty_told : {E : Type 0} (F : Cnf) (proof : List ℕ) (f : Faulty) (result : Result Report E) → IsFaulty F proof f
    → (let found : Result Trimmed CheckFault = Err f.fault in IfOk result (λ r. r.stdout.items ≡ trim_text f.is_binary found))
    → (let found : Result Trimmed CheckFault = Err f.fault in IfOk result (λ r. r.status ≡ (if is_ok found then 0 else 1)))
    → (let found : Result Trimmed CheckFault = Err f.fault in IfOk result (λ r. r.proof ≡ trimmed_text found))
    → (let found : Result Trimmed CheckFault = Err f.fault in OnOk result (found ≢ Err no_memory)) → IfOk result (TellsTrimming F proof)
faulty_told F proof f (Ok r) h text status trimmed other = tells_faulty F proof f (Err f.fault) r refl h other text status trimmed
faulty_told F proof f (Err e) h text status trimmed other = tt

pub some_behind : (bytes piece : List ℕ) (empty : Bool) → empty ≡ (length piece == 0) → empty ≡ false → ¬ (bytes ++ piece ≡ [])
some_behind bytes [] empty is no_byte e = let clash : false ≡ true = sym no_byte ∙ is in absurd (cc)
some_behind [] (x ∷ xs) empty is no_byte e = cc
some_behind (y ∷ ys) (x ∷ xs) empty is no_byte e = cc

pub fails_is : (L : Limits) (fault : DimacsFault) (text : List ℕ) → Fails no_input_memory fault (parse_within L text) → fault ≢ no_input_memory → parse_within L text ≡ Err fault
fails_is L fault text (inl e) other = absurd (other e)
fails_is L fault text (inr e) other = e

pub input_refused : {E : Type 0} (L : Limits) (known proof : Option (List ℕ)) (fault : DimacsFault) (result : Result Report E) → HoldsOf known (λ text. Fails no_input_memory fault (parse_within L text))
    → IfOk result (Prints 1 (input_fault_text fault)) → OnOk result (fault ≢ no_input_memory) → IfOk result (λ r. HoldsOf known (λ text. HoldsOf proof (λ bytes. Trims L text bytes r)))
input_refused L known proof fault (Ok r) h prints other =
    of_map (λ text. Fails no_input_memory fault (parse_within L text)) (λ text. HoldsOf proof (λ bytes. Trims L text bytes r)) known
    (λ text fails. of_any (λ bytes. Trims L text bytes r) proof (λ bytes. inl (fault, fails_is L fault text fails other, prints))) h
input_refused L known proof fault (Err e) h prints other = tt
