-- One more piece of a proof.
use Rattle.std.proofs.Common.{◌≡◌, ◌⊎◌, ℕ, Bool, IfOk, OnOk, IfErr, true, false, List, [], ◌∷◌, ◌++◌, Result, Ok, Err, inl, inr, refl, sym, ◌∙◌, ap, subst}
use Rattle.std.proofs.lemmas.List.{append-nil}
use Rattle.dimacs.specs.logic.Cnf.{Cnf}
use Rattle.lrat_text.specs.Proof.{Accepts}
use Rattle.lrat_check.specs.ProofFaults.{no_memory, check_of, GivesCheck}
use Rattle.lrat_check.specs.Stream
use Rattle.lrat_check.specs.Stream.{CheckProgress, Within, Failed, answer_in, check_more, TakesPiece}
use Rattle.lrat_check.specs.declared.line_checker.CheckFault.{CheckFault}
use Rattle.lrat_check.proofs.Streams.{finished, stopped}
use Rattle.lrat_trim.specs.TrimmedProof.{TrimProgress, HasTaken, IsTrimmed, Trims, progress_of}
use Rattle.lrat_trim.specs.declared.trimmer.Trimmed.{Trimmed}

failed : (p : CheckProgress) (fault : CheckFault) → Err fault ≡ answer_in p → p ≡ Failed fault
failed (Within most s line begun) fault e = absurd (let other : Err fault ≡ Ok tt = e in cc)
failed (Failed f) fault e = ap Failed (let same : f ≡ fault = cc in same)

-- the checker refuses the piece, so it is not held
pub refused : (f : Cnf) (text piece : List ℕ) (cut : Bool) (old new : CheckProgress) (fault : CheckFault) → cut ≡ false → TakesPiece old piece (Err fault) new
    → (F : Cnf) (bytes : List ℕ) → HasTaken F (record { formula = f; text = text; progress = progress_of cut old }) bytes
    → HasTaken F (record { formula = f; text = text; progress = progress_of cut new }) (bytes ++ piece)
refused f text piece true old new fault runs takes F bytes h = absurd cc
refused f text piece false old new fault runs takes F bytes h = record {
  formula = h.formula;
  checked = takes.history F bytes h.checked;
  held = inl (fault, failed new fault takes.answers);
}

-- a fault is no answer to a piece that is taken
still_held : (old new : CheckProgress) (text bytes piece : List ℕ) → TakesPiece old piece (Ok tt) new → ((fault : CheckFault) × (old ≡ Failed fault)) ⊎ (text ≡ bytes) → text ++ piece ≡ bytes ++ piece
still_held old new text bytes piece takes (inl (fault, e)) = absurd (let other : Ok tt ≡ Err fault = takes.answers ∙ ap answer_in (takes.stays fault e ∙ e) in cc)
still_held old new text bytes piece takes (inr same) = ap (λ (t : List ℕ). t ++ piece) same

-- the piece is checked and held
pub fed : (f : Cnf) (text more piece : List ℕ) (cut : Bool) (old new : CheckProgress) → cut ≡ false → more ≡ text ++ piece → TakesPiece old piece (Ok tt) new
    → (F : Cnf) (bytes : List ℕ) → HasTaken F (record { formula = f; text = text; progress = progress_of cut old }) bytes
    → HasTaken F (record { formula = f; text = more; progress = progress_of cut new }) (bytes ++ piece)
fed f text more piece true old new runs grown takes F bytes h = absurd cc
fed f text more piece false old new runs grown takes F bytes h = record {
  formula = h.formula;
  checked = takes.history F bytes h.checked;
  held = inr (grown ∙ still_held old new text bytes piece takes h.held);
}

-- ---- the end

-- the text is held where the checker answers that it is accepted
held_all : (p : CheckProgress) (text proof : List ℕ) → Ok tt ≡ check_more p [] → ((fault : CheckFault) × (p ≡ Failed fault)) ⊎ (text ≡ proof) → text ≡ proof
held_all p text proof e (inl (fault, failed_by)) = absurd (let other : Ok tt ≡ Err fault = e ∙ ap (λ q. check_more q []) failed_by in cc)
held_all p text proof e (inr same) = same

-- a proof that is accepted is trimmed
pub trims : (f : Cnf) (text : List ℕ) (cut : Bool) (p : CheckProgress) (t : Trimmed) → cut ≡ false → Ok tt ≡ check_more p []
    → ((F : Cnf) (proof : List ℕ) → check_of F proof ≡ Ok tt → Accepts F proof) → (Accepts f text → IsTrimmed f text t)
    → (F : Cnf) (proof : List ℕ) → HasTaken F (record { formula = f; text = text; progress = progress_of cut p }) proof → Accepts F proof × IsTrimmed F proof t
trims f text true p t runs e exact trimmed F proof h = absurd cc
trims f text false p t runs e exact trimmed F proof h =
    let checked : check_of F proof ≡ Ok tt = finished F p proof (Ok tt) h.checked e in
    let accepted : Accepts F proof = exact F proof checked in
    let same : text ≡ proof = held_all p text proof e h.held in
    let own : Accepts f text = subst (λ (G : Cnf). Accepts G text) (sym h.formula) (subst (Accepts F) (sym same) accepted) in
    (accepted, subst (λ (G : Cnf). IsTrimmed G proof t) h.formula (subst (λ (x : List ℕ). IsTrimmed f x t) same (trimmed own)))

-- any other proof has the fault that is answered
pub refuses : (f : Cnf) (text : List ℕ) (cut : Bool) (p : CheckProgress) (fault : CheckFault) → cut ≡ false → Err fault ≡ check_more p []
    → (F : Cnf) (proof : List ℕ) → HasTaken F (record { formula = f; text = text; progress = progress_of cut p }) proof → (fault ≡ no_memory) ⊎ (check_of F proof ≡ Err fault)
refuses f text true p fault runs e F proof h = absurd cc
refuses f text false p fault runs e F proof h = finished F p proof (Err fault) h.checked e

-- ---- what trimming answers

pub trims_ok : (F : Cnf) (proof : List ℕ) (r : Result Trimmed CheckFault) → Trims F proof r → IfOk r (IsTrimmed F proof)
trims_ok F proof (Ok t) h = h.1
trims_ok F proof (Err fault) h = tt

pub trims_accepted : (F : Cnf) (proof : List ℕ) (r : Result Trimmed CheckFault) → Trims F proof r → OnOk r (Accepts F proof)
trims_accepted F proof (Ok t) h = h.0
trims_accepted F proof (Err fault) h = tt

pub trims_err : (F : Cnf) (proof : List ℕ) (r : Result Trimmed CheckFault) → Trims F proof r → IfErr r (λ fault. (fault ≡ no_memory) ⊎ (check_of F proof ≡ Err fault))
trims_err F proof (Ok t) h = tt
trims_err F proof (Err fault) h = h

-- an accepted proof has no fault but want of memory
pub no_fault : (F : Cnf) (proof : List ℕ) (fault : CheckFault) → (Accepts F proof → check_of F proof ≡ Ok tt) → Accepts F proof → (fault ≡ no_memory) ⊎ (check_of F proof ≡ Err fault) → fault ≡ no_memory
no_fault F proof fault exact accepts (inl none) = none
no_fault F proof fault exact accepts (inr e) = absurd (let other : Ok tt ≡ Err fault = sym (exact accepts) ∙ e in cc)

pub trims_complete : (F : Cnf) (proof : List ℕ) (r : Result Trimmed CheckFault) → (Accepts F proof → check_of F proof ≡ Ok tt) → Trims F proof r → Accepts F proof → IfErr r (λ fault. fault ≡ no_memory)
trims_complete F proof (Ok t) exact h accepts = tt
trims_complete F proof (Err fault) exact h accepts = no_fault F proof fault exact accepts h

-- a piece is refused for a fault of the whole text
pub piece_fault : (F : Cnf) (proof : List ℕ) (t : TrimProgress) (fault : CheckFault) → HasTaken F t proof → Err fault ≡ answer_in t.progress → (fault ≡ no_memory) ⊎ (check_of F proof ≡ Err fault)
piece_fault F proof t fault h e = stopped F t.progress proof [] proof fault (sym (append-nil proof)) h.checked e
