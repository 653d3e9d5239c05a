-- A proof in binary form that is taken in pieces.
use Rattle.std.proofs.Common.{◌≡◌, ◌≢◌, ◌⊎◌, ℕ, ◌+◌, List, [], ◌∷◌, ◌++◌, Some, None, Result, Ok, Err, inl, inr, refl, sym, ◌∙◌, ap, subst, append_assoc}
use Rattle.std.specs.Result.{result_err}
use Rattle.std.proofs.lemmas.List.{append-nil}
use Rattle.dimacs.specs.logic.Cnf.{Cnf}
use Rattle.lrat_text.specs.Faults.{fault_number}
use Rattle.lrat_text.specs.declared.fault.TextFault.{TextFault}
use Rattle.lrat_text.specs.declared.fault.TextFault.TheVariants.{BadToken, LineNotEnded, MissingZero, NumberTooLarge, NoMemory}
use Rattle.lrat_text.specs.declared.step.Step.{Step}
use Rattle.lrat_binary.specs.declared.step_sink.FeedFault.{FeedFault}
use Rattle.lrat_binary.specs.declared.step_sink.FeedFault.TheVariants.{Bytes, Step as OfStep}
use Rattle.lrat_binary.specs.Parser.{ReaderState, BetweenStepsWithin, InStep, ReadResult, read, with_steps, at_end}
use Rattle.lrat_binary.specs.StepSink.{TakesAll, HandsOn, Breaks, StepRefused, FeedStops}
use Rattle.lrat_check.specs.State.{State}
use Rattle.lrat_check.specs.ProofFaults.{GivesCheck, no_memory, refused}
use Rattle.lrat_check.specs.Refusals.{text_refusal}
use Rattle.lrat_check.specs.declared.line_checker.CheckFault.{CheckFault}
use Rattle.lrat_check.proofs.Passing.{gives}
use Rattle.proof_check.specs.FirstFault.{behind_steps, check_steps, check_reading, check_binary_of}
use Rattle.proof_check.specs.Stream.{BinaryProgress, Within, Failed, check_more, answer_in, HasTaken, TakesPiece}
use Rattle.proof_check.specs.inner.Stream.{LeadsTo, Reaches, feed_refusal}
use Rattle.proof_check.specs.inner.Steps.{StopsAt, Takes, Refuses}
use Rattle.proof_check.specs.declared.steps.StepChecker.{StepChecker}

-- ---- where steps lead

abbrev checked : StepChecker → ReadResult → Result (Unit {0}) CheckFault
checked s r = check_reading s.checker.refuted s.checker.live s.checker.top s.number r

-- steps that are passed, one after the other
leads_all : (steps : List Step) (s t : StepChecker) (r : ReadResult) → TakesAll Takes s steps t → checked s (with_steps steps r) ≡ checked t r
leads_all [] s t r e = ap (λ (c : StepChecker). checked c r) e
leads_all (step ∷ steps) s t r (m, (goes, follows), later) =
    goes.1 (λ refuted M top. check_steps refuted M top (s.number + 1) (steps ++ r.0) r.1)
    ∙ ap (λ n. check_steps m.checker.refuted m.checker.live m.checker.top n (steps ++ r.0) r.1) (sym follows)
    ∙ leads_all steps m t r later

pub hands_lead : (s : StepChecker) (begun : ReaderState) (piece : List ℕ) (t : StepChecker) (next : ReaderState) → HandsOn Takes s begun piece t next [] → LeadsTo (Within s.checker s.number begun) piece (Within t.checker t.number next)
hands_lead s begun piece t next h = λ more. ap (checked s) (h.reads more) ∙ leads_all h.steps s t (read next more) h.taken

-- ---- where bytes stop

refused_as : (fault : TextFault) (n : ℕ) → fault ≢ NoMemory → refused 1 n (fault_number fault) ≡ Err (text_refusal fault n)
refused_as BadToken n other = refl
refused_as LineNotEnded n other = refl
refused_as MissingZero n other = refl
refused_as NumberTooLarge n other = refl
refused_as NoMemory n other = absurd (other refl)

bytes_lead : (s : StepChecker) (begun : ReaderState) (piece : List ℕ) (t : StepChecker) (fault : TextFault) → fault ≢ NoMemory → Breaks Takes s begun piece t fault → LeadsTo (Within s.checker s.number begun) piece (Failed (text_refusal fault t.number))
bytes_lead s begun piece t fault other h = λ more.
    ap (checked s) (h.reads other more ∙ ap (λ (ss : List Step). (ss, Some fault)) (sym (append-nil h.steps)))
    ∙ leads_all h.steps s t ([], Some fault) h.taken
    ∙ refused_as fault t.number other

breaks_lead : (s : StepChecker) (begun : ReaderState) (piece : List ℕ) (t : StepChecker) (fault : TextFault) → Breaks Takes s begun piece t fault
    → (text_refusal fault t.number ≡ no_memory) ⊎ LeadsTo (Within s.checker s.number begun) piece (Failed (text_refusal fault t.number))
breaks_lead s begun piece t NoMemory h = inl refl
breaks_lead s begun piece t BadToken h = inr (bytes_lead s begun piece t BadToken (λ e. absurd cc) h)
breaks_lead s begun piece t LineNotEnded h = inr (bytes_lead s begun piece t LineNotEnded (λ e. absurd cc) h)
breaks_lead s begun piece t MissingZero h = inr (bytes_lead s begun piece t MissingZero (λ e. absurd cc) h)
breaks_lead s begun piece t NumberTooLarge h = inr (bytes_lead s begun piece t NumberTooLarge (λ e. absurd cc) h)

step_leads : (s : StepChecker) (begun : ReaderState) (piece : List ℕ) (t : StepChecker) (fault : CheckFault) (h : StepRefused Takes Refuses s begun piece t fault) → StopsAt h.before.checker h.before.number h.step fault
    → LeadsTo (Within s.checker s.number begun) piece (Failed fault)
step_leads s begun piece t fault h stops = λ more.
    let r = h.reads more in
    ap (checked s) (r.1 ∙ ap (λ (ss : List Step). (ss, r.0.1)) (append_assoc h.steps (h.step ∷ []) r.0.0))
    ∙ leads_all h.steps s h.before (with_steps (h.step ∷ []) r.0) h.taken
    ∙ stops (λ refuted M top. check_steps refuted M top (h.before.number + 1) r.0.0 r.0.1)

pub stops_lead : (s : StepChecker) (begun : ReaderState) (piece : List ℕ) (t : StepChecker) (fault : FeedFault CheckFault) → FeedStops Takes Refuses s begun piece t fault
    → (feed_refusal fault t.number ≡ no_memory) ⊎ LeadsTo (Within s.checker s.number begun) piece (Failed (feed_refusal fault t.number))
stops_lead s begun piece t (Bytes fault) h = breaks_lead s begun piece t fault h
stops_lead s begun piece t (OfStep fault) h = elim h.refused [ inl none ↦ inl none | inr stops ↦ inr (step_leads s begun piece t fault h stops) ]

-- ---- pieces

history : (old : BinaryProgress) (piece : List ℕ) (new : BinaryProgress) → (old ≡ Failed no_memory → new ≡ Failed no_memory) → Reaches old piece new
    → (F : Cnf) (bytes : List ℕ) → HasTaken F old bytes → HasTaken F new (bytes ++ piece)
history old piece new stays reaches F bytes (inl none) = inl (stays none)
history old piece new stays (inl none) F bytes (inr h) = inl none
history old piece new stays (inr leads) F bytes (inr h) = inr (λ more. ap (check_binary_of F) (append_assoc bytes piece more) ∙ h (piece ++ more) ∙ leads more)

pub takes_nothing : (fault : CheckFault) (piece : List ℕ) → TakesPiece (Failed fault) piece (Err fault) (Failed fault)
takes_nothing fault piece = record {
  answers = refl;
  stays = λ f e. refl;
  history = history (Failed fault) piece (Failed fault) (λ e. e) (inr (λ more. refl));
}

never : {P : Type 0} (s : State) (n : ℕ) (begun : ReaderState) (fault : CheckFault) → Within s n begun ≡ Failed fault → P
never s n begun fault e = absurd cc

pub takes_within : (s : State) (n : ℕ) (begun : ReaderState) (piece : List ℕ) (new : BinaryProgress) → Reaches (Within s n begun) piece new → TakesPiece (Within s n begun) piece (answer_in new) new
takes_within s n begun piece new reaches = record {
  answers = refl;
  stays = λ f e. never s n begun f e;
  history = history (Within s n begun) piece new (λ e. never s n begun no_memory e) reaches;
}

pub fails : (old : BinaryProgress) (piece : List ℕ) (fault : CheckFault) → (fault ≡ no_memory) ⊎ LeadsTo old piece (Failed fault) → Reaches old piece (Failed fault)
fails old piece fault (inl e) = inl (ap Failed e)
fails old piece fault (inr leads) = inr leads

-- ---- the end

read-end : (begun : ReaderState) → read begun [] ≡ at_end begun
unfolding read
read-end begun = refl

-- what is answered at the end
pub ends : (s : State) (n : ℕ) (begun : ReaderState) (rest : Result (Unit {0}) TextFault) → at_end begun ≡ ([], result_err rest) → behind_steps s.refuted n (result_err rest) ≡ check_more (Within s n begun) []
ends s n begun rest e = sym (ap (check_reading s.refuted s.live s.top n) (read-end begun ∙ e))

-- what is begun is not want of memory
pub not_memory : (begun : ReaderState) (rest : Result (Unit {0}) TextFault) → at_end begun ≡ ([], result_err rest) → rest ≢ Err NoMemory
not_memory (BetweenStepsWithin most) rest e is =
    let f : None ≡ Some NoMemory = ap (λ (r : ReadResult). r.1) e ∙ ap result_err is in absurd cc
not_memory (InStep part value weight) rest e is =
    let f : Some LineNotEnded ≡ Some NoMemory = ap (λ (r : ReadResult). r.1) e ∙ ap result_err is in absurd cc

-- ---- a whole proof

pub finished : (F : Cnf) (p : BinaryProgress) (bytes : List ℕ) (r : Result (Unit {0}) CheckFault) → HasTaken F p bytes → r ≡ check_more p [] → GivesCheck r (check_binary_of F bytes)
finished F p bytes r (inl none) is = subst (λ x. GivesCheck x (check_binary_of F bytes)) (sym (is ∙ ap (λ q. check_more q []) none)) (inl refl)
finished F p bytes r (inr h) is = gives r (check_binary_of F bytes) (ap (check_binary_of F) (sym (append-nil bytes)) ∙ h [] ∙ sym is)

pub stopped : (F : Cnf) (p : BinaryProgress) (done later whole : List ℕ) (fault : CheckFault) → whole ≡ done ++ later → HasTaken F p done → Err fault ≡ answer_in p → GivesCheck (Err fault) (check_binary_of F whole)
stopped F (Within s n begun) done later whole fault split taken is = absurd (let none : Err fault ≡ Ok tt = is in cc)
stopped F (Failed f) done later whole fault split taken is = at taken
  where
    same : f ≡ fault
    same = let e : Err fault ≡ Err f = is in cc

    at : HasTaken F (Failed f) done → GivesCheck (Err fault) (check_binary_of F whole)
    at (inl none) = inl (sym same ∙ (let e : Failed f ≡ Failed no_memory = none in cc))
    at (inr h) = inr (ap (check_binary_of F) split ∙ h later ∙ sym is)
