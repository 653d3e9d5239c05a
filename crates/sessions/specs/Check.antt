-- A check of a session whose events and whose proof come in pieces: the bytes that it has taken, and its answer at the end.
use Rattle.std.specs.Prelude.{◌≡◌, ◌⊎◌, ℕ, Bool, true, false, List, [], ◌++◌, Option, Some, None, Result, Ok, Err}
use Rattle.dimacs.specs.logic.Limits.{Limits}
use Rattle.dimacs.specs.text.Rows.{◌>>=◌}
use Rattle.dimacs.specs.text.Words.{lines}
use Rattle.icnf.specs.Parser as icnf
use Rattle.icnf.specs.declared.fault.IcnfFault.{IcnfFault}
use Rattle.lrat_check.specs.ProofFaults.{no_memory}
use Rattle.lrat_check.specs.declared.line_checker.CheckFault.{CheckFault}
use Rattle.lrat_text.specs.Lines.{IsOpen}
use Rattle.sessions.specs.Answers.{Event, tally}
use Rattle.sessions.specs.Events.{events_within, read_lines}
use Rattle.sessions.specs.Texts.{session_within}
use Rattle.sessions.specs.Follows.{Follows}
use Rattle.sessions.specs.Sides.{Ends}
use Rattle.sessions.specs.declared.check.SessionCheck.{SessionCheck}
use Rattle.sessions.specs.declared.check.SessionFault.{SessionFault}
use Rattle.sessions.specs.declared.check.SessionFault.TheVariants as fault
use Rattle.sessions.specs.declared.check.Wants.{Wants}
use Rattle.sessions.specs.declared.check.Wants.TheVariants as wants
use Rattle.sessions.specs.declared.proof_side.Phase.{Phase}
use Rattle.sessions.specs.declared.proof_side.Phase.TheVariants as phase
use Rattle.sessions.specs.declared.tally.Tally.{Tally}

-- ---- what has been taken
-- whether the events have ended, the check, bytes `more`: the events that are still to come if these bytes of the events follow, or the
-- first fault
abbrev pub coming_by : Bool → SessionCheck → List ℕ → Result (List Event) IcnfFault
coming_by true x more = Ok []
coming_by false x more = read_lines x.read (lines (x.begun.items ++ more)) x.events.progress

-- the events E, and then the later ones; or the first fault
abbrev pub front : List Event → Result (List Event) IcnfFault → Result (List Event) IcnfFault
front E later = later >>= λ D. Ok (E ++ D)

-- limits, fault of the events, bytes of the events taken, events E, the check: within the limits the bytes are read as E and the line that
-- has not ended; or the fault is that of every text that begins with the bytes, or memory was refused
abbrev pub ReadsBy : Limits → Option IcnfFault → List ℕ → List Event → SessionCheck → Type 0
ReadsBy L None e E x = IsOpen x.begun.items × ((more : List ℕ) → Ends x.proof.no_event more → events_within L (e ++ more) ≡ front E (coming_by x.proof.no_event x more))
ReadsBy L (Some f) e E x = (f ≡ icnf.no_memory) ⊎ ((more : List ℕ) → Ends x.proof.no_event more → events_within L (e ++ more) ≡ Err f)

-- limits L, bytes of the events, bytes of the proof, the check: the check has taken these bytes, those of the events within L
pub record HasTaken (L : Limits) (e p : List ℕ) (x : SessionCheck) : Type 0 where
  pub events : List Event
  pub reads : ReadsBy L x.fault e events x
  pub follows : Follows L events p x.proof

-- ---- what is wanted
-- the input wanted if no line of the proof is wanted: the events, unless they have ended (true)
abbrev pub still : Bool → Wants
still true = wants.Nothing
still false = wants.Events

-- fault of the events, phase of the proof, whether the events have ended: the input that is wanted next
abbrev pub wanted_by : Option IcnfFault → Phase → Bool → Wants
wanted_by (Some f) p none = wants.Nothing
wanted_by None phase.Reading none = wants.Proof
wanted_by None phase.Clause none = still none
wanted_by None phase.Query none = still none
wanted_by None phase.Ended none = still none
wanted_by None (phase.Stopped fault) none = still none

-- the input that the check wants next
abbrev pub wanted : SessionCheck → Wants
wanted x = wanted_by x.fault x.proof.phase x.proof.no_event

-- ---- the end
-- whether the events have ended
abbrev pub events_ended : SessionCheck → Bool
events_ended x = x.proof.no_event

-- whether the proof has ended
abbrev pub proof_ended : SessionCheck → Bool
proof_ended x = x.proof.no_byte

-- a call ends neither the events nor the proof
pub record KeepsEnds (old new : SessionCheck) : Type 0 where
  pub events : events_ended new ≡ events_ended old
  pub proof : proof_ended new ≡ proof_ended old

-- bytes of the events, bytes of the proof, the check, P: P holds of both texts. A text that has not ended may have any bytes after those
-- taken
abbrev pub OfTexts : List ℕ → List ℕ → SessionCheck → (List ℕ → List ℕ → Type 0) → Type 0
OfTexts e p x P = (d b : List ℕ) → Ends (events_ended x) d → Ends (proof_ended x) b → P (e ++ d) (p ++ b)

-- limits, fault, counts, text of the events, text of the proof: the events have no fault within the limits, and beside them the proof has
-- this first fault, or none, after answers of these counts
abbrev pub HasOutcome : Limits → Option CheckFault → Tally → List ℕ → List ℕ → Type 0
HasOutcome L f counts events proof = (E : List Event) × (events_within L events ≡ Ok E) × ((session_within L E proof).fault ≡ f) × (counts ≡ tally (session_within L E proof).answers)

-- limits, bytes of the events, bytes of the proof, the check, the answer of `finish`: the counts of the answers, if neither text has a
-- fault; the first fault of the events, or that of the proof, or that memory was refused; or that an input is still wanted
abbrev pub Finishes : Limits → List ℕ → List ℕ → SessionCheck → Result Tally SessionFault → Type 0
Finishes L e p x (Ok counts) = OfTexts e p x (HasOutcome L None counts)
Finishes L e p x (Err (fault.Events f)) = (f ≡ icnf.no_memory) ⊎ OfTexts e p x (λ events proof. events_within L events ≡ Err f)
Finishes L e p x (Err (fault.Proof f before)) = (f ≡ no_memory) ⊎ OfTexts e p x (HasOutcome L (Some f) before)
Finishes L e p x (Err fault.Unfinished) = ¬ (wanted x ≡ wants.Nothing)
