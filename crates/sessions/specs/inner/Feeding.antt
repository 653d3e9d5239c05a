-- What a check does with a line of events.
use Rattle.std.specs.Prelude.{◌≡◌, ◌⊎◌, ℕ, ◌+◌, Bool, true, false, [], Option, Some, None, Ok}
use Rattle.dimacs.specs.text.Rows.{Fails}
use Rattle.dimacs.specs.text.Words.{words_of}
use Rattle.icnf.specs.Parser as icnf
use Rattle.icnf.specs.declared.fault.IcnfFault.{IcnfFault}
use Rattle.icnf.specs.declared.fault.Kind.TheVariants.{NoHeader}
use Rattle.sessions.specs.Answers.{Event}
use Rattle.sessions.specs.Events.{read_row}
use Rattle.sessions.specs.Sides.{IsHigh}
use Rattle.sessions.specs.inner.Sides.{Hears}
use Rattle.sessions.specs.declared.check.SessionCheck.{SessionCheck}
use Rattle.sessions.specs.declared.proof_side.ProofSide.{ProofSide}

-- event of a line, proof's sides before and after: the event is handed to the proof's side, if the line has one
abbrev pub HearsRow : Option Event → ProofSide → ProofSide → Type 0
HearsRow None old new = new ≡ old
HearsRow (Some e) old new = IsHigh old.phase old.lines.known → Hears old e new

-- checks before and after: the line in `begun` is read without a fault, and its event is handed to the proof's side
pub record Passes (old new : SessionCheck) : Type 0 where
  pub event : Option Event
  pub fine : new.fault ≡ None
  pub row : read_row (old.read + 1) (words_of old.begun.items) old.events.progress ≡ Ok (new.events.progress, event)
  pub read : new.read ≡ old.read + 1
  pub begun : new.begun.items ≡ []
  pub hears : HearsRow event old.proof new.proof

-- checks before and after: the line in `begun` has a fault, which is kept; or memory was refused
pub record Faults (old new : SessionCheck) : Type 0 where
  pub fault : IcnfFault
  pub is : new.fault ≡ Some fault
  pub fails : Fails icnf.no_memory fault (read_row (old.read + 1) (words_of old.begun.items) old.events.progress)
  pub proof : new.proof ≡ old.proof

-- checks before and after: the line in `begun` is read, or has a fault, which is kept
abbrev pub EndsRow : SessionCheck → SessionCheck → Type 0
EndsRow old new = Faults old new ⊎ Passes old new

-- fault of the events, whether the header was read, number of lines: the fault of events that end here
abbrev pub closing : Option IcnfFault → Bool → ℕ → Option IcnfFault
closing (Some fault) headed n = Some fault
closing None true n = None
closing None false n = Some (record { kind = NoHeader; line = n })
