-- What the calls of a proof's side do.
use Rattle.std.specs.Prelude.{◌≡◌, ◌⊎◌, ℕ, ◌+◌, Bool, true, false, List, [], ◌∷◌, ◌++◌, Option, if◌then◌else◌}
use Rattle.dimacs.specs.logic.Limits.{Limits}
use Rattle.dimacs.specs.logic.Literal.{Literal}
use Rattle.lrat_check.specs.declared.line_checker.CheckFault.{CheckFault}
use Rattle.sessions.specs.Answers.{Event, Given, Asked, Answer, counted}
use Rattle.sessions.specs.Lines.{line_within}
use Rattle.sessions.specs.Texts.{begun, behind, going_on, lines_top, listed, take_read, text_from}
use Rattle.sessions.specs.View.{reached_clause, state_of}
use Rattle.sessions.specs.Sides.{Ends, IsBroken, IsHigh, IsResting, later}
use Rattle.sessions.specs.inner.Acting.{no_answers}
use Rattle.sessions.specs.declared.event_lines.Sent.{Sent}
use Rattle.sessions.specs.declared.event_lines.Sent.TheVariants as sent
use Rattle.sessions.specs.declared.known.Came.{Came}
use Rattle.sessions.specs.declared.known.Came.TheVariants as came
use Rattle.sessions.specs.declared.proof_lines.ProofLines.{ProofLines}
use Rattle.sessions.specs.declared.proof_side.Phase.{Phase}
use Rattle.sessions.specs.declared.proof_side.Phase.TheVariants as phase
use Rattle.sessions.specs.declared.proof_side.ProofSide.{ProofSide}

-- line number (from 1), number of the fault, number of the fault of the line's text: the fault of the proof
abbrev pub fault_at : ℕ → ℕ → ℕ → CheckFault
fault_at line number text = record { number = number; line = line; text = text }

-- ---- a line
-- whether the events have ended, line number (from 1), phase: the phase that waits for an event; fault 18 if the events have ended
abbrev pub awaiting : Bool → ℕ → Phase → Phase
awaiting none line p = if none then phase.Stopped (fault_at line 18 0) else p

-- proof's sides before and after: the next line is wanted; or memory was refused, also if the line's number is above 64 bits
abbrev pub MovesOn : ProofSide → ProofSide → Type 0
MovesOn old new = IsBroken new ⊎ (new ≡ record old { phase = phase.Reading; line = old.line + 1 })

-- what a line waits for, proof's sides before and after: the next line is wanted, or the event is awaited
abbrev pub Moves : Came → ProofSide → ProofSide → Type 0
Moves came.Goes old new = MovesOn old new
Moves came.Clause old new = new ≡ record old { phase = awaiting old.no_event old.line phase.Clause }
Moves came.Query old new = new ≡ record old { phase = awaiting old.no_event old.line phase.Query }

-- proof's sides before and after: the line in `begun` is taken, and the proof answers the same from here on
pub record TakesLine (old new : ProofSide) : Type 0 where
  pub answer : Option Answer
  pub tally : new.lines.known.tally ≡ counted old.lines.known.tally (listed answer)
  pub high : IsHigh new.phase new.lines.known
  pub begun : new.begun.items ≡ []
  pub no_event : new.no_event ≡ old.no_event
  pub no_byte : new.no_byte ≡ old.no_byte
  pub is : (D : List Event) (pieces : List (List ℕ)) → Ends old.no_event D
      → going_on (take_read (state_of old.lines.known) (line_within (lines_top old.lines.known.limits) old.begun.items)) old.line D (λ t G. text_from t (old.line + 1) G pieces) ≡ behind (listed answer) (later new D pieces)

-- proof's sides before and after: the line in `begun` is taken, or memory was refused
abbrev pub EndsLine : ProofSide → ProofSide → Type 0
EndsLine old new = IsBroken new ⊎ TakesLine old new

-- ---- events
-- what a line of events says, its literals, event: the line has this event
abbrev pub IsEvent : Sent → List Literal → Event → Type 0
IsEvent sent.Nothing lits e = ⊥
IsEvent sent.Clause lits e = e ≡ Given lits
IsEvent sent.Query lits e = e ≡ Asked lits

-- proof's sides before and after: the awaited clause is added, and the next line is wanted; or memory was refused
abbrev pub Gives : ProofSide → ProofSide → Type 0
Gives old new = IsBroken new ⊎ ((L : ProofLines) × (state_of L.known ≡ reached_clause old.lines.known) × (L.known.tally ≡ old.lines.known.tally) × (new ≡ record old { lines = L; phase = phase.Reading; line = old.line + 1 }))

-- the proof's side has taken no byte and no event, which are to be within the limits
pub record IsFirst (L : Limits) (x : ProofSide) : Type 0 where
  pub state : state_of x.lines.known ≡ begun L
  pub tally : x.lines.known.tally ≡ no_answers
  pub phase : x.phase ≡ phase.Reading
  pub line : x.line ≡ 1
  pub begun_is : x.begun.items ≡ []
  pub no_event : x.no_event ≡ false
  pub no_byte : x.no_byte ≡ false

-- proof's sides before and after, events `front`: the old side answers of `front` and then any events what the new side answers of these
-- events alone
pub record Turns (old new : ProofSide) (front : List Event) : Type 0 where
  pub tally : new.lines.known.tally ≡ old.lines.known.tally
  pub high : IsHigh new.phase new.lines.known
  pub begun : new.begun.items ≡ old.begun.items
  pub no_byte : new.no_byte ≡ old.no_byte
  pub stays : IsBroken old → IsBroken new
  pub rests : IsResting old.phase → IsResting new.phase
  pub is : (D : List Event) (pieces : List (List ℕ)) → Ends new.no_event D → later old (front ++ D) pieces ≡ later new D pieces

-- proof's side before, event, proof's side after: the event is taken, or memory was refused
abbrev pub Hears : ProofSide → Event → ProofSide → Type 0
Hears old e new = IsBroken new ⊎ (Turns old new (e ∷ []) × (new.no_event ≡ old.no_event))

-- proof's sides before and after: the events are ended
abbrev pub EndsEvents : ProofSide → ProofSide → Type 0
EndsEvents old new = Turns old new [] × (new.no_event ≡ true)

-- proof's sides before and after: the proof is ended, and the bytes after its last LF are its last piece
pub record EndsProof (old new : ProofSide) : Type 0 where
  pub tally : new.lines.known.tally ≡ old.lines.known.tally
  pub high : IsHigh new.phase new.lines.known
  pub begun : new.begun.items ≡ old.begun.items
  pub no_event : new.no_event ≡ old.no_event
  pub no_byte : new.no_byte ≡ true
  pub rests : IsResting new.phase
  pub is : (D : List Event) (pieces : List (List ℕ)) → Ends old.no_event D → text_from (state_of old.lines.known) old.line D (old.begun.items ∷ []) ≡ later new D pieces
