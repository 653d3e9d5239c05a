-- The states of a reader of events, and what it has heard.
use Rattle.std.specs.Prelude.{◌≡◌, ℕ, Bool, true, false, List, [], ◌∷◌, ◌++◌, Option, Some, None, All, if◌then◌else◌}
use Rattle.commands.specs.Known.{HoldsOf}
use Rattle.commands.specs.declared.event_source.EventSource.{EventSource}
use Rattle.commands.specs.declared.event_source.Next.{Next}
use Rattle.commands.specs.declared.event_source.Next.TheVariants as next
use Rattle.commands.specs.inner.Texts.{IsTaken}
use Rattle.dimacs.specs.logic.Limits.{Limits}
use Rattle.dimacs.specs.logic.Literal.{Literal, IsWithin}
use Rattle.dimacs.specs.text.Words.{lines}
use Rattle.icnf.specs.declared.fault.Kind.TheVariants.{NoHeader}
use Rattle.lrat_text.specs.Lines.{IsOpen}
use Rattle.sessions.specs.Answers.{Event}
use Rattle.sessions.specs.Events.{Progress, literals_of}
use Rattle.sessions.specs.Heard.{Heard, at_end, greatest, heard_from, heard_within}
use Rattle.sessions.specs.Rows.{event_of}
use Rattle.sessions.specs.Sides.{Ends}
use Rattle.sessions.specs.declared.event_lines.Sent.{Sent}
use Rattle.sessions.specs.declared.event_lines.Sent.TheVariants as sent

-- ---- a line
-- The next line was taken of a source. The positions are: the bytes that the source had left, those that it has left then, whether the line
-- is the last one and has no LF, the line without its LF.
abbrev pub TakesLine : Option (List ℕ) → Option (List ℕ) → Bool → List ℕ → Type 0
TakesLine None left ended line = IsOpen line
TakesLine (Some all) None ended line = ⊥
TakesLine (Some all) (Some left) true line = IsOpen line × (all ≡ line) × (left ≡ [])
TakesLine (Some all) (Some left) false line = IsOpen line × (all ≡ line ++ (10 ∷ left))

-- the literals of a line of this kind have variables from 1 to most, if it has an event
abbrev pub AreWithin : ℕ → Sent → List Literal → Type 0
AreWithin most sent.Nothing ls = Unit {0}
AreWithin most sent.Clause ls = All (IsWithin most) ls
AreWithin most sent.Query ls = All (IsWithin most) ls

-- the literals of a line of this kind have variables from 1 to `greatest`, if it has an event
abbrev pub IsWaiting : Sent → ℕ → List Literal → Type 0
IsWaiting sent.Nothing greatest ls = Unit {0}
IsWaiting sent.Clause greatest ls = All (IsWithin greatest) ls
IsWaiting sent.Query greatest ls = All (IsWithin greatest) ls

-- the literals of the line that comes next, if one comes and has an event, have variables from 1 to `greatest`
abbrev pub IsWaitingLine : Next → ℕ → List Literal → Type 0
IsWaitingLine (next.Line says) greatest ls = IsWaiting says greatest ls
IsWaitingLine next.Ended greatest ls = Unit {0}
IsWaitingLine (next.Faulty fault) greatest ls = Unit {0}

-- what comes next at the end of the source, after n lines: the end, or the fault that there is no header
abbrev pub IsClosed : ℕ → Progress → Next → Type 0
IsClosed n p found = found ≡ (if p.headed then next.Ended else next.Faulty (record { kind = NoHeader; line = n }))

-- ---- what was heard
-- the list of an event, if there is one
abbrev pub listed : Option Event → List Event
listed None = []
listed (Some e) = e ∷ []

-- what was heard, with the events E before its events
abbrev pub after_events : List Event → Heard → Heard
after_events E later = record later { events = E ++ later.events }

-- what is still to be heard after n lines: if the source has ended, what its end comes to, else what the lines of these bytes come to
abbrev pub coming_by : Bool → ℕ → Progress → List ℕ → Heard
coming_by true n p more = at_end n p
coming_by false n p more = heard_from n (lines more) p

module _ {B : Type 0} where
  -- these bytes were read within the limits, and of them the events E were heard, whatever bytes follow
  pub record HasHeard (L : Limits) (bytes : List ℕ) (E : List Event) (x : EventSource B) : Type 0 where
    pub is : (more : List ℕ) → Ends x.has_ended more → heard_within L (bytes ++ more) ≡ after_events E (coming_by x.has_ended x.read x.lines.progress more)
    pub greatest_is : x.greatest ≡ greatest E
    pub within : All (λ e. All (IsWithin L.vars) (literals_of e)) E
    pub limits : x.lines.progress.limits ≡ L

  -- of all bytes of a source, if they are known, those were read of which the events E were heard within the limits
  pub record Hears (L : Limits) (all : Option (List ℕ)) (remaining : B → Option (List ℕ)) (E : List Event) (x : EventSource B) : Type 0 where
    pub bytes : List ℕ
    pub taken : IsTaken all bytes (remaining x.source) x.has_ended
    pub heard_so : HasHeard L bytes E x

  -- after the events E, within the limits, this comes next: a line, whose event is heard; the end, by which all bytes come to E; or a
  -- fault, by which all bytes come to E and this fault
  abbrev pub HearsNext : Limits → Option (List ℕ) → (B → Option (List ℕ)) → List Event → EventSource B → Next → Type 0
  HearsNext L all remaining E x (next.Line says) = Hears L all remaining (E ++ listed (event_of says x.lines.read.literals)) x
  HearsNext L all remaining E x next.Ended = HoldsOf all (λ text. heard_within L text ≡ record { events = E; fault = None })
  HearsNext L all remaining E x (next.Faulty fault) = HoldsOf all (λ text. heard_within L text ≡ record { events = E; fault = Some fault })
