-- The state of the reader of events, and what a call leaves that reads a line.
use Rattle.std.specs.Prelude.{◌≡◌, List, Option, Some, None, Result, Ok, Err}
use Rattle.dimacs.specs.logic.Literal.{Literal}
use Rattle.dimacs.specs.text.Rows.{Fails}
use Rattle.icnf.specs.Parser.{no_memory}
use Rattle.icnf.specs.declared.fault.IcnfFault.{IcnfFault}
use Rattle.sessions.specs.Answers.{Event, Given, Asked}
use Rattle.sessions.specs.Events.{LineRead, Progress, Row}
use Rattle.sessions.specs.declared.event_lines.Sent.{Sent}
use Rattle.sessions.specs.declared.event_lines.Sent.TheVariants.{Nothing, Clause, Query}

-- the state of the reader: what was read of the lines so far, and the literals of the last event
pub record Held : Type 0 where
  pub progress : Progress
  pub read : LineRead

-- the event that a line gives which says this and has these literals; None if it says nothing
abbrev pub event_of : Sent → List Literal → Option Event
event_of Nothing literals = None
event_of Clause literals = Some (Given literals)
event_of Query literals = Some (Asked literals)

-- state after the call, the answer, expected outcome of the line: the state and the answer are those of the outcome; or the fault is the
-- outcome's, or memory was refused
abbrev pub GivesRow : Held → Result Sent IcnfFault → Row → Type 0
GivesRow new (Ok sent) expected = expected ≡ Ok (new.progress, event_of sent new.read.literals)
GivesRow new (Err fault) expected = Fails no_memory fault expected
