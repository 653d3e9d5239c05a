-- The events that are heard of a text, line by line, up to its first fault.
use Rattle.std.specs.Prelude.{ℕ, ◌+◌, max, List, [], ◌∷◌, Option, Some, None, Result, Ok, Err, if◌then◌else◌}
use Rattle.dimacs.specs.logic.Cnf.{greatest_of}
use Rattle.dimacs.specs.logic.Limits.{Limits}
use Rattle.dimacs.specs.text.Words.{lines, words_of}
use Rattle.icnf.specs.declared.fault.IcnfFault.{IcnfFault}
use Rattle.icnf.specs.declared.fault.Kind.TheVariants.{NoHeader}
use Rattle.sessions.specs.Answers.{Event}
use Rattle.sessions.specs.Events.{Progress, Row, literals_of, read_row, start}

-- the events before the first fault of a text, and that fault; None if the text spells the events
pub record Heard : Type 0 where
  pub events : List Event
  pub fault : Option IcnfFault

-- no further event, and this fault, or none
abbrev pub no_more : Option IcnfFault → Heard
no_more fault = record { events = []; fault = fault }

-- the event of a line, if it has one, and then what is heard of the later lines
abbrev pub after_row : Option Event → Heard → Heard
after_row None later = later
after_row (Some e) later = record later { events = e ∷ later.events }

-- what is heard at the end of a text of n lines: nothing, or the fault that there was no header
abbrev pub at_end : ℕ → Progress → Heard
at_end n p = if p.headed then no_more None else no_more (Some (record { kind = NoHeader; line = n }))

-- outcome of a line, `later`: the event of the line, and then what is heard of the later lines; or the line's fault
abbrev pub by_row : Row → (Progress → Heard) → Heard
by_row (Ok r) later = after_row r.1 (later r.0)
by_row (Err fault) later = no_more (Some fault)

-- number of lines before, lines, what was read of the lines before: what is heard of the lines
unfoldable pub heard_from : ℕ → List (List ℕ) → Progress → Heard
heard_from n [] p = at_end n p
heard_from n (line ∷ more) p = by_row (read_row (n + 1) (words_of line) p) (λ q. heard_from (n + 1) more q)

-- what is heard of a text within the limits
abbrev pub heard_within : Limits → List ℕ → Heard
heard_within L text = heard_from 0 (lines text) (start L)

-- fault, events: the events of a whole text, or its fault
abbrev pub outcome_by : Option IcnfFault → List Event → Result (List Event) IcnfFault
outcome_by None E = Ok E
outcome_by (Some fault) E = Err fault

-- the events of a text of which this is heard, or its first fault
abbrev pub outcome_of : Heard → Result (List Event) IcnfFault
outcome_of h = outcome_by h.fault h.events

-- the greatest variable of the events; 0 if they have no literal
abbrev pub greatest : List Event → ℕ
greatest [] = 0
greatest (e ∷ E) = max (greatest_of (literals_of e)) (greatest E)
