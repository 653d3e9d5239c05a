-- What the code does with a line of a session's proof.
use Rattle.std.specs.Prelude.{◌≡◌, ◌⊎◌, ℕ, ◌<◌, Option, Some, None, Ok, Err}
use Rattle.lrat_text.specs.Faults.{fault_number}
use Rattle.lrat_text.specs.declared.fault.TextFault.{TextFault}
use Rattle.lrat_text.specs.declared.fault.TextFault.TheVariants.{NoMemory as NoText}
use Rattle.sessions.specs.Answers.{Answer, Satisfied, Failed, Unknown, Given, Asked, counted}
use Rattle.sessions.specs.Lines.{Line, Gives, Asks, Learns, Deletes, Says, Shows, Fails, Silent, Read}
use Rattle.sessions.specs.Texts.{Taken, Goes, Awaits, Faulty, listed, take_read}
use Rattle.sessions.specs.View.{reached_clause, reached_query, state_of}
use Rattle.sessions.specs.declared.fault.LineFault.{LineFault}
use Rattle.sessions.specs.declared.fault.LineFault.TheVariants.{Text, OfLine, NoMemory}
use Rattle.sessions.specs.declared.kind.Status.{Status}
use Rattle.sessions.specs.declared.kind.Status.TheVariants as status
use Rattle.sessions.specs.declared.known.Came.{Came}
use Rattle.sessions.specs.declared.known.Came.TheVariants as came
use Rattle.sessions.specs.declared.known.Known.{Known}
use Rattle.sessions.specs.declared.tally.Tally.{Tally}

-- the tally before the first answer
abbrev pub no_answers : Tally
no_answers = record { satisfied = 0; failed = 0; unknown = 0 }

-- the number of a line's fault, and the number of the fault of its text (0 if the fault is not in the text)
abbrev pub numbers_of : LineFault → ℕ × ℕ
numbers_of (Text fault) = (1, fault_number fault)
numbers_of (OfLine number) = (number, 0)
numbers_of NoMemory = (14, 0)

-- the fault of a line whose line of LRAT text has this fault
abbrev pub fault_of_text : TextFault → LineFault
fault_of_text NoText = NoMemory
fault_of_text fault = Text fault

-- the answer that a status gives; None if a model or a core is to come
abbrev pub told : Status → Option Answer
told status.Satisfiable = None
told status.Unsatisfiable = None
told status.Unknown = Some Unknown

-- the answer that a line without fault gives, if it gives one
abbrev pub answer_of : Line → Option Answer
answer_of (Gives id C) = None
answer_of (Asks A) = None
answer_of (Learns id C hints) = None
answer_of (Deletes ids) = None
answer_of (Says word) = told word
answer_of (Shows model) = Some (Satisfied model)
answer_of (Fails core hints) = Some (Failed core)
answer_of Silent = None

-- the answer that a line gives, if it has no fault and gives one
abbrev pub answer_in : Read → Option Answer
answer_in (Ok line) = answer_of line
answer_in (Err fault) = None

-- outcome of a line, fault: the outcome is this fault, or memory was refused
abbrev pub Refused : Taken → LineFault → Type 0
Refused taken f = (f ≡ NoMemory) ⊎ (taken ≡ Faulty (numbers_of f).0 (numbers_of f).1)

-- state before, line as read, fault: the line has this fault in this state, or memory was refused
abbrev pub Stays : Known → Read → LineFault → Type 0
Stays old read f = Refused (take_read (state_of old) read) f

-- what the line waits for, line as read, states before and after: the line is done; or it awaits the event in `awaited`, and after this
-- event the state is `reached_clause` or `reached_query`
abbrev pub Comes : Came → Read → Known → Known → Type 0
Comes came.Goes read old new = (take_read (state_of old) read ≡ Goes (answer_in read) (state_of new)) × (new.tally ≡ counted old.tally (listed (answer_in read)))
Comes came.Clause read old new = (take_read (state_of old) read ≡ Awaits (Given new.awaited.items) (reached_clause new)) × (new.tally ≡ old.tally) × (new.numbers.last < new.id)
Comes came.Query read old new = (take_read (state_of old) read ≡ Awaits (Asked new.awaited.items) (reached_query new)) × (new.tally ≡ old.tally)
