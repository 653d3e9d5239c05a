-- What a call leaves that reads the literals of a line of events.
use Rattle.std.specs.Prelude.{◌≡◌, List, Result, Ok, Err}
use Rattle.dimacs.specs.logic.Literal.{Literal}
use Rattle.dimacs.specs.text.Rows.{Fails}
use Rattle.icnf.specs.Parser.{no_memory}
use Rattle.icnf.specs.declared.fault.IcnfFault.{IcnfFault}
use Rattle.sessions.specs.Events.{LineRead}

-- literals after the call, the answer, expected outcome: the literals are those expected; or the fault is the expected one, or memory was
-- refused
abbrev pub GivesLiterals : LineRead → Result (Unit {0}) IcnfFault → Result (List Literal) IcnfFault → Type 0
GivesLiterals new (Ok u) expected = expected ≡ Ok new.literals
GivesLiterals new (Err fault) expected = Fails no_memory fault expected
