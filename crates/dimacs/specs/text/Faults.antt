-- The numbers of the faults of a DIMACS text.
use Rattle.std.specs.Prelude.{ℕ}
use Rattle.dimacs.specs.declared.fault.Kind.{Kind}
use Rattle.dimacs.specs.declared.fault.Kind.TheVariants.{NoHeader, BadHeader, BadToken, VariableAboveHeader, ClauseNotEnded, TooFewClauses, TooManyClauses, AboveLimit, NoMemory}

-- the fault number that is printed, from 1 to 9
abbrev pub number_of_kind : Kind → ℕ
number_of_kind NoHeader = 1
number_of_kind BadHeader = 2
number_of_kind BadToken = 3
number_of_kind VariableAboveHeader = 4
number_of_kind ClauseNotEnded = 5
number_of_kind TooFewClauses = 6
number_of_kind TooManyClauses = 7
number_of_kind AboveLimit = 8
number_of_kind NoMemory = 9
