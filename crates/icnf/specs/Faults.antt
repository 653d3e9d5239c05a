-- The numbers of the faults of an iCNF text.
use Rattle.std.specs.Prelude.{ℕ}
use Rattle.icnf.specs.declared.fault.Kind.{Kind}
use Rattle.icnf.specs.declared.fault.Kind.TheVariants.{NoHeader, BadHeader, BadToken, VariableAboveClauses, ClauseNotEnded, AboveLimit, NoMemory, ClauseBehindCube, RepeatedVariable, NotATree, CubeTooLong}

-- the fault number that is printed, from 1 to 13
abbrev pub number_of_kind : Kind → ℕ
number_of_kind NoHeader = 1
number_of_kind BadHeader = 2
number_of_kind BadToken = 3
number_of_kind VariableAboveClauses = 4
number_of_kind ClauseNotEnded = 5
number_of_kind AboveLimit = 8
number_of_kind NoMemory = 9
number_of_kind ClauseBehindCube = 10
number_of_kind RepeatedVariable = 11
number_of_kind NotATree = 12
number_of_kind CubeTooLong = 13
