-- The numbers of faults.
use Rattle.std.specs.Prelude.{ℕ}
use Rattle.answers.specs.declared.fault.Kind.{Kind}
use Rattle.answers.specs.declared.fault.Kind.TheVariants.{ForeignLine, BadToken, BehindEnd, ComplementaryPair, NotEnded, NoMemory}

-- the number of a fault's kind, as it is printed
abbrev pub number_of_kind : Kind → ℕ
number_of_kind ForeignLine = 1
number_of_kind BadToken = 2
number_of_kind BehindEnd = 3
number_of_kind ComplementaryPair = 4
number_of_kind NotEnded = 5
number_of_kind NoMemory = 14
