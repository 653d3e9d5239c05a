-- What a parse found.
use Rattle.std.specs.Prelude.{List, [], Option, Some, None}
use Rattle.clap.specs.Words.{Row, Text}

-- the value of what was found: the name of the command that was named, and the values of its arguments
pub record Met : Type 0 where
  pub name : Text
  pub rows : List Row

-- what was found, by `clap`'s subcommand; nothing if there is none
abbrev pub met_of : Option (Text × List Row) → Met
met_of None = record { name = []; rows = [] }
met_of (Some p) = record { name = p.0; rows = p.1 }
