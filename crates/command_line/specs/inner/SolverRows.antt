-- How the program holds the table of words.
use Rattle.clap.specs.Words.{Text}
use Rattle.command_line.specs.declared.solver_words.table.Meaning.{Meaning}
use Rattle.command_line.specs.declared.solver_words.table.Row.{Row}

-- a row of the table
abbrev pub row_of : Row → Text × Meaning
row_of row = (row.words.now, row.meaning)
