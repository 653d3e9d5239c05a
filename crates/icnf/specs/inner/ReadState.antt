-- The invariant of the parser's state while an iCNF text is read.
use Rattle.std.specs.Prelude.{◌≡◌, ◌≤◌, max, [], ⊤}
use Rattle.dimacs.specs.logic.Cnf.{greatest_in, greatest_of}
use Rattle.dimacs.specs.logic.Limits.{large}
use Rattle.dimacs.specs.logic.Literal.{Clause}
use Rattle.icnf.specs.declared.walk.Stage.{Stage}
use Rattle.icnf.specs.declared.walk.Stage.TheVariants.{Clauses, Outside, Inside, Complete}
use Rattle.icnf.specs.ReadState.{ReadState}

-- after the clauses, no clause is open
abbrev pub IsClosed : Stage → Clause → Type 0
IsClosed Clauses open_clause = ⊤
IsClosed Outside open_clause = open_clause ≡ []
IsClosed Inside open_clause = open_clause ≡ []
IsClosed Complete open_clause = open_clause ≡ []

-- the variables of the clauses are within the large limits, and after the clauses no clause is open
pub record IsRead (s : ReadState) : Type 0 where
  pub greatest : max (greatest_in s.clauses.done) (greatest_of s.clauses.open_clause) ≤ large.vars
  pub closed : IsClosed s.walk.stage s.clauses.open_clause
