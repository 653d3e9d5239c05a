-- The number of live clauses that hold a literal.
use Rattle.std.specs.Prelude.{ℕ}
use Rattle.std.specs.FinMap.{len}
use Rattle.dimacs.specs.logic.Literal.{Literal}
use Rattle.dimacs.specs.logic.ClauseMap.{ClauseMap}
use Rattle.lrat_check.specs.Holders.{holders}

-- the number of live clauses M that hold the literal l
abbrev pub holder_count : ClauseMap → Literal → ℕ
holder_count M l = len (holders M l)
