-- The live clauses that hold a literal.
use Rattle.std.specs.Prelude.{Bool, false, Option, Some, None}
use Rattle.std.specs.FinMap.{get, retain_keys}
use Rattle.dimacs.specs.logic.Literal.{Literal, Clause, has}
use Rattle.dimacs.specs.logic.ClauseMap.{ClauseMap}

-- whether the argument is a clause, and this clause holds the literal l
abbrev pub holds_in : Option Clause → Literal → Bool
holds_in None l = false
holds_in (Some C) l = has C l

-- the live clauses M that hold the literal l
abbrev pub holders : ClauseMap → Literal → ClauseMap
holders M l = retain_keys M (λ id. holds_in (get M id) l)
