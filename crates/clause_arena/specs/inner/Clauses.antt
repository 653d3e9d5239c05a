-- The coding of an arena's value.
use Rattle.std.specs.Coded.{Coded, coded_ℕ, coded×, coded_list}
use Rattle.std.specs.FinMap.{code}
use Rattle.dimacs.specs.inner.Codes.{literal_code}
use Rattle.clause_arena.specs.Clauses.{Clauses}

-- an injective coding of arenas' values, which decides their equality. Nothing here is to be believed
abbrev pub clauses_code : Coded Clauses
clauses_code = code coded_ℕ (coded× coded_ℕ (coded_list literal_code))
