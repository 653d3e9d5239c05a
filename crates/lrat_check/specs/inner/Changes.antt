-- How the live clauses change.
use Rattle.std.specs.Prelude.{◌≡◌, ℕ, Some}
use Rattle.std.specs.FinMap.{get}
use Rattle.dimacs.specs.logic.Literal.{Clause}
use Rattle.dimacs.specs.logic.ClauseMap.{ClauseMap}

-- each clause that is live in new is live in old under the same number
abbrev pub NoneNew : ClauseMap → ClauseMap → Type 0
NoneNew old new = (id : ℕ) (C : Clause) → get new id ≡ Some C → get old id ≡ Some C
