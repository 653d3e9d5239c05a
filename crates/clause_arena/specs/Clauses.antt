-- The value of an arena, and the clause to which a reference refers.
use Rattle.std.specs.Prelude.{◌≡◌, ℕ, Some, length}
use Rattle.std.specs.FinMap.{FinMap, get}
use Rattle.std.specs.Ordering.{nat_cmp}
use Rattle.dimacs.specs.logic.ClauseMap.{Live}
use Rattle.dimacs.specs.logic.Literal.{Clause}
use Rattle.clause_arena.specs.declared.reference.Ref.{Ref}

-- the value of an arena: from the number of each live clause to its offset and its literals
abbrev pub Clauses : Type 0
Clauses = FinMap nat_cmp (ℕ × Clause)

-- the live clauses by their numbers, whatever their offsets
abbrev pub live_of : Clauses → Live
live_of m n C = (p : ℕ) × (get m n ≡ Some (p, C))

-- a reference has the number, the offset and the length of the live clause C
abbrev pub RefersTo : Clauses → Ref → Clause → Type 0
RefersTo m at C = (get m at.number ≡ Some (at.place, C)) × (at.len ≡ length C)

-- a reference's property: it refers to some live clause
abbrev pub IsLive : Clauses → Ref → Type 0
IsLive m at = (C : Clause) × RefersTo m at C
