-- What a propagator needs of each attached clause.
use Rattle.std.specs.Prelude.{ℕ}
use Rattle.std.specs.List.{All}
use Rattle.dimacs.specs.logic.Literal.{Clause, IsWithin}
use Rattle.clause_arena.specs.declared.reference.Ref.{Ref}
use Rattle.clause_arena.specs.Clauses.{Clauses, RefersTo}

-- a reference's property: it refers to a live clause, whose literals are of the variables from 1 to vars
abbrev pub IsLiveWithin : Clauses → ℕ → Ref → Type 0
IsLiveWithin m vars at = (C : Clause) × RefersTo m at C × All (IsWithin vars) C
