-- The numbers of attached clauses.
use Rattle.std.specs.Prelude.{ℕ, List, map}
use Rattle.clause_arena.specs.declared.reference.Ref.{Ref}

-- the numbers of clauses, in their order
abbrev pub numbers : List Ref → List ℕ
numbers clauses = map (λ at. at.number) clauses
