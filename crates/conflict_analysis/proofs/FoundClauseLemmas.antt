-- The live clause of a number.
use Rattle.std.proofs.Common.{◌≡◌, ℕ, subst}
use Rattle.dimacs.specs.logic.Literal.{Clause}
use Rattle.clause_arena.specs.Clauses.{Clauses, live_of, RefersTo}
use Rattle.clause_arena.specs.declared.reference.Ref.{Ref}

pub found_lives : (m : Clauses) (at : Ref) (n : ℕ) (C : Clause) → at.number ≡ n → RefersTo m at C → live_of m n C
found_lives m at n C e s = subst (λ k. live_of m k C) e (at.place, s.0)
