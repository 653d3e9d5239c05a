-- What is known after some literals of a clause were tested.
use Rattle.std.proofs.Common.{◌≡◌, ℕ, ◌<◌, ◌⊎◌, true, false, List, get_or, Option, Some}
use Rattle.std.specs.List.{Contains}
use Rattle.std.specs.Option.{IfSome}
use Rattle.dimacs.specs.logic.Literal.{Literal, Clause, negation}
use Rattle.watches.specs.declared.trail.Assigned.{Assigned}
use Rattle.watches.specs.Trails.{holds}

-- each of the first i literals is false, or is the free one
pub record Tested (es : List Assigned) (C : Clause) (i : ℕ) (o : Option Literal) : Type 0 where
  pub seen : (k : ℕ) (d : Literal) → k < i → (holds es (negation (get_or C k d)) ≡ true) ⊎ (o ≡ Some (get_or C k d))
  pub free : IfSome o (λ f. Contains C f × (holds es f ≡ false) × (holds es (negation f) ≡ false))
