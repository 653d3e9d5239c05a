-- Trails that decisions and unit propagation have built (Handbook of Satisfiability, chapter 4).
use Rattle.std.specs.Prelude.{◌≡◌, ℕ, ◌+◌, false, List, [], ◌∷◌, ◌++◌, ◌⊎◌, None, All}
use Rattle.dimacs.specs.logic.ClauseMap.{Live}
use Rattle.dimacs.specs.logic.Literal.{Clause, IsWithin, negation}
use Rattle.watches.specs.Law.{IsImplied}
use Rattle.watches.specs.Trails.{holds, present}
use Rattle.watches.specs.declared.trail.Assigned.{Assigned}

-- an entry's property: it is a decision, whose literal was unassigned after `front`, without a reason, and which opened the next level
pub record IsDecided (front : List Assigned) (e : Assigned) : Type 0 where
  pub reason : e.reason ≡ None
  pub not_true : holds front e.literal ≡ false
  pub not_false : holds front (negation e.literal) ≡ false
  pub level : e.level ≡ present front + 1

-- a trail's property: each entry after the front was decided, or implied by a live clause, when it was pushed
abbrev pub AreBuilt : Live → List Assigned → List Assigned → Type 0
AreBuilt live front [] = Unit {0}
AreBuilt live front (e ∷ more) = (IsImplied live front e ⊎ IsDecided front e) × AreBuilt live (front ++ e ∷ []) more

-- each live clause has literals of these variables alone
abbrev pub AreInside : Live → ℕ → Type 0
AreInside live vars = (n : ℕ) (C : Clause) → live n C → All (IsWithin vars) C
