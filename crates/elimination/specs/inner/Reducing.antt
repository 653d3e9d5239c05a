-- The clauses of a formula and the resolvents behind them, as a reducer has them.
use Rattle.std.specs.Prelude.{◌≡◌, ℕ, ◌+◌, ◌<◌, ◌≤◌, Bool, List, map, All, Contains}
use Rattle.std.specs.List.{AllPairs}
use Rattle.dimacs.specs.logic.Cnf.{Cnf}
use Rattle.dimacs.specs.logic.Literal.{Clause}
use Rattle.elimination.specs.Kept.{AddsResolvents, clause_of}
use Rattle.elimination.specs.inner.Indexed.{IsActive}

-- what a reducer has: all clauses, whether each is active, whether each variable is eliminated, and the lines of the resolvents
pub record Reduction : Type 0 where
  pub all : Cnf
  pub active : List Bool
  pub gone : List Bool
  pub lines : List ℕ

-- the clauses are those of F with resolvents behind them, which the lines add
abbrev pub IsReductionOf : Cnf → Reduction → Type 0
IsReductionOf F r = AddsResolvents F r.all r.lines

-- whatever formula the clauses of `all` are those of, with resolvents behind them that the text adds: those of `new` are too, by the text `longer`
abbrev pub AddsMore : Cnf → List ℕ → Cnf → List ℕ → Type 0
AddsMore all text new longer = (F : Cnf) → AddsResolvents F all text → AddsResolvents F new longer

-- whatever formula the old reducer was a reduction of, the new one is
abbrev pub Reduces : Reduction → Reduction → Type 0
Reduces old new = AddsMore old.all old.lines new.all new.lines

-- the clauses `picked` have these numbers, from 1, in ascending order: they are the active ones with an index below i
pub record ArePicked (clauses : List Clause) (active : List Bool) (i : ℕ) (numbers : List ℕ) (picked : List Clause) : Type 0 where
  pub rising : AllPairs (λ x y. x < y) numbers
  pub within : All (λ n. (1 ≤ n) × (n ≤ i)) numbers
  pub every : (j : ℕ) → j < i → IsActive active j → Contains numbers (j + 1)
  pub are : picked ≡ map (clause_of clauses) numbers
