-- What elimination makes of a formula: resolvents are added behind its clauses, and some of all these clauses are kept.
use Rattle.std.specs.Prelude.{◌≡◌, ℕ, ◌+◌, ◌-◌, ◌<◌, ◌≤◌, Bool, true, false, List, [], ◌⊎◌, length, map, slice_index_or, All, Contains}
use Rattle.std.specs.List.{AllPairs}
use Rattle.dimacs.specs.logic.Cnf.{Cnf}
use Rattle.dimacs.specs.logic.ClauseMap.{map_of, live_in}
use Rattle.dimacs.specs.logic.Literal.{Literal, Clause, var_of}
use Rattle.lrat_text.specs.Grammar.{LineSpellsWithin}
use Rattle.lrat_text.specs.Log.{IsLog, AreFresh, additions, log_top}
use Rattle.lrat_text.specs.Runs.{after_steps, top_of}
use Rattle.lrat_text.specs.declared.step.Step.{Step}
use Rattle.elimination.specs.declared.kept.Kept.{Kept}

-- each literal of the clause C is one of D
abbrev pub IsSubset : Clause → Clause → Type 0
IsSubset C D = (l : Literal) → Contains C l → Contains D l

-- the variable v is eliminated, where `gone` has a truth value for each variable and one for 0
abbrev pub IsEliminated : List Bool → ℕ → Type 0
IsEliminated gone v = slice_index_or gone v false ≡ true

-- no variable has both truth values, that of `frozen` and that of `gone`
abbrev pub AreApart : List Bool → List Bool → Type 0
AreApart frozen gone = (v : ℕ) → slice_index_or frozen v false ≡ true → ¬ (IsEliminated gone v)

-- the clause has a literal of an eliminated variable
abbrev pub HasEliminated : List Bool → Clause → Type 0
HasEliminated gone C = (l : Literal) × Contains C l × IsEliminated gone (var_of l)

-- the clause of number n, from 1
abbrev pub clause_of : List Clause → ℕ → Clause
clause_of clauses n = slice_index_or clauses (n - 1) []

-- `all` is the formula F with clauses added behind its own; the text spells steps that add them, one by one, as a fresh log over F
pub record AddsResolvents (F all : Cnf) (text : List ℕ) : Type 0 where
  pub steps : List Step
  pub spells : LineSpellsWithin (log_top F) text steps
  pub log : IsLog F steps
  pub fresh : AreFresh F (map_of F) steps
  pub vars : all.vars ≡ F.vars
  pub live : after_steps (map_of F) steps ≡ map_of all
  pub count : length all.clauses ≡ length F.clauses + additions steps
  pub top : top_of (length F.clauses) steps ≡ length all.clauses

-- `kept` has the clauses of `all` under these numbers; each other clause of `all` has an eliminated variable, or has a kept one as a subset
pub record IsKept (all kept : Cnf) (numbers : List ℕ) (gone : List Bool) : Type 0 where
  pub vars : kept.vars ≡ all.vars
  pub rising : AllPairs (λ x y. x < y) numbers
  pub within : All (λ n. (1 ≤ n) × (n ≤ length all.clauses)) numbers
  pub clauses : kept.clauses ≡ map (clause_of all.clauses) numbers
  pub covered : (n : ℕ) (C : Clause) → live_in (map_of all) n C
      → Contains numbers n ⊎ (HasEliminated gone C ⊎ ((D : Clause) × Contains kept.clauses D × IsSubset D C))

-- what elimination has left of the formula F: clauses of F and of resolvents behind them, with the lines that add these
pub record IsLeftOf (F : Cnf) (k : Kept) : Type 0 where
  pub all : Cnf
  pub adds : AddsResolvents F all k.lines
  pub kept : IsKept all k.formula k.numbers.items k.eliminated.items
  pub count : length all.clauses ≡ k.all
