-- Steps under other numbers.
use Rattle.std.specs.Prelude.{ℕ, ◌+◌, ◌-◌, nat_le, List, [], ◌∷◌, map, if◌then◌else◌}
use Rattle.dimacs.specs.logic.Literal.{Clause}
use Rattle.dimacs.specs.logic.Rat.{Group}
use Rattle.lrat_text.specs.declared.step.Step.{Step}
use Rattle.lrat_text.specs.declared.step.Step.TheVariants.{Add, Delete}

-- the number of n after t instead of b: numbers up to b stay, and b + k becomes t + k
abbrev pub behind : ℕ → ℕ → ℕ → ℕ
behind b t n = if nat_le n b then n else n - b + t

-- a RAT group in which f n replaces each number n
abbrev pub renumbered_group : (ℕ → ℕ) → Group → Group
renumbered_group f g = (f g.0, map f g.1)

-- a step in which f n replaces each number n
abbrev pub renumbered : (ℕ → ℕ) → Step → Step
renumbered f (Add id lits hints groups) = Add (f id) lits (map f hints) (map (renumbered_group f) groups)
renumbered f (Delete ids) = Delete (map f ids)

-- the clause of the last addition; C if there is none
abbrev pub last_clause : Clause → List Step → Clause
last_clause C [] = C
last_clause C (Add id lits hints groups ∷ steps) = last_clause lits steps
last_clause C (Delete ids ∷ steps) = last_clause C steps
