-- For which pairs variables are defined: those that occur together in the most short clauses.
use Rattle.std.specs.Prelude.{◌≡◌, ◌≢◌, ℕ, zero, suc, ◌<◌, ◌≤◌, nat_le, Bool, ◌&&◌, ◌⊎◌, List, [], ◌∷◌, ◌++◌, Contains, count_by, if◌then◌else◌}
use Rattle.dimacs.specs.logic.Base.{pure_literals}
use Rattle.dimacs.specs.logic.Cnf.{Cnf}
use Rattle.dimacs.specs.logic.Literal.{Literal, Clause, has, var_of, is_negative}
use Rattle.cube_split.specs.Definitions.{IsPairOf, base_with}
use Rattle.cube_split.specs.declared.pair.Pair.{Pair}

-- the number of distinct literals of a clause
abbrev pub distinct : Clause → ℕ
distinct [] = 0
distinct (l ∷ C) = if has C l then distinct C else suc (distinct C)

-- whether a clause is short: it has two or three distinct literals
abbrev pub is_short : Clause → Bool
is_short C = nat_le 2 (distinct C) && nat_le (distinct C) 3

-- the number of short clauses that have both literals of the pair
abbrev pub together : List Clause → Pair → ℕ
together clauses p = count_by (λ C. is_short C && (has C p.first && has C p.second)) clauses

-- a pair's property: two literals of variables of the formula, neither of them pure
pub record IsCandidate (F : Cnf) (p : Pair) : Type 0 where
  pub of_formula : IsPairOf F.vars p
  pub first_undecided : ¬ (Contains (pure_literals F) p.first)
  pub second_undecided : ¬ (Contains (pure_literals F) p.second)

-- the sign of a literal: 0 if it is positive, 1 if it is negative
abbrev pub sign : Literal → ℕ
sign l = if is_negative l then 1 else 0

-- the order of pairs: by the first literal's variable, then the second's variable, then the first's sign, then the second's sign
abbrev pub Precedes : Pair → Pair → Type 0
Precedes p q =
    (var_of p.first < var_of q.first)
    ⊎ ((var_of p.first ≡ var_of q.first)
    × ((var_of p.second < var_of q.second)
    ⊎ ((var_of p.second ≡ var_of q.second) × ((sign p.first < sign q.first) ⊎ ((sign p.first ≡ sign q.first) × (sign p.second < sign q.second))))))

-- the next pair after those taken: of the other candidates, p is the one that occurs in the most short clauses, at least one, and of
-- several the first
pub record IsNext (F : Cnf) (taken : List Pair) (p : Pair) : Type 0 where
  pub candidate : IsCandidate F p
  pub new : ¬ (Contains taken p)
  pub some : 0 < together F.clauses p
  pub most : (q : Pair) → IsCandidate F q → ¬ (Contains taken q) → together F.clauses q ≤ together F.clauses p
  pub first : (q : Pair) → IsCandidate F q → ¬ (Contains taken q) → together F.clauses q ≡ together F.clauses p → q ≢ p → Precedes p q

-- the pairs that are defined after those taken: as many as wanted, each the next one; fewer if no candidate that occurs in a short clause
-- is left
pub data AreDefined (F : Cnf) : ℕ → List Pair → List Pair → Type 0 where
  all : {taken : List Pair} → AreDefined F zero taken []
  none : {left : ℕ} {taken : List Pair} → ((q : Pair) → IsCandidate F q → ¬ (Contains taken q) → together F.clauses q ≡ 0) → AreDefined F left taken []
  next : {left : ℕ} {taken pairs : List Pair} (p : Pair) → IsNext F taken p → AreDefined F left (taken ++ p ∷ []) pairs → AreDefined F (suc left) taken (p ∷ pairs)

-- the definitions of a formula: how many are wanted, and the pairs for which variables are defined
pub record Definitions : Type 0 where
  pub wanted : ℕ
  pub pairs : List Pair

-- no definition, and none is wanted
abbrev pub no_definitions : Definitions
no_definitions = record { wanted = 0; pairs = [] }

-- definitions are those of the formula F, and at most 64
pub record AreOf (F : Cnf) (d : Definitions) : Type 0 where
  pub defined : AreDefined F d.wanted [] d.pairs
  pub few : d.wanted ≤ 64

-- B is the base of the formula F with as many definitions as wanted, or fewer if no pair is left
pub record IsBaseWith (F : Cnf) (wanted : ℕ) (B : Cnf) : Type 0 where
  pub pairs : List Pair
  pub defined : AreDefined F wanted [] pairs
  pub is : B ≡ base_with F pairs

-- a formula with its definitions
pub record OpenedFormula : Type 0 where
  pub formula : Cnf
  pub definitions : Definitions
