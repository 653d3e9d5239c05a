-- Resolution asymmetric tautologies, whose candidates are refuted group by group (Cruz-Filipe et al. 2017).
use Rattle.std.specs.Prelude.{◌≡◌, ◌≢◌, ℕ, true, not, ◌||◌, ◌&&◌, List, [], ◌∷◌, ◌⊎◌, Contains, map, nat_eq}
use Rattle.std.specs.List.{IsDistinct}
use Rattle.dimacs.specs.logic.Literal.{Literal, Clause, IsTautology, negation, same, has, var_of}
use Rattle.dimacs.specs.logic.ClauseMap.{Live}
use Rattle.dimacs.specs.logic.Propagation.{Assumed, negations, Leads, Refutes}

-- a candidate's clause number, and the hints that refute the candidate
abbrev pub Group : Type 0
Group = ℕ × List ℕ

-- the candidates that the groups name
abbrev pub candidates : List Group → List ℕ
candidates groups = map (λ g. g.0) groups

-- the candidate D of the pivot p is blocked, so it needs no hint: a literal of D other than -p is assumed by β, or D contains another
-- variable in both signs
abbrev pub IsBlocked : Assumed → Literal → Clause → Type 0
IsBlocked β p D =
    ((l : Literal) × Contains D l × (l ≢ negation p) × (β l ≡ true))
    ⊎ ((l : Literal) × Contains D l × Contains D (negation l) × (var_of l ≢ var_of p))

-- the literals that β assumes, and the negations of the literals of D other than -p
abbrev pub with_candidate : Assumed → Literal → Clause → Assumed
with_candidate β p D = λ k. β k || (has D (negation k) && not (same k p))

-- the group g names a live clause that contains -p; it has no hint if this candidate is blocked, and otherwise its hints refute the
-- candidate
abbrev pub GroupHolds : Live → Assumed → Literal → Group → Type 0
GroupHolds live β p g =
    (D : Clause) × live g.0 D × Contains D (negation p)
    × ((IsBlocked β p D × (g.1 ≡ [])) ⊎ (¬ (IsBlocked β p D) × Refutes live (with_candidate β p D) g.1))

-- The lemma C has RAT on its first literal, the pivot, by its hints and groups: the hints propagate, and the groups name each live clause
-- that contains the pivot's negation, once each, and no other clause.
pub record Rat (live : Live) (C : Clause) (hints : List ℕ) (groups : List Group) : Type 0 where
  pub pivot : Literal
  pub rest : Clause
  pub begins : C ≡ pivot ∷ rest
  pub no_pair : ¬ (IsTautology C)
  pub reached : Assumed
  pub leads : Leads live (negations C) hints reached
  pub once : IsDistinct nat_eq (candidates groups)
  pub hold : (g : Group) → Contains groups g → GroupHolds live reached pivot g
  pub complete : (id : ℕ) (D : Clause) → live id D → Contains D (negation pivot) → Contains (candidates groups) id
