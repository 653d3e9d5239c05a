-- Logs: the proof that a search over a base formula writes while it learns clauses. A fragment is a log that closes a cube.
use Rattle.std.specs.Prelude.{◌≡◌, ℕ, ◌+◌, ◌<◌, List, [], ◌∷◌, ◌++◌, length, max, IsSome, nat_eq, All, Contains}
use Rattle.std.specs.List.{IsDistinct}
use Rattle.std.specs.FinMap.{get, insert, len}
use Rattle.dimacs.specs.logic.Literal.{Literal, Clause, IsWithin, negation}
use Rattle.dimacs.specs.logic.Cnf.{Cnf}
use Rattle.dimacs.specs.logic.ClauseMap.{ClauseMap, Live, map_of, live_in}
use Rattle.dimacs.specs.logic.Propagation.{Rup}
use Rattle.lrat_text.specs.Grammar.{LineSpellsWithin}
use Rattle.lrat_text.specs.Proof.{without}
use Rattle.lrat_text.specs.declared.step.Step.{Step}
use Rattle.lrat_text.specs.declared.step.Step.TheVariants.{Add, Delete}

-- a cube: literals that are assumed together
abbrev pub Cube : Type 0
Cube = List Literal

-- the live clauses after a step, if those before it are M
abbrev pub after_step : ClauseMap → Step → ClauseMap
after_step M (Add id lits hints groups) = insert M id lits
after_step M (Delete ids) = without M ids

-- the greatest number added so far, after a step; top was that number before the step
abbrev pub top_after : ℕ → Step → ℕ
top_after top (Add id lits hints groups) = id
top_after top (Delete ids) = top

-- A step of a log over a base of m clauses, with the live clauses M and the last added number top: an addition under the number top + 1, by
-- reverse unit propagation; or a deletion of distinct live clauses, none of them the base's.
abbrev pub IsLogStep : ℕ → ClauseMap → ℕ → Step → Type 0
IsLogStep m M top (Add id lits hints groups) = (id ≡ top + 1) × (groups ≡ []) × Rup (live_in M) lits hints
IsLogStep m M top (Delete ids) = All (λ id. m < id) ids × All (λ id. IsSome (get M id)) ids × IsDistinct nat_eq ids

-- each step is a log step, with the live clauses and the last added number after the steps before it
abbrev pub AreLogSteps : ℕ → ClauseMap → ℕ → List Step → Type 0
AreLogSteps m M top [] = Unit {0}
AreLogSteps m M top (step ∷ steps) = IsLogStep m M top step × AreLogSteps m (after_step M step) (top_after top step) steps

-- the steps are a log over the base B
abbrev pub IsLog : Cnf → List Step → Type 0
IsLog B steps = AreLogSteps (length B.clauses) (map_of B) (length B.clauses) steps

-- the step adds a clause that has only negations of literals of the cube q
abbrev pub Negates : Cube → Step → Type 0
Negates q (Add id lits hints groups) = (l : Literal) → Contains lits l → Contains q (negation l)
Negates q (Delete ids) = ⊥

-- the last step adds a clause that has only negations of literals of the cube q
abbrev pub EndsAt : Cube → List Step → Type 0
EndsAt q steps = (front : List Step) × (last : Step) × (steps ≡ front ++ last ∷ []) × Negates q last

-- the greatest variable of a log over the base: 2,000,000, or the base's variables if that is more
abbrev pub log_top : Cnf → ℕ
log_top B = max 2000000 B.vars

-- the text is a fragment: a log over the base B whose last step closes the cube q
abbrev pub Closes : Cnf → Cube → List ℕ → Type 0
Closes B q text = (steps : List Step) × LineSpellsWithin (log_top B) text steps × IsLog B steps × EndsAt q steps

-- the number of additions among the steps
abbrev pub additions : List Step → ℕ
additions [] = 0
additions (Add id lits hints groups ∷ steps) = 1 + additions steps
additions (Delete ids ∷ steps) = additions steps

-- the text is a log over the base B with exactly n additions
abbrev pub IsHonest : Cnf → ℕ → List ℕ → Type 0
IsHonest B n text = (steps : List Step) × LineSpellsWithin (log_top B) text steps × IsLog B steps × (additions steps ≡ n)

-- no live clause is a subset of the clause C
abbrev pub IsNew : Live → Clause → Type 0
IsNew live C = (n : ℕ) (D : Clause) → live n D → ((l : Literal) → Contains D l → Contains C l) → ⊥

-- a step is fresh: an added clause has only variables of the base B and is new; a deletion comes only while more than 2,000 added clauses
-- are live
abbrev pub IsFreshStep : Cnf → ClauseMap → Step → Type 0
IsFreshStep B M (Add id lits hints groups) = All (IsWithin B.vars) lits × IsNew (live_in M) lits
IsFreshStep B M (Delete ids) = length B.clauses + 2000 < len M

-- each step is fresh, with the live clauses after the steps before it
abbrev pub AreFresh : Cnf → ClauseMap → List Step → Type 0
AreFresh B M [] = Unit {0}
AreFresh B M (step ∷ steps) = IsFreshStep B M step × AreFresh B (after_step M step) steps
