-- Steps of a proof over live clauses, and the proofs that are accepted.
use Rattle.std.specs.Prelude.{◌≡◌, ℕ, ◌*◌, ◌<◌, max, not, List, [], ◌∷◌, ◌⊎◌, IsSome, nat_eq, All, length}
use Rattle.std.specs.List.{list_any, IsDistinct}
use Rattle.std.specs.FinMap.{get, insert, retain_keys}
use Rattle.dimacs.specs.logic.Cnf.{Cnf}
use Rattle.dimacs.specs.logic.ClauseMap.{ClauseMap, map_of, live_in}
use Rattle.dimacs.specs.logic.Propagation.{Rup}
use Rattle.dimacs.specs.logic.Rat.{Rat}
use Rattle.lrat_text.specs.Grammar.{LineSpellsWithin}
use Rattle.lrat_text.specs.declared.step.Step.{Step}
use Rattle.lrat_text.specs.declared.step.Step.TheVariants.{Add, Delete}

-- the live clauses M except those whose number is in ids
abbrev pub without : ClauseMap → List ℕ → ClauseMap
without M ids = retain_keys M (λ id. not (list_any (nat_eq id) ids))

-- A step leads from the live clauses M and the greatest number added so far, top, to M' and top'. It is an addition under a greater number,
-- by reverse unit propagation (RUP) or by groups (RAT); or a deletion of distinct live clauses.
abbrev pub TakesStep : ClauseMap → ℕ → Step → ClauseMap → ℕ → Type 0
TakesStep M top (Add id lits hints groups) M' top' =
    (top < id)
    × ((Rup (live_in M) lits hints × (groups ≡ [])) ⊎ Rat (live_in M) lits hints groups)
    × (M' ≡ insert M id lits)
    × (top' ≡ id)
TakesStep M top (Delete ids) M' top' =
    All (λ id. IsSome (get M id)) ids × IsDistinct nat_eq ids × (M' ≡ without M ids) × (top' ≡ top)

-- the step adds the empty clause
abbrev pub AddsEmpty : Step → Type 0
AddsEmpty (Add id lits hints groups) = lits ≡ []
AddsEmpty (Delete ids) = ⊥

-- with the live clauses M and the greatest added number top: each step of some prefix is valid, and the last step of that prefix adds the
-- empty clause
abbrev pub Refutation : ClauseMap → ℕ → List Step → Type 0
Refutation M top [] = ⊥
Refutation M top (step ∷ steps) =
    (M' : ClauseMap) × (top' : ℕ) × TakesStep M top step M' top' × (AddsEmpty step ⊎ Refutation M' top' steps)

-- the greatest variable of a proof of the formula: 2,000,000, or twice the formula's variables if that is more
abbrev pub proof_top : Cnf → ℕ
proof_top F = max 2000000 (2 * F.vars)

-- the text spells steps, of which a prefix refutes the formula; the steps after it are free
abbrev pub Accepts : Cnf → List ℕ → Type 0
Accepts F text = (steps : List Step) × LineSpellsWithin (proof_top F) text steps × Refutation (map_of F) (length F.clauses) steps
