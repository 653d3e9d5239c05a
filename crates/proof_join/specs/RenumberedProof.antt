-- Renumbered proofs: the text of a proof, for a formula to which clauses were added at its end.
use Rattle.std.specs.Prelude.{◌≡◌, ℕ, ◌+◌, ◌<◌, ◌^◌, max, nat_le, nat_eq, List, [], ◌∷◌, ◌++◌, ◌⊎◌, length, map, All, IsSome, if◌then◌else◌}
use Rattle.std.specs.List.{IsDistinct}
use Rattle.std.specs.FinMap.{get, insert}
use Rattle.dimacs.specs.logic.ClauseMap.{ClauseMap, map_of, live_in}
use Rattle.dimacs.specs.logic.Cnf.{Cnf}
use Rattle.dimacs.specs.logic.Propagation.{Rup}
use Rattle.lrat_text.specs.Grammar.{LineSpells, LineSpellsWithin, IsStep, IsClauseNumber}
use Rattle.lrat_text.specs.Proof.{without, proof_top}
use Rattle.lrat_text.specs.WrittenLine.{line_of}
use Rattle.lrat_text.specs.declared.step.Step.{Step}
use Rattle.lrat_text.specs.declared.step.Step.TheVariants.{Add, Delete}
use Rattle.proof_join.specs.RenumberedSteps.{renumbered}

-- the raised number of n: numbers up to m stay, and those above are raised by e
abbrev pub raised : ℕ → ℕ → ℕ → ℕ
raised m e n = if nat_le n m then n else n + e

-- the steps of a proof over m clauses, under the numbers that they have over m + e clauses
abbrev pub raised_steps : ℕ → ℕ → List Step → List Step
raised_steps m e steps = map (renumbered (raised m e)) steps

-- the highest number that was added after a step, if it was top before; after the empty clause numbers need not rise
abbrev pub highest_after : ℕ → Step → ℕ
highest_after top (Add id lits hints groups) = max top id
highest_after top (Delete ids) = top

-- the lines of steps; that of a deletion begins with the highest number that was added so far, or with 1 if that is 0
abbrev pub lines_from : ℕ → List Step → List ℕ
lines_from top [] = []
lines_from top (step ∷ steps) = line_of (max 1 top) step ++ lines_from (highest_after top step) steps

-- a line's property: its numbers are within their limits, also the one that begins it; top is the highest number that was added before
abbrev pub LineFits : ℕ → Step → Type 0
LineFits top (Add id lits hints groups) = IsStep (Add id lits hints groups)
LineFits top (Delete ids) = IsClauseNumber (max 1 top) × IsStep (Delete ids)

-- the lines of steps have numbers within their limits, also those that begin the lines
abbrev pub LinesFit : ℕ → List Step → Type 0
LinesFit top [] = Unit {0}
LinesFit top (step ∷ steps) = LineFits top step × LinesFit (highest_after top step) steps

-- the text spells steps with variables up to 2,000,000, and `new` is the text of the lines of these steps under raised numbers, which are
-- within their limits; it has fewer than 2^32 bytes
pub record Renumbers (m e : ℕ) (text new : List ℕ) : Type 0 where
  pub steps : List Step
  pub spelled : LineSpells text steps
  pub fit : LinesFit (m + e) (raised_steps m e steps)
  pub is : new ≡ lines_from (m + e) (raised_steps m e steps)
  pub short : length new < 2 ^ 32

-- the steps refute by reverse unit propagation: a prefix of them ends by adding the empty clause; the numbers of its additions rise, each
-- addition follows by reverse unit propagation, and each deletion is of distinct live clauses
abbrev pub RupRefutation : ClauseMap → ℕ → List Step → Type 0
RupRefutation M top [] = ⊥
RupRefutation M top (Add id lits hints groups ∷ steps) =
    (top < id) × Rup (live_in M) lits hints × (groups ≡ []) × ((lits ≡ []) ⊎ RupRefutation (insert M id lits) id steps)
RupRefutation M top (Delete ids ∷ steps) = All (λ id. IsSome (get M id)) ids × IsDistinct nat_eq ids × RupRefutation (without M ids) top steps

-- a text spells steps that refute the formula by reverse unit propagation
abbrev pub RefutesByRup : Cnf → List ℕ → Type 0
RefutesByRup F text = (steps : List Step) × LineSpellsWithin (proof_top F) text steps × RupRefutation (map_of F) (length F.clauses) steps
