-- The formula of a leaf, its refutations, and the laws of what they are lifted to.
use Rattle.std.specs.Prelude.{◌≡◌, ℕ, ◌<◌, ◌≤◌, List, [], ◌∷◌, ◌++◌, ◌⊎◌, Ok, All, IsSome, length, map, nat_eq}
use Rattle.std.specs.List.{IsDistinct}
use Rattle.std.specs.FinMap.{get, insert}
use Rattle.dimacs.specs.logic.Cnf.{Cnf, IsFormula}
use Rattle.dimacs.specs.logic.ClauseMap.{ClauseMap, map_of, live_in}
use Rattle.dimacs.specs.logic.Literal.{IsTautology, IsWithin}
use Rattle.dimacs.specs.logic.Propagation.{Rup}
use Rattle.lrat_text.specs.Grammar.{LineSpellsWithin}
use Rattle.lrat_text.specs.Log.{Cube, Closes, log_top}
use Rattle.lrat_text.specs.Proof.{without}
use Rattle.lrat_text.specs.declared.step.Step.{Step}
use Rattle.lrat_text.specs.declared.step.Step.TheVariants.{Add, Delete}
use Rattle.proof_lift.specs.LiftedText.{lift_of}

-- a cube over a formula: literals of its variables, and no literal together with its negation
pub record IsCube (F : Cnf) (q : Cube) : Type 0 where
  pub within : All (IsWithin F.vars) q
  pub no_pair : ¬ (IsTautology q)

-- a leaf's formula: the formula's clauses, and after them a unit clause for each literal of the cube
abbrev pub leaf_of : Cube → Cnf → Cnf
leaf_of q F = record { vars = F.vars; clauses = F.clauses ++ map (λ x. x ∷ []) q }

-- the steps add lemmas under rising numbers by reverse unit propagation, and delete distinct live clauses, up to the empty clause; the
-- steps after it are free
abbrev pub RefutesByRup : ClauseMap → ℕ → List Step → Type 0
RefutesByRup M top [] = ⊥
RefutesByRup M top (Add id lits hints groups ∷ steps) =
    (top < id) × (groups ≡ []) × Rup (live_in M) lits hints × ((lits ≡ []) ⊎ RefutesByRup (insert M id lits) id steps)
RefutesByRup M top (Delete ids ∷ steps) = All (λ id. IsSome (get M id)) ids × IsDistinct nat_eq ids × RefutesByRup (without M ids) top steps

-- the text spells, with the variables that a log over the formula may have, steps that refute it by reverse unit propagation
abbrev pub IsRefutation : Cnf → List ℕ → Type 0
IsRefutation G text = (steps : List Step) × LineSpellsWithin (log_top G) text steps × RefutesByRup (map_of G) (length G.clauses) steps

-- `ClosesWith F q written before after`: bytes were appended to `before`, which gives `after`; with
-- the bytes `written` before them, they close the cube q over F
abbrev pub ClosesWith : Cnf → Cube → List ℕ → List ℕ → List ℕ → Type 0
ClosesWith F q written before after = (appended : List ℕ) × (after ≡ before ++ appended) × Closes F q (written ++ appended)

-- if a text is lifted, the result closes the cube
abbrev pub LiftedTextsClose : Type 0
LiftedTextsClose = (F : Cnf) (q : Cube) (text out : List ℕ) → IsFormula F → IsCube F q → lift_of F q text ≡ Ok out → Closes F q out

-- each refutation of the leaf's formula by reverse unit propagation alone is lifted
abbrev pub RefutationsAreLifted : Type 0
RefutationsAreLifted = (F : Cnf) (q : Cube) (text : List ℕ) → F.vars ≤ 199999999 → IsCube F q → IsRefutation (leaf_of q F) text → (out : List ℕ) × (lift_of F q text ≡ Ok out)
