-- The conflict at which a search ends at its limit: one decision is not of the cube, so that a lemma would have to be learnt.
use Rattle.std.specs.Prelude.{◌≡◌, ℕ, ◌<◌, true, List, [], All, Contains}
use Rattle.dimacs.specs.logic.Cnf.{Cnf}
use Rattle.dimacs.specs.logic.ClauseMap.{Live, map_of, live_in}
use Rattle.dimacs.specs.logic.Literal.{Literal, IsWithin}
use Rattle.lrat_text.specs.Grammar.{LineSpellsWithin}
use Rattle.lrat_text.specs.Log.{Cube, log_top}
use Rattle.lrat_text.specs.Runs.{after_steps}
use Rattle.lrat_text.specs.declared.step.Step.{Step}
use Rattle.watches.specs.Law.{NoneFalseOrUnit, IsConflict}
use Rattle.watches.specs.Trails.{holds, up_to, present}
use Rattle.watches.specs.declared.trail.Assigned.{Assigned}
use Rattle.conflict_analysis.specs.BuiltTrails.{AreBuilt}
use Rattle.conflict_analysis.specs.Lemmas.{IsDecision}

-- a trail's property: if it is cut to any level below its present one, no live clause is false or unit under it
abbrev pub QuietBelow : Live → List Assigned → Type 0
QuietBelow live entries = (k : ℕ) → k < present entries → NoneFalseOrUnit live (up_to entries k)

-- a trail's property: each literal of the cube is true on it
abbrev pub AllHold : List Assigned → List Literal → Type 0
AllHold entries cube = (l : Literal) → Contains cube l → holds entries l ≡ true

-- the conflict of a search that the cube does not close: under a trail of these variables a live clause is false; the trail's literals were
-- decided or implied by live clauses, nothing was left to propagate before a decision, the cube is true, and one decision is no literal of
-- the cube
pub record IsOpenConflict (live : Live) (vars : ℕ) (q : Cube) : Type 0 where
  pub trail : List Assigned
  pub within : All (λ e. IsWithin vars e.literal) trail
  pub built : AreBuilt live [] trail
  pub quiet : QuietBelow live trail
  pub cube : AllHold trail q
  pub decision : Literal
  pub decided : IsDecision trail decision
  pub outside : ¬ (Contains q decision)
  pub number : ℕ
  pub conflict : IsConflict live trail number

-- the text spells steps over the base, after which the live clauses have a conflict that the cube does not close
pub record MeetsConflict (B : Cnf) (q : Cube) (text : List ℕ) : Type 0 where
  pub steps : List Step
  pub spells : LineSpellsWithin (log_top B) text steps
  pub conflict : IsOpenConflict (live_in (after_steps (map_of B) steps)) B.vars q
