-- The answer of trimming a fragment.
use Rattle.std.specs.Prelude.{◌≡◌, ℕ, ◌<◌, ◌≤◌, ◌⊎◌, List, length}
use Rattle.dimacs.specs.logic.Cnf.{Cnf}
use Rattle.lrat_text.specs.Grammar.{LineSpellsWithin}
use Rattle.lrat_text.specs.Log.{Cube, Closes, additions, log_top}
use Rattle.lrat_text.specs.declared.step.Step.{Step}

-- the text spells steps over the base, at most n of which are additions
pub record HasAtMostAdditions (B : Cnf) (n : ℕ) (text : List ℕ) : Type 0 where
  pub steps : List Step
  pub spells : LineSpellsWithin (log_top B) text steps
  pub count : additions steps ≤ n

-- new is a shorter text than old that closes the cube q over the base B, with at most n additions
pub record IsShortened (B : Cnf) (q : Cube) (n : ℕ) (old new : List ℕ) : Type 0 where
  pub shorter : length new < length old
  pub closes : Closes B q new
  pub few : HasAtMostAdditions B n new

-- new is the text old itself, or a shorter one that closes the cube q over the base B, with at most n additions
abbrev pub Trims : Cnf → Cube → ℕ → List ℕ → List ℕ → Type 0
Trims B q n old new = (new ≡ old) ⊎ IsShortened B q n old new
