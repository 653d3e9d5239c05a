-- A text that is rewritten under raised numbers, line by line.
use Rattle.std.specs.Prelude.{◌≡◌, ℕ, ◌^◌, ◌<◌, min, max, List, ◌++◌, length}
use Rattle.lrat_text.specs.Grammar.{LineSpells}
use Rattle.lrat_text.specs.WrittenLine.{line_of}
use Rattle.lrat_text.specs.declared.step.Step.{Step}
use Rattle.proof_join.specs.RenumberedProof.{raised_steps, highest_after, lines_from, LineFits, LinesFit, Renumbers}
use Rattle.proof_join.specs.declared.renumbered_proof.Stop.{Stop}
use Rattle.proof_join.specs.declared.renumbered_proof.Stop.TheVariants.{NoText, NoMemory}

-- P holds if a call ends because there is no such text; if memory was refused, nothing is promised
abbrev pub Unless : Stop → Type 0 → Type 0
Unless NoText P = P
Unless NoMemory P = Unit {0}

-- the line of a step was appended; high is the highest number that was added before, and the code keeps 2^48 for any number from there on
pub record IsPut (high : ℕ) (step : Step) (out new : List ℕ) (top : ℕ) : Type 0 where
  pub fits : LineFits high step
  pub text : new ≡ out ++ line_of (max 1 high) step
  pub short : length new < 2 ^ 32
  pub highest : top ≡ min (2 ^ 48) (highest_after high step)

-- the new text is what was written so far, followed by the lines of the rest of the old text
pub record IsLeft (m e high : ℕ) (out rest new : List ℕ) : Type 0 where
  pub steps : List Step
  pub spelled : LineSpells rest steps
  pub fit : LinesFit high (raised_steps m e steps)
  pub is : new ≡ out ++ lines_from high (raised_steps m e steps)
  pub short : length new < 2 ^ 32

-- the invariant of rewriting: the new texts of the whole text are those of the rest, after what was written so far
pub record IsUnderWay (m e : ℕ) (text : List ℕ) (top : ℕ) (out rest : List ℕ) : Type 0 where
  pub high : ℕ
  pub highest : top ≡ min (2 ^ 48) high
  pub leads : (new : List ℕ) → Renumbers m e text new → IsLeft m e high out rest new
  pub back : (new : List ℕ) → IsLeft m e high out rest new → Renumbers m e text new
