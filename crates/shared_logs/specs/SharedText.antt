-- The text of a log that takes over lemmas of other logs: lines of LRAT text, and lines of three kinds more.
use Rattle.std.specs.Prelude.{◌≡◌, ℕ, ◌≤◌, ◌^◌, true, List, [], ◌∷◌, ◌++◌, length, All, Contains, codes, decimal}
use Rattle.std.specs.Char.{is_ascii_alphanumeric}
use Rattle.dimacs.specs.logic.Cnf.{Cnf}
use Rattle.dimacs.specs.logic.Literal.{Clause}
use Rattle.lrat_text.specs.Grammar.{IsClauseNumber, SpellsStepWithin, lf, space}
use Rattle.lrat_text.specs.Lines.{IsOpen}
use Rattle.lrat_text.specs.Log.{log_top}
use Rattle.lrat_text.specs.declared.step.Step.TheVariants.{Add, Delete}
use Rattle.shared_logs.specs.SharedLogs.{SharedStep, Lemma, Import, Deletion, Clock}

-- ---- names
-- the bytes are the name of a log: 1 to 64 ASCII letters and digits
pub record IsName (name : List ℕ) : Type 0 where
  pub some : 1 ≤ length name
  pub short : length name ≤ 64
  pub plain : All (λ b. is_ascii_alphanumeric b ≡ true) name

-- the names that the lines of a log gave so far: each with the number that stands for it
abbrev pub Names : Type 0
Names = List (ℕ × List ℕ)

-- the number stands for no name yet
abbrev pub IsUnused : Names → ℕ → Type 0
IsUnused names number = All (λ x. x.0 ≡ number → ⊥) names

-- ---- one line, without its LF
-- the line is `w NUMBER NAME 0`: from here on the number stands for the name
pub record SpellsName (line : List ℕ) (number : ℕ) (name : List ℕ) : Type 0 where
  pub spelled : line ≡ codes "w " ++ decimal number ++ codes " " ++ name ++ codes " 0"
  pub numbered : IsClauseNumber number
  pub named : IsName name

-- the line is `e TIME 0`: the clock is at this time, at most 2^40, from here on
pub record SpellsClock (line : List ℕ) (time : ℕ) : Type 0 where
  pub spelled : line ≡ codes "e " ++ decimal time ++ codes " 0"
  pub limit : time ≤ 2 ^ 40

-- the line is `NUMBER i LITERALS 0 LOG THERE 0`: without the letter i it is the line of LRAT text that adds the clause by the hints LOG and
-- THERE, with variables up to most
pub record SpellsImport (most : ℕ) (line : List ℕ) (number : ℕ) (C : Clause) (log there : ℕ) : Type 0 where
  pub front : List ℕ
  pub rest : List ℕ
  pub splits : line ≡ front ++ codes " i " ++ rest
  pub one_word : ¬ (Contains front space)
  pub addition : SpellsStepWithin most (front ++ codes " " ++ rest) (Add number C (log ∷ there ∷ []) [])

-- the line spells the step, with variables up to most, if these names were given before it: an import names its log by the number that
-- stands for the log's name
abbrev pub SpellsSharedStep : ℕ → Names → List ℕ → SharedStep → Type 0
SpellsSharedStep most names line (Lemma number C hints) = SpellsStepWithin most line (Add number C hints [])
SpellsSharedStep most names line (Import number C name there) = (log : ℕ) × Contains names (log, name) × SpellsImport most line number C log there
SpellsSharedStep most names line (Deletion numbers) = SpellsStepWithin most line (Delete numbers)
SpellsSharedStep most names line (Clock time) = SpellsClock line time

-- ---- texts
-- The text is lines, each ended by LF, that give these names and spell these steps, with variables up to most: no line, or such a text and
-- one line more, which gives a name to a number that stands for none yet, or spells a step.
pub data SpellsSharedWithin (most : ℕ) : List ℕ → Names → List SharedStep → Type 0 where
  begins : SpellsSharedWithin most [] [] []
  names : (text line : List ℕ) (number : ℕ) (name : List ℕ) {given : Names} {steps : List SharedStep}
      → SpellsSharedWithin most text given steps → IsOpen line → SpellsName line number name → IsUnused given number
      → SpellsSharedWithin most (text ++ line ++ lf ∷ []) ((number, name) ∷ given) steps
  spells : (text line : List ℕ) (step : SharedStep) {given : Names} {steps : List SharedStep}
      → SpellsSharedWithin most text given steps → IsOpen line → SpellsSharedStep most given line step
      → SpellsSharedWithin most (text ++ line ++ lf ∷ []) given (steps ++ step ∷ [])

-- the text spells these steps of a log over the formula
abbrev pub SpellsShared : Cnf → List ℕ → List SharedStep → Type 0
SpellsShared F text steps = (given : Names) × SpellsSharedWithin (log_top F) text given steps

-- ---- offers
-- the line is `TIME NUMBER LITERALS 0`: when its clock was at this time, a log offered its lemma of this number, with variables up to most
pub record SpellsOffer (most : ℕ) (line : List ℕ) (time number : ℕ) (C : Clause) : Type 0 where
  pub rest : List ℕ
  pub splits : line ≡ decimal time ++ codes " " ++ rest ++ codes " 0"
  pub limit : time ≤ 2 ^ 40
  pub addition : SpellsStepWithin most (rest ++ codes " 0 0") (Add number C [] [])
