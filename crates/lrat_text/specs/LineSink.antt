-- Lines that are split off a text and delivered to a consumer. S is the consumer's state; `takes s line t` says that it takes a line and so
-- comes from s to t, and `refuses s line t fault` that it refuses the line with this fault.
use Rattle.std.specs.Prelude.{◌≡◌, List, [], ◌∷◌, ◌++◌, ℕ}
use Rattle.std.specs.List.{All}
use Rattle.lrat_text.specs.Grammar.{lf}
use Rattle.lrat_text.specs.Lines.{IsOpen, IsCut}
use Rattle.lrat_text.specs.declared.line_splitter.PieceFault.{PieceFault}
use Rattle.lrat_text.specs.declared.line_splitter.PieceFault.TheVariants.{NoMemory, Line}

-- the consumer takes the lines one by one, and so comes from the state s to the state t
abbrev pub TakesAll : {S : Type 0} → (S → List ℕ → S → Type 0) → S → List (List ℕ) → S → Type 0
TakesAll takes s [] t = s ≡ t
TakesAll {S = S} takes s (line ∷ lines) t = (m : S) × takes s line m × TakesAll takes m lines t

-- the text of these lines, each with its LF
abbrev pub ended_lines : List (List ℕ) → List ℕ
ended_lines [] = []
ended_lines (line ∷ lines) = line ++ lf ∷ ended_lines lines

-- the consumer takes the complete lines of the text, and so comes from the state s to the state t; rest is the text after them
pub record HandsOn {S : Type 0} (takes : S → List ℕ → S → Type 0) (s : S) (text : List ℕ) (t : S) (rest : List ℕ) : Type 0 where
  pub lines : List (List ℕ)
  pub whole : text ≡ ended_lines lines ++ rest
  pub one_by_one : All IsOpen lines
  pub taken : TakesAll takes s lines t

-- the consumer, in the state s, takes some first lines of the text and refuses the next one with this fault, after which it is in the state
-- t
abbrev pub LineRefused : {S F : Type 0} → (S → List ℕ → S → Type 0) → (S → List ℕ → S → F → Type 0) → S → List ℕ → S → F → Type 0
LineRefused {S = S} takes refuses s text t fault =
    (m : S) × (rest : List ℕ) × (line : List ℕ) × (later : List ℕ) × HandsOn takes s text m rest × IsCut rest line later × refuses m line t fault

-- Delivering the lines of the text ends early, and the consumer has come from the state s to the state t. The reason is a line that the
-- consumer refused, or memory that was refused after some lines.
abbrev pub PieceStops : {S F : Type 0} → (S → List ℕ → S → Type 0) → (S → List ℕ → S → F → Type 0) → S → List ℕ → S → PieceFault F → Type 0
PieceStops takes refuses s text t NoMemory = (lines : List (List ℕ)) × TakesAll takes s lines t
PieceStops takes refuses s text t (Line fault) = LineRefused takes refuses s text t fault
