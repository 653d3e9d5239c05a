-- What one line, and one piece, of a text leads to in the reader that compares its clauses with a formula's. The parser's state s stands
-- for the reader's body: the body keeps what it needs of s.
use Rattle.std.specs.Prelude.{◌≡◌, ℕ, List, ◌∷◌, ◌++◌, Option, option_map}
use Rattle.dimacs.specs.logic.Cnf.{Cnf}
use Rattle.dimacs.specs.logic.Limits.{Limits}
use Rattle.dimacs.specs.text.Rows.{Fails}
use Rattle.dimacs.specs.text.Words.{lines}
use Rattle.icnf.specs.declared.fault.IcnfFault.{IcnfFault}
use Rattle.icnf.specs.declared.tree_body.TreeBody.{TreeBody}
use Rattle.icnf.specs.declared.tree_lines.TreeLines.{TreeLines}
use Rattle.icnf.specs.Pieces.{kept, read_behind}
use Rattle.icnf.specs.ReadState.{ReadState}
use Rattle.icnf.specs.Parser.{no_memory}

-- the reader's body is what is kept of the parser's state s
abbrev pub IsKept : Cnf → Option ReadState → Option TreeBody → Type 0
IsKept F s body = body ≡ option_map (kept F.clauses) s

-- Reading the line after the first before lines leads the parser from the state s to a new state, whatever lines follow, and new is what
-- the reader keeps of that state. The line's number is number.
pub record TakesRow (L : Limits) (F : Cnf) (before : ℕ) (line : List ℕ) (number : ℕ) (new : Option TreeBody) (s : Option ReadState) : Type 0 where
  pub read : Option ReadState
  pub keeps : IsKept F read new
  pub goes : (more : List (List ℕ)) → read_behind L before s (line ∷ more) ≡ read_behind L number read more

-- in the parser's state s, after the first before lines, the line has this fault, whatever lines follow, or memory was refused
abbrev pub RefusesRow : Limits → ℕ → List ℕ → IcnfFault → Option ReadState → Type 0
RefusesRow L before line fault s = (more : List (List ℕ)) → Fails no_memory fault (read_behind L before s (line ∷ more))

-- the reader can always be given a line
abbrev pub MayTake : TreeLines → Type 0
MayTake l = Unit {0}

-- the reader takes the line and comes from old to new, whichever parser state its body keeps
pub record TakesLine (old : TreeLines) (line : List ℕ) (new : TreeLines) : Type 0 where
  pub limits : new.limits ≡ old.limits
  pub formula : new.formula ≡ old.formula
  pub body : (s : Option ReadState) → IsKept old.formula s old.body → TakesRow old.limits old.formula old.count line new.count new.body s

-- the reader old refuses the line with this fault, the line's or that memory was refused
abbrev pub RefusesLine : TreeLines → List ℕ → TreeLines → IcnfFault → Type 0
RefusesLine old line new fault = (s : Option ReadState) → IsKept old.formula s old.body → RefusesRow old.limits old.count line fault s

-- reading the text leads from the reader old to the reader new and the incomplete line begun, whatever bytes follow
pub record LeadsTo (old : TreeLines) (text : List ℕ) (new : TreeLines) (begun : List ℕ) : Type 0 where
  pub limits : new.limits ≡ old.limits
  pub formula : new.formula ≡ old.formula
  pub body : (s : Option ReadState) → IsKept old.formula s old.body
      → (t : Option ReadState) × IsKept old.formula t new.body × ((more : List ℕ) → read_behind old.limits old.count s (lines (text ++ more)) ≡ read_behind old.limits new.count t (lines (begun ++ more)))

-- the reader old refuses the text with this fault, whatever bytes follow, or memory was refused
abbrev pub RefusesText : TreeLines → List ℕ → IcnfFault → Type 0
RefusesText old text fault = (s : Option ReadState) → IsKept old.formula s old.body → (more : List ℕ) → Fails no_memory fault (read_behind old.limits old.count s (lines (text ++ more)))
