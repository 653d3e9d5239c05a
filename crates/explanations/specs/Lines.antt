-- The lines of a report that say what is wrong.
use Rattle.std.specs.Prelude.{◌==◌, ◌≡◌, ℕ, ◌+◌, List, codes}
use Rattle.std.specs.List.{before_first, after_first}
use Rattle.core.specs.Str.Parse.{digits_value, without_leading_plus}
use Rattle.explanations.specs.declared.lines.File.{File}
use Rattle.explanations.specs.declared.lines.File.TheVariants.{Own, Input, Cubes, Proof, Log, Joined}
use Rattle.explanations.specs.declared.lines.Unit.{Unit}
use Rattle.explanations.specs.declared.lines.Unit.TheVariants.{Line, Step}
use Rattle.explanations.specs.declared.lines.Fault.{Fault}
use Rattle.explanations.specs.declared.other_lines.Other.{Other}
use Rattle.explanations.specs.declared.other_lines.Other.TheVariants.{Usage, InputUnread, CubesUnread, ProofUnread, AnswerUnread, OtherFormula, CubesAboveLimit, NoLeaf, NoSplit, LeafAboveLimit, NeedsRat, NoLinks, ProofUnwritten, ClosesNothing, LogsChanged, TooManyLemmas, NoMemory}

-- the first word of a text: the bytes before the first space
abbrev pub first_word : List ℕ → List ℕ
first_word text = before_first (λ byte. byte == 32) text

-- the text after its first word and the space that ends it
abbrev pub behind_word : List ℕ → List ℕ
behind_word text = after_first (λ byte. byte == 32) text

-- a word spells this number
abbrev pub IsSpelled : ℕ → List ℕ → Type 0
IsSpelled number word = number ≡ digits_value 10 (without_leading_plus word)

-- the word of a unit
abbrev pub unit_word : Unit → List ℕ
unit_word Line = codes "line"
unit_word Step = codes "step"

-- a text has the place of a fault and its number, as `line L fault N` or `step K fault N`
pub record IsPlace (fault : Fault) (text : List ℕ) : Type 0 where
  pub unit : first_word text ≡ unit_word fault.unit
  pub at : IsSpelled fault.at (first_word (behind_word text))
  pub mark : first_word (behind_word (behind_word text)) ≡ codes "fault"
  pub number : IsSpelled fault.number (first_word (behind_word (behind_word (behind_word text))))

-- a text, after its `c`, names this file and has the place of the fault
abbrev pub IsOf : File → Fault → List ℕ → Type 0
IsOf Own fault text = IsPlace fault text
IsOf Input fault text = (first_word text ≡ codes "input") × IsPlace fault (behind_word text)
IsOf Cubes fault text = (first_word text ≡ codes "cubes") × IsPlace fault (behind_word text)
IsOf Proof fault text = (first_word text ≡ codes "proof") × IsPlace fault (behind_word text)
IsOf Log fault text = (first_word text ≡ codes "log") × IsPlace fault (behind_word text)
IsOf (Joined number) fault text =
    (first_word text ≡ codes "file") × IsSpelled number (first_word (behind_word text)) × IsPlace fault (behind_word (behind_word text))

-- a line has a fault: `c line L fault N`, `c input line L fault N`, `c file K step L fault N NAME`, and others like these
abbrev pub IsFault : Fault → List ℕ → Type 0
IsFault fault line = (first_word line ≡ codes "c") × IsOf fault.file fault (behind_word line)

-- a line names the file of this number, which cannot be read: `c file K cannot be read NAME`
pub record IsUnread (number : ℕ) (line : List ℕ) : Type 0 where
  pub mark : first_word line ≡ codes "c"
  pub file : first_word (behind_word line) ≡ codes "file"
  pub place : IsSpelled number (first_word (behind_word (behind_word line)))
  pub cannot : first_word (behind_word (behind_word (behind_word line))) ≡ codes "cannot"

-- the line without a fault number of this kind
abbrev pub line_of : Other → List ℕ
line_of Usage = codes "c usage"
line_of InputUnread = codes "c cannot read input"
line_of CubesUnread = codes "c cannot read cubes"
line_of ProofUnread = codes "c cannot read proof"
line_of AnswerUnread = codes "c cannot read answer"
line_of OtherFormula = codes "c cubes of another formula"
line_of CubesAboveLimit = codes "c cubes above limit"
line_of NoLeaf = codes "c no such leaf"
line_of NoSplit = codes "c cannot split"
line_of LeafAboveLimit = codes "c leaf above limit"
line_of NeedsRat = codes "c proof needs RAT"
line_of NoLinks = codes "c cannot open links"
line_of ProofUnwritten = codes "c cannot write proof"
line_of ClosesNothing = codes "c closes nothing"
line_of LogsChanged = codes "c logs have changed"
line_of TooManyLemmas = codes "c too many lemmas"
line_of NoMemory = codes "c no memory"
