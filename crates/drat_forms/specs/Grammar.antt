-- The grammar of DRAT proofs, as text and in binary form. This is what a reader must believe of them. Moves and Reading say which fault bytes
-- have that spell no steps. Each argument most is the greatest variable that the proof may have.
use Rattle.std.specs.Prelude.{◌≡◌, ◌≢◌, ℕ, ◌+◌, ◌*◌, ◌<◌, ◌≤◌, true, List, [], ◌∷◌, ◌++◌, map, All, Option, Some, None}
use Rattle.std.specs.Str.{byte}
use Rattle.dimacs.specs.logic.Literal.{Literal, Pos, Neg, IsWithin, index_of}
use Rattle.dimacs.specs.text.Numbers.{digits_from}
use Rattle.dimacs.specs.text.Words.{is_white}
use Rattle.drat_forms.specs.Form.{form_of}
use Rattle.drat_forms.specs.declared.form.Form.{Form}
use Rattle.drat_forms.specs.declared.form.Form.TheVariants.{Text, Binary}

-- a step: a clause is added, or one is deleted
pub data DratStep : Type 0 where
  Add : List Literal → DratStep
  Delete : List Literal → DratStep

-- the words that a reader gives for the steps: the code of each literal, which is 2v for the variable v and 2v + 1 for its negation, and then
-- 0 after an addition and 1 after a deletion
abbrev pub words_of : List DratStep → List ℕ
words_of [] = []
words_of (Add literals ∷ steps) = map index_of literals ++ 0 ∷ words_of steps
words_of (Delete literals ∷ steps) = map index_of literals ++ 1 ∷ words_of steps

-- The bytes spell the steps, one after the other. Begins says which bytes begin with a step, and which bytes then follow it; Ends says which
-- bytes spell no step. The empty clause is the last step, whatever follows it: that is not read.
abbrev pub SpellsSteps : (List ℕ → DratStep → List ℕ → Type 0) → (List ℕ → Type 0) → List ℕ → List DratStep → Type 0
SpellsSteps Begins Ends bytes [] = Ends bytes
SpellsSteps Begins Ends bytes (Add [] ∷ steps) = (rest : List ℕ) × Begins bytes (Add []) rest × (steps ≡ [])
SpellsSteps Begins Ends bytes (step ∷ steps) = (rest : List ℕ) × Begins bytes step rest × SpellsSteps Begins Ends rest steps

-- ---- texts

-- what may stand between two words: white space, and comments, each from a c to the end of its line
pub data IsGap : List ℕ → Type 0 where
  nothing : IsGap []
  white : (b : ℕ) (gap : List ℕ) → is_white b ≡ true → IsGap gap → IsGap (b ∷ gap)
  comment : (line gap : List ℕ) → All (λ b. b ≢ byte "\n") line → IsGap gap → IsGap (byte "c" ∷ line ++ byte "\n" ∷ gap)

-- the bytes begin with the word, behind a gap; a byte of white space ends it, and then the rest follows
pub record FirstWord (bytes word rest : List ℕ) : Type 0 where
  pub gap : List ℕ
  pub behind : ℕ
  pub between : IsGap gap
  pub ended : is_white behind ≡ true
  pub split : bytes ≡ gap ++ (word ++ behind ∷ rest)

-- the word is a decimal number: some digits, the first of which may be zeros
abbrev pub IsNumber : List ℕ → ℕ → Type 0
IsNumber [] n = ⊥
IsNumber (d ∷ digits) n = digits_from 0 (d ∷ digits) ≡ Some n

-- the word of a literal: its variable's number, behind a minus if it is negated
abbrev pub IsLiteralWord : List ℕ → Literal → Type 0
IsLiteralWord word (Pos v) = IsNumber word v
IsLiteralWord word (Neg v) = (digits : List ℕ) × (word ≡ byte "-" ∷ digits) × IsNumber digits v

-- the bytes begin with the words of these literals and the number 0, and then the rest follows
abbrev pub TextLiterals : ℕ → List ℕ → List Literal → List ℕ → Type 0
TextLiterals most bytes [] rest = (word : List ℕ) × FirstWord bytes word rest × IsNumber word 0
TextLiterals most bytes (l ∷ literals) rest =
    (word : List ℕ) × (more : List ℕ) × FirstWord bytes word more × IsLiteralWord word l × IsWithin most l × TextLiterals most more literals rest

-- the bytes begin with the step: an addition is its literals and a 0, and a deletion has the word d before them
abbrev pub TextStep : ℕ → List ℕ → DratStep → List ℕ → Type 0
TextStep most bytes (Add literals) rest = TextLiterals most bytes literals rest
TextStep most bytes (Delete literals) rest = (more : List ℕ) × FirstWord bytes (byte "d" ∷ []) more × TextLiterals most more literals rest

-- the text spells the steps; its end counts as an LF, so that none need stand there
abbrev pub SpellsText : ℕ → List ℕ → List DratStep → Type 0
SpellsText most bytes steps = SpellsSteps (TextStep most) IsGap (bytes ++ byte "\n" ∷ []) steps

-- ---- the binary form

-- The bytes spell the number n in unsigned LEB128, its lowest seven bits first. A byte below 128 is the last one. A byte b from 128 on,
-- which like every byte is below 256, gives the seven bits b - 128, and the bytes after it spell the higher bits, which are not 0. So each
-- number has one spelling, and the code of a variable up to 199,999,999 has at most five bytes.
abbrev pub SpellsNumber : List ℕ → ℕ → Type 0
SpellsNumber [] n = ⊥
SpellsNumber (b ∷ []) n = (b < 128) × (n ≡ b)
SpellsNumber (b ∷ c ∷ bytes) n = (128 ≤ b) × (high : ℕ) × (0 < high) × (n + 128 ≡ b + 128 * high) × SpellsNumber (c ∷ bytes) high

-- the bytes begin with the codes of these literals and a 0, and then the rest follows
abbrev pub BinaryLiterals : ℕ → List ℕ → List Literal → List ℕ → Type 0
BinaryLiterals most bytes [] rest = bytes ≡ 0 ∷ rest
BinaryLiterals most bytes (l ∷ literals) rest =
    (front : List ℕ) × (more : List ℕ) × (bytes ≡ front ++ more) × SpellsNumber front (index_of l) × IsWithin most l × BinaryLiterals most more literals rest

-- the bytes begin with the step: the letter a for an addition or d for a deletion, its literals and a 0
abbrev pub BinaryStep : ℕ → List ℕ → DratStep → List ℕ → Type 0
BinaryStep most bytes (Add literals) rest = (more : List ℕ) × (bytes ≡ byte "a" ∷ more) × BinaryLiterals most more literals rest
BinaryStep most bytes (Delete literals) rest = (more : List ℕ) × (bytes ≡ byte "d" ∷ more) × BinaryLiterals most more literals rest

-- the bytes spell the steps in binary form
abbrev pub SpellsBinary : ℕ → List ℕ → List DratStep → Type 0
SpellsBinary most bytes steps = SpellsSteps (BinaryStep most) (λ left. left ≡ []) bytes steps

-- ---- both

-- the bytes spell the steps in this form; as long as bytes do not tell their form, they spell nothing
abbrev pub SpellsIn : Option Form → ℕ → List ℕ → List DratStep → Type 0
SpellsIn None most bytes steps = ⊥
SpellsIn (Some Text) most bytes steps = SpellsText most bytes steps
SpellsIn (Some Binary) most bytes steps = SpellsBinary most bytes steps

-- the bytes are a proof that spells the steps, with variables up to most, in the form that its first bytes tell
abbrev pub Spells : ℕ → List ℕ → List DratStep → Type 0
Spells most bytes steps = SpellsIn (form_of bytes) most bytes steps
