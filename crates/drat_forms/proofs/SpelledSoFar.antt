-- What the bytes from a place on spell: what is read from there leads to it.
use Rattle.std.proofs.Common.{◌≡◌, ◌≢◌, ◌⊎◌, ℕ, ◌+◌, ◌-◌, ◌*◌, ◌<◌, ◌≤◌, Bool, true, false, List, [], ◌∷◌, ◌++◌, map, Option, Some, None, Result, Ok, Err, All}
use Rattle.dimacs.specs.logic.Literal.{Literal, Pos, Neg, IsWithin, index_of}
use Rattle.dimacs.specs.text.Numbers.{digits_from}
use Rattle.dimacs.specs.text.Words.{is_white}
use Rattle.drat_forms.specs.Grammar.{DratStep, SpellsSteps, IsGap, IsNumber, TextLiterals, TextStep, BinaryLiterals, BinaryStep, words_of}
use Rattle.drat_forms.specs.Moves.{with_literal}
use Rattle.drat_forms.specs.declared.fault.DratFault.{DratFault}
use Rattle.drat_forms.specs.declared.moves.Moved.{Moved}
use Rattle.drat_forms.specs.declared.place.Begun.{Begun}
use Rattle.drat_forms.specs.declared.place.Begun.TheVariants.{Nothing, Addition, Deletion}
use Rattle.drat_forms.specs.declared.place.Place.{Place}
use Rattle.drat_forms.specs.declared.place.Place.TheVariants.{Gap, Letter, Comment, Minus, Digits, Step, Bits, Refuted}

-- the steps of a text, and in binary form
abbrev pub TextSteps : ℕ → List ℕ → List DratStep → Type 0
TextSteps most bytes steps = SpellsSteps (TextStep most) IsGap bytes steps

abbrev pub BinarySteps : ℕ → List ℕ → List DratStep → Type 0
BinarySteps most bytes steps = SpellsSteps (BinaryStep most) (λ left. left ≡ []) bytes steps

-- the word at the end of a step that is begun so
abbrev pub end_word : Begun → ℕ
end_word Nothing = 0
end_word Addition = 0
end_word Deletion = 1

-- what follows a step that is begun so, once these literals more have come: nothing is read behind the empty clause
abbrev pub GoesOn : (List ℕ → List DratStep → Type 0) → Begun → List Literal → List ℕ → List DratStep → Type 0
GoesOn Steps Nothing [] rest steps = steps ≡ []
GoesOn Steps Nothing (l ∷ literals) rest steps = Steps rest steps
GoesOn Steps Addition literals rest steps = Steps rest steps
GoesOn Steps Deletion literals rest steps = Steps rest steps

-- the bytes are what is left of a step that is begun so, and what follows it; the words are theirs
pub record StepGoesOn (Literals : List ℕ → List Literal → List ℕ → Type 0) (Steps : List ℕ → List DratStep → Type 0) (begun : Begun) (bytes words : List ℕ) : Type 0 where
  pub literals : List Literal
  pub rest : List ℕ
  pub steps : List DratStep
  pub spelled : Literals bytes literals rest
  pub later : GoesOn Steps begun literals rest steps
  pub is : words ≡ map index_of literals ++ end_word begun ∷ words_of steps

-- the bytes are what follows a step that ends here
pub record StepEnds (Steps : List ℕ → List DratStep → Type 0) (begun : Begun) (rest words : List ℕ) : Type 0 where
  pub steps : List DratStep
  pub later : GoesOn Steps begun [] rest steps
  pub is : words ≡ end_word begun ∷ words_of steps

-- the bytes are what follows a literal of a step that is begun so
pub record LiteralCame (Literals : List ℕ → List Literal → List ℕ → Type 0) (Steps : List ℕ → List DratStep → Type 0) (most : ℕ) (begun : Begun) (l : Literal) (bytes words : List ℕ) : Type 0 where
  pub later : List ℕ
  pub within : IsWithin most l
  pub goes_on : StepGoesOn Literals Steps begun bytes later
  pub is : words ≡ index_of l ∷ later

-- the bytes spell steps, whose words these are
pub record StepsCome (Steps : List ℕ → List DratStep → Type 0) (bytes words : List ℕ) : Type 0 where
  pub steps : List DratStep
  pub spelled : Steps bytes steps
  pub is : words ≡ words_of steps

-- ---- texts

abbrev pub TextGoesOn : ℕ → Begun → List ℕ → List ℕ → Type 0
TextGoesOn most begun bytes words = StepGoesOn (TextLiterals most) (TextSteps most) begun bytes words

-- from a place between two words on
abbrev pub AtGap : ℕ → Begun → List ℕ → List ℕ → Type 0
AtGap most Nothing bytes words = StepsCome (TextSteps most) bytes words
AtGap most Addition bytes words = TextGoesOn most Addition bytes words
AtGap most Deletion bytes words = TextGoesOn most Deletion bytes words

-- the literal of a number
abbrev pub signed : Bool → ℕ → Literal
signed true n = Neg n
signed false n = Pos n

-- after a number
abbrev pub NumberCame : ℕ → Begun → Bool → ℕ → List ℕ → List ℕ → Type 0
NumberCame most begun negative n bytes words =
    ((negative ≡ false) × (n ≡ 0) × StepEnds (TextSteps most) begun bytes words) ⊎ LiteralCame (TextLiterals most) (TextSteps most) most (with_literal begun) (signed negative n) bytes words

-- after the letter d
pub record AtLetter (most : ℕ) (begun : Begun) (bytes words : List ℕ) : Type 0 where
  pub behind : ℕ
  pub more : List ℕ
  pub ended : is_white behind ≡ true
  pub split : bytes ≡ behind ∷ more
  pub next : AtGap most begun more words

-- in a comment
pub record InComment (most : ℕ) (begun : Begun) (bytes words : List ℕ) : Type 0 where
  pub line : List ℕ
  pub more : List ℕ
  pub one_line : All (λ b. b ≢ 10) line
  pub split : bytes ≡ line ++ 10 ∷ more
  pub next : AtGap most begun more words

-- in a number
pub record InNumber (Is : List ℕ → ℕ → Type 0) (most : ℕ) (begun : Begun) (negative : Bool) (bytes words : List ℕ) : Type 0 where
  pub digits : List ℕ
  pub behind : ℕ
  pub more : List ℕ
  pub number : ℕ
  pub is : Is digits number
  pub ended : is_white behind ≡ true
  pub split : bytes ≡ digits ++ behind ∷ more
  pub next : NumberCame most begun negative number more words

-- ---- the binary form

abbrev pub BinaryGoesOn : ℕ → Begun → List ℕ → List ℕ → Type 0
BinaryGoesOn most begun bytes words = StepGoesOn (BinaryLiterals most) (BinarySteps most) begun bytes words

-- the bytes make a number whole, whose first ones came to the value v, where the next one counts w times
abbrev pub Completes : ℕ → ℕ → List ℕ → ℕ → Type 0
Completes v w [] n = ⊥
Completes v w (b ∷ []) n = (b < 128) × (b ≡ 0 → w ≤ 1) × (n ≡ v + w * b)
Completes v w (b ∷ c ∷ bytes) n = (128 ≤ b) × Completes (v + w * (b - 128)) (128 * w) (c ∷ bytes) n

-- after a number
abbrev pub CodeCame : ℕ → Begun → ℕ → List ℕ → List ℕ → Type 0
CodeCame most begun n bytes words =
    ((n ≡ 0) × StepEnds (BinarySteps most) begun bytes words) ⊎ ((l : Literal) × (n ≡ index_of l) × LiteralCame (BinaryLiterals most) (BinarySteps most) most (with_literal begun) l bytes words)

-- in a number
pub record InCode (most : ℕ) (begun : Begun) (v w : ℕ) (bytes words : List ℕ) : Type 0 where
  pub front : List ℕ
  pub more : List ℕ
  pub number : ℕ
  pub completes : Completes v w front number
  pub split : bytes ≡ front ++ more
  pub next : CodeCame most begun number more words

-- ---- every place

abbrev pub FromPlace : ℕ → Begun → Place → List ℕ → List ℕ → Type 0
FromPlace most begun Gap bytes words = AtGap most begun bytes words
FromPlace most begun Letter bytes words = AtLetter most begun bytes words
FromPlace most begun Comment bytes words = InComment most begun bytes words
FromPlace most begun Minus bytes words = InNumber IsNumber most begun true bytes words
FromPlace most begun (Digits negative value) bytes words = InNumber (λ digits n. digits_from value digits ≡ Some n) most begun negative bytes words
FromPlace most begun Step bytes words = StepsCome (BinarySteps most) bytes words
FromPlace most begun (Bits value weight) bytes words = InCode most begun value weight bytes words
FromPlace most begun Refuted bytes words = words ≡ []

-- with the word that came, if one did
abbrev pub word_before : Option ℕ → List ℕ → List ℕ
word_before None words = words
word_before (Some word) words = word ∷ words

-- from the place on to which a byte leads
abbrev pub FromMove : ℕ → Result Moved DratFault → List ℕ → List ℕ → Type 0
FromMove most (Err fault) bytes words = ⊥
FromMove most (Ok m) bytes words = (later : List ℕ) × (words ≡ word_before m.word later) × FromPlace most m.begun m.place bytes later
