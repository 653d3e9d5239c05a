-- The lines of a text, and the tokens of a line.
use Rattle.std.specs.Prelude.{ℕ, Bool, true, false, ◌||◌, ◌==◌, List, [], ◌∷◌, if◌then◌else◌}
use Rattle.std.specs.List.{slice_split, filter}
use Rattle.std.specs.Str.{byte}

-- whether a byte is white space: space, tab, CR or LF
abbrev pub is_white : ℕ → Bool
is_white b = b == byte " " || b == byte "\t" || b == byte "\r" || b == byte "\n"

-- the lines of a text: a line ends at an LF, or at the end of the text
abbrev pub lines : List ℕ → List (List ℕ)
lines text = slice_split (λ b. b == byte "\n") text

-- whether a word has a byte
abbrev pub is_some_byte : List ℕ → Bool
is_some_byte [] = false
is_some_byte (b ∷ bs) = true

-- the words of a line: its maximal runs of bytes that are no white space
unfoldable pub words : List ℕ → List (List ℕ)
words line = filter is_some_byte (slice_split is_white line)

-- whether a line is a comment: its first byte is c
abbrev pub is_comment : List ℕ → Bool
is_comment [] = false
is_comment (b ∷ bs) = b == byte "c"

-- the tokens of a line: none if it is a comment, otherwise its words
abbrev pub words_of : List ℕ → List (List ℕ)
words_of line = if is_comment line then [] else words line
