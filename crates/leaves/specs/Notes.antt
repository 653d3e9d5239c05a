-- The `c` lines that `join` and `cover` print of their files and leaves.
use Rattle.std.specs.Prelude.{ℕ, ◌+◌, ◌/◌, ◌%◌, ◌==◌, nat_le, ◌&&◌, not, List, [], ◌∷◌, ◌++◌, flat_map, codes, decimal, slice_index_or, if◌then◌else◌}
use Rattle.leaves.specs.declared.notes.Note.{Note}
use Rattle.leaves.specs.declared.notes.Note.TheVariants.{Fault, StepFault, ClosesNothing, Unread, NoReceipt, OtherFormula, TooLong}

-- the hexadecimal digit of this value, from 0 to 15, as a byte
abbrev pub hex_digit : ℕ → ℕ
hex_digit n = slice_index_or (codes "0123456789ABCDEF") n 0

-- a byte of a file's name as it is printed: the byte if it is from 33 to 126 and not `%` (37), and else `%` and two hexadecimal digits
abbrev pub shown_byte : ℕ → List ℕ
shown_byte b = if nat_le 33 b && nat_le b 126 && not (b == 37) then b ∷ [] else 37 ∷ hex_digit (b / 16) ∷ hex_digit (b % 16) ∷ []

-- a file's name as it is printed
abbrev pub name_text : List ℕ → List ℕ
name_text name = flat_map shown_byte name

-- a fault: the words `place`, the line or step `at`, from 1, and the fault's number
abbrev pub fault_said : List ℕ → ℕ → ℕ → List ℕ
fault_said place at number = place ++ decimal at ++ codes " fault " ++ decimal number

-- the words of a note
abbrev pub said : Note → List ℕ
said (Fault line number) = fault_said (codes " line ") line number
said (StepFault step number) = fault_said (codes " step ") step number
said ClosesNothing = codes " closes nothing"
said Unread = codes " cannot be read"
said (NoReceipt line) = codes " no receipt at line " ++ decimal line
said OtherFormula = codes " of another formula"
said TooLong = codes " too long"

-- the line of a file: its number among the names, from 1, the note, and the name
abbrev pub note_text : ℕ → Note → List ℕ → List ℕ
note_text file note name = codes "c file " ++ decimal file ++ said note ++ codes " " ++ name_text name ++ codes "\n"

-- the line of the missing leaf at the index `place`, from 0
abbrev pub missing_line : ℕ → List ℕ
missing_line place = codes "c leaf " ++ decimal (place + 1) ++ codes " missing\n"

-- the lines of the missing leaves at these indices, from 0
abbrev pub missing_text : List ℕ → List ℕ
missing_text places = flat_map missing_line places
