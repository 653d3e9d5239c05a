-- What a byte of a DRAT proof leads to, by the place at which it stands. Each argument most is the greatest variable that the proof may have.
use Rattle.std.specs.Prelude.{ℕ, ◌+◌, ◌-◌, ◌*◌, ◌/◌, ◌^◌, ◌==◌, ◌&&◌, ◌||◌, nat_lt, nat_le, Bool, true, false, Option, Some, None, Result, Ok, Err, if◌then◌else◌}
use Rattle.std.specs.Char.{is_ascii_digit}
use Rattle.std.specs.Str.{byte}
use Rattle.dimacs.specs.text.Words.{is_white}
use Rattle.drat_forms.specs.declared.fault.DratFault.{DratFault}
use Rattle.drat_forms.specs.declared.fault.DratFault.TheVariants.{BadByte, VariableTooLarge}
use Rattle.drat_forms.specs.declared.moves.Moved.{Moved}
use Rattle.drat_forms.specs.declared.place.Begun.{Begun}
use Rattle.drat_forms.specs.declared.place.Begun.TheVariants.{Nothing, Addition, Deletion}
use Rattle.drat_forms.specs.declared.place.Place.{Place}
use Rattle.drat_forms.specs.declared.place.Place.TheVariants.{Gap, Letter, Comment, Minus, Digits, Step, Bits, Refuted}

-- to a place at which no word is complete
abbrev pub goes_to : Begun → Place → Result Moved DratFault
goes_to begun place = Ok (record { begun = begun; place = place; word = None })

-- what is read of a step after a literal more
abbrev pub with_literal : Begun → Begun
with_literal Nothing = Addition
with_literal Addition = Addition
with_literal Deletion = Deletion

-- a literal by its code: twice its variable, and one more if it is negated; next is the place after it
abbrev pub literal_read : ℕ → Begun → ℕ → Place → Result Moved DratFault
literal_read most begun code next =
    if nat_le (code / 2) most then Ok (record { begun = with_literal begun; place = next; word = Some code }) else Err VariableTooLarge

-- the 0 that ends a step: an addition without a literal is the empty clause, after which nothing is read
abbrev pub zero_read : Begun → Place → Result Moved DratFault
zero_read Nothing next = Ok (record { begun = Nothing; place = Refuted; word = Some 0 })
zero_read Addition next = Ok (record { begun = Nothing; place = next; word = Some 0 })
zero_read Deletion next = Ok (record { begun = Nothing; place = next; word = Some 1 })

-- the code of the literal of a number other than 0, with a minus or without it
abbrev pub code_of : Bool → ℕ → ℕ
code_of true n = 2 * n + 1
code_of false n = 2 * n

-- a complete number of a text, with a minus or without it; -0 is none
abbrev pub number_read : ℕ → Begun → Bool → ℕ → Result Moved DratFault
number_read most begun negative n =
    if n == 0 then (if negative then Err BadByte else zero_read begun Gap) else literal_read most begun (code_of negative n) Gap

-- a byte between two words of a text: white space, a word's first byte, or c, which begins a comment
abbrev pub letter_read : Begun → Result Moved DratFault
letter_read Nothing = goes_to Deletion Letter
letter_read Addition = Err BadByte
letter_read Deletion = Err BadByte

abbrev pub after_gap : Begun → ℕ → Result Moved DratFault
after_gap begun b =
    if is_white b then goes_to begun Gap
    else (if is_ascii_digit b then goes_to begun (Digits false (b - byte "0"))
    else (if b == byte "-" then goes_to begun Minus
    else (if b == byte "c" then goes_to begun Comment
    else (if b == byte "d" then letter_read begun else Err BadByte))))

-- a byte after the letter d
abbrev pub after_letter : Begun → ℕ → Result Moved DratFault
after_letter begun b = if is_white b then goes_to begun Gap else Err BadByte

-- a byte of a comment, which goes to the end of its line
abbrev pub in_comment : Begun → ℕ → Result Moved DratFault
in_comment begun b = if b == byte "\n" then goes_to begun Gap else goes_to begun Comment

-- a byte after a minus
abbrev pub after_minus : Begun → ℕ → Result Moved DratFault
after_minus begun b = if is_ascii_digit b then goes_to begun (Digits true (b - byte "0")) else Err BadByte

-- a byte after a digit of a text's number, whose digits so far have this value
abbrev pub after_digit : ℕ → Begun → Bool → ℕ → ℕ → Result Moved DratFault
after_digit most begun negative value b =
    if nat_le value most then (if is_ascii_digit b then goes_to begun (Digits negative (10 * value + (b - byte "0")))
    else (if is_white b then number_read most begun negative value else Err BadByte))
    else Err VariableTooLarge

-- the letter of a step in binary form
abbrev pub after_step : ℕ → Result Moved DratFault
after_step b = if b == byte "a" then goes_to Nothing (Bits 0 1) else (if b == byte "d" then goes_to Deletion (Bits 0 1) else Err BadByte)

-- a complete number in binary form: 0 ends a step, 1 means nothing, any other one is a literal's code
abbrev pub code_read : ℕ → Begun → ℕ → Result Moved DratFault
code_read most begun code =
    if code == 0 then zero_read begun Step else (if code == 1 then Err BadByte else literal_read most begun code (Bits 0 1))

-- A byte of a number in binary form, whose bytes so far have this value; the byte has this weight, a power of 128. A byte below 128 ends the
-- number, and is not 0 after another byte. A number has at most five bytes.
abbrev pub after_bits : ℕ → Begun → ℕ → ℕ → ℕ → Result Moved DratFault
after_bits most begun value weight b =
    if nat_le (value / 2) most && nat_le weight (2 ^ 28) then (
    if nat_le 128 b then goes_to begun (Bits (value + weight * (b - 128)) (128 * weight))
    else (if b == 0 && nat_lt 1 weight then Err BadByte else code_read most begun (value + weight * b)))
    else Err VariableTooLarge

-- a byte at each place
abbrev pub after_byte : ℕ → Begun → Place → ℕ → Result Moved DratFault
after_byte most begun Gap b = after_gap begun b
after_byte most begun Letter b = after_letter begun b
after_byte most begun Comment b = in_comment begun b
after_byte most begun Minus b = after_minus begun b
after_byte most begun (Digits negative value) b = after_digit most begun negative value b
after_byte most begun Step b = after_step b
after_byte most begun (Bits value weight) b = after_bits most begun value weight b
after_byte most begun Refuted b = goes_to begun Refuted
