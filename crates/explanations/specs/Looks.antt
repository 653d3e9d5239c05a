-- The kind of a file that was named as another one, by its first bytes and by the line that has the fault.
use Rattle.std.specs.Prelude.{◌==◌, ℕ, ◌+◌, Bool, true, false, ◌&&◌, ◌||◌, List, [], ◌∷◌, Option, None, Some, drop, is_some, is_none, nat_eq, codes, if◌then◌else◌}
use Rattle.std.specs.Cmp.Lexicographic.{pointwise}
use Rattle.std.specs.List.{starts_with, ends_with, list_all, list_any}
use Rattle.std.specs.Option.{option_map, option_and_then}
use Rattle.core.specs.Char.{is_ascii_digit}
use Rattle.memchr.specs.Find.{first_of, is_byte, matches, places}
use Rattle.explanations.specs.declared.table.Subject.{Subject}
use Rattle.explanations.specs.declared.table.Subject.TheVariants.{Input, Proof, DratProof, Cubes, Answer, Events, Session}
use Rattle.explanations.specs.declared.looks.Look.{Look}
use Rattle.explanations.specs.declared.looks.Look.TheVariants.{Gzip, Xz, Zstd, Bzip2, ByteOrderMark, Utf16, Program, WebPage, MaxSat, Icnf, Clauses, BinaryProof, Binary, BinaryDrat, BinaryFrat, Drat, Frat, VeriPb, LineEnds, Comments}

-- whether a text begins with these bytes
abbrev pub begins : List ℕ → List ℕ → Bool
begins text bytes = starts_with nat_eq text bytes

-- whether a text ends with these bytes
abbrev pub ends : List ℕ → List ℕ → Bool
ends text bytes = ends_with nat_eq text bytes

-- the packing of a file, by its first bytes; none if it is none of the four
abbrev pub packing : List ℕ → Option Look
packing head =
    if begins head (31 ∷ 139 ∷ []) then Some Gzip
    else if begins head (253 ∷ 55 ∷ 122 ∷ 88 ∷ 90 ∷ 0 ∷ []) then Some Xz
    else if begins head (40 ∷ 181 ∷ 47 ∷ 253 ∷ []) then Some Zstd
    else if begins head (codes "BZh") then Some Bzip2
    else None

-- the kind of a file that its first bytes name, whatever was wanted; none if they name none
abbrev pub mark : List ℕ → Option Look
mark head =
    if begins head (239 ∷ 187 ∷ 191 ∷ []) then Some ByteOrderMark
    else if begins head (255 ∷ 254 ∷ []) || begins head (254 ∷ 255 ∷ []) then Some Utf16
    else if begins head (127 ∷ 69 ∷ 76 ∷ 70 ∷ []) then Some Program
    else if begins head (codes "<") then Some WebPage
    else packing head

-- whether a line begins with a number
abbrev pub begins_with_number : List ℕ → Bool
begins_with_number [] = false
begins_with_number (byte ∷ line) = (byte == 45) || is_ascii_digit byte

-- the kind of a file that was named as a formula, by the line that has the fault
abbrev pub formula_look : List ℕ → Option Look
formula_look line =
    if begins line (codes "p wcnf") then Some MaxSat
    else if begins line (codes "p inccnf") then Some Icnf
    else if begins_with_number line then Some Clauses
    else None

-- the bytes after the first byte 00; none if there is none
abbrev pub after_zero_lem : List ℕ → Option (List ℕ)
after_zero_lem bytes = option_map (λ end. drop (end + 1) bytes) (first_of (places (is_byte 0) bytes))

-- the bytes after the first step of a binary DRAT proof: `a` or `d`, numbers, and 00; no bytes are after no bytes
abbrev pub after_step_lem : List ℕ → Option (List ℕ)
after_step_lem [] = Some []
after_step_lem (letter ∷ bytes) = if (letter == 97) || (letter == 100) then after_zero_lem (letter ∷ bytes) else None

-- the bytes after the first three steps of a binary DRAT proof
abbrev pub after_three_steps_lem : List ℕ → Option (List ℕ)
after_three_steps_lem bytes = option_and_then after_step_lem (option_and_then after_step_lem (after_step_lem bytes))

-- whether a byte may occur in a list of numbers
abbrev pub is_of_numbers_lem : ℕ → Bool
is_of_numbers_lem byte = (byte == 32) || (byte == 45) || is_ascii_digit byte

-- whether a line has no number 0 between two others
abbrev pub lacks_inner_zero_lem : List ℕ → Bool
lacks_inner_zero_lem line = is_none (first_of (matches line (codes " 0 ") 0))

-- whether the last number of a line is 0
abbrev pub ends_with_zero_lem : List ℕ → Bool
ends_with_zero_lem line = pointwise nat_eq line (codes "0") || ends line (codes " 0")

-- whether a line is one of a DRAT proof that adds a clause: numbers, of which the last one alone is 0
abbrev pub is_drat_lemma_lem : List ℕ → Bool
is_drat_lemma_lem line = list_all is_of_numbers_lem line && ends_with_zero_lem line && lacks_inner_zero_lem line

-- whether a line is one of a DRAT proof that deletes a clause: the letter `d` before such numbers
abbrev pub is_drat_deletion_lem : List ℕ → Bool
is_drat_deletion_lem line = begins line (codes "d ") && is_drat_lemma_lem (drop 2 line)

-- the kind of a file that was named as a proof and begins as one in binary form
abbrev pub binary_look : List ℕ → List ℕ → Option Look
binary_look head line =
    if is_some (after_three_steps_lem head) then Some BinaryDrat
    else if is_drat_deletion_lem line then Some Drat
    else if begins line (codes "a ") then Some Frat
    else None

-- the kind of a file that was named as a proof and begins as one in text form
abbrev pub text_look : List ℕ → Option Look
text_look line =
    if ends line (13 ∷ []) then Some LineEnds
    else if begins line (codes "c") then Some Comments
    else if begins line (codes "pseudo-Boolean") then Some VeriPb
    else if begins line (codes "o ") || begins line (codes "l ") || begins line (codes "i ") then Some Frat
    else if begins line (codes "o") then Some BinaryFrat
    else if is_drat_lemma_lem line || is_drat_deletion_lem line then Some Drat
    else None

-- the kind of a file that was named as an LRAT proof: in binary form if its first byte is `a` or `d`
abbrev pub proof_look : List ℕ → List ℕ → Option Look
proof_look head line =
    if begins head (codes "a") || begins head (codes "d") then binary_look head line
    else text_look line

-- the kind of a file that was named as a LIDRUP text
abbrev pub session_look : List ℕ → List ℕ → Option Look
session_look head line =
    if list_any (λ byte. byte == 0) head then Some Binary
    else if ends line (13 ∷ []) then Some LineEnds
    else None

-- the kind of a file that was named as a text in which no byte is 0; `other` if it has none
abbrev pub other_look : List ℕ → Option Look → Option Look
other_look head other = if list_any (λ byte. byte == 0) head then Some BinaryProof else other

-- the kind of a file that was named as this subject, if its first bytes alone do not name it
abbrev pub look_as : Subject → List ℕ → List ℕ → Option Look
look_as Proof head line = proof_look head line
look_as Session head line = session_look head line
look_as DratProof head line = None
look_as Input head line = other_look head (formula_look line)
look_as Cubes head line = other_look head None
look_as Answer head line = other_look head None
look_as Events head line = other_look head None

-- the first of two kinds that is there
abbrev pub first_look : Option Look → Option Look → Option Look
first_look None other = other
first_look (Some look) other = Some look

-- the kind of a file that was named as this subject: its first bytes decide first, whatever was wanted, and then its lines
abbrev pub look : Subject → List ℕ → List ℕ → Option Look
look subject head line = first_look (mark head) (look_as subject head line)
