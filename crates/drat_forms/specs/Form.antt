-- The form of a DRAT proof, which its first bytes tell.
use Rattle.std.specs.Prelude.{ℕ, ◌==◌, ◌&&◌, Bool, true, false, List, [], ◌∷◌, Option, Some, None, if◌then◌else◌}
use Rattle.std.specs.Char.{is_ascii_digit}
use Rattle.std.specs.Str.{byte}
use Rattle.drat_forms.specs.declared.form.Form.{Form}
use Rattle.drat_forms.specs.declared.form.Form.TheVariants.{Text, Binary}

-- the form of a proof that begins with d, a space, perhaps a minus and digits (if the Bool is true), and then these bytes
abbrev pub form_behind_digits : Bool → List ℕ → Option Form
form_behind_digits some [] = None
form_behind_digits some (b ∷ bytes) =
    if is_ascii_digit b then form_behind_digits true bytes else (if some && b == byte " " then Some Text else Some Binary)

-- the form of a proof that begins with d, a space, and then these bytes
abbrev pub form_behind_gap : List ℕ → Option Form
form_behind_gap [] = None
form_behind_gap (b ∷ bytes) = if b == byte "-" then form_behind_digits false bytes else form_behind_digits false (b ∷ bytes)

-- the form of a proof that begins with d, and then these bytes
abbrev pub form_behind_letter : List ℕ → Option Form
form_behind_letter [] = None
form_behind_letter (b ∷ bytes) = if b == byte " " then form_behind_gap bytes else Some Binary

-- The form of a proof that begins with these bytes; None as long as they do not tell. The letter a begins the binary form. The letter d does,
-- unless a space, a number and a space follow: in binary form these bytes would name the literal 16 twice in one deletion. Any other byte
-- begins a text.
abbrev pub form_of : List ℕ → Option Form
form_of [] = None
form_of (b ∷ bytes) = if b == byte "a" then Some Binary else (if b == byte "d" then form_behind_letter bytes else Some Text)
