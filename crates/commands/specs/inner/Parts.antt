-- The state of an unfinished file, to which a text is appended in text or binary form.
use Rattle.std.specs.Prelude.{◌≡◌, ◌++◌, ℕ, Bool, true, false, List, [], Option, Some, None}
use Rattle.commands.specs.declared.part_file.Part.{Part}
use Rattle.commands.specs.Written.{IsIn}
use Rattle.lrat_forms.specs.SameSteps.{HasWrittenWithin}
use Rattle.lrat_forms.specs.declared.binary_form.BinaryForm.{BinaryForm}

-- of this text these bytes were written: all of it, or, if the flag says so, what its whole lines spell in binary form
abbrev pub Forms : Bool → Option BinaryForm → List ℕ → List ℕ → Type 0
Forms false None text bytes = bytes ≡ text
Forms false (Some f) text bytes = ⊥
Forms true None text bytes = ⊥
Forms true (Some f) text bytes = HasWrittenWithin 199999999 f text bytes × (f.writer.out.items ≡ [])

-- the unfinished file is for this path, and this text was appended to it, converted to binary form
-- if `binary`
pub record IsPart {F : Type 0} (made : F → List ℕ → List ℕ → Type 0) (binary : Bool) (path text : List ℕ) (p : Part F) : Type 0 where
  pub bytes : List ℕ
  pub draft : made p.draft path bytes
  pub form : Forms binary p.form text bytes

-- whatever text was appended, the bytes that were written are the text, or spell its steps in binary form
abbrev pub IsEnded : Option BinaryForm → Type 0
IsEnded form = (binary : Bool) (text bytes : List ℕ) → Forms binary form text bytes → IsIn binary text bytes

-- the unfinished file is for this path, and no text was appended to it
abbrev pub Begins : {F : Type 0} → (F → List ℕ → List ℕ → Type 0) → Bool → List ℕ → Part F → Type 0
Begins made binary path part = IsPart made binary path [] part
