-- When a file counts as written: what is kept, and in which form.
use Rattle.std.specs.Prelude.{◌≡◌, ℕ, Bool, true, false, List, Option, Some, None, Result, Ok, Err}
use Rattle.lrat_forms.specs.SameSteps.{SpellTheSameWithin}
use Rattle.reports.specs.declared.refusal.Refusal.{Refusal}

-- if no file was kept, from the disk `old` to `new`, the disk is as it was
abbrev pub IsLeft : {D : Type 0} → D → D → Result Bool Refusal → Type 0
IsLeft old new (Ok kept) = kept ≡ false → new ≡ old
IsLeft old new (Err refusal) = new ≡ old

-- the bytes are the text; or, if the flag says so, they spell its steps in binary form, with variables up to the greatest that any proof
-- may have
abbrev pub IsIn : Bool → List ℕ → List ℕ → Type 0
IsIn false text bytes = bytes ≡ text
IsIn true text bytes = SpellTheSameWithin 199999999 text bytes

-- `Keeps kept old new binary path text`: by what was done from the disk `old` to `new`, the file at
-- the path has the text, in binary form if `binary`
pub record Keeps {D : Type 0} (kept : D → D → List ℕ → List ℕ → Type 0) (old new : D) (binary : Bool) (path text : List ℕ) : Type 0 where
  pub bytes : List ℕ
  pub form : IsIn binary text bytes
  pub stands : kept old new path bytes

-- `IsWritten kept old new binary path text`: from the disk `old` to `new` the text is kept at the
-- path, if there is a text; else the disk is as it was
abbrev pub IsWritten : {D : Type 0} → (D → D → List ℕ → List ℕ → Type 0) → D → D → Bool → List ℕ → Option (List ℕ) → Type 0
IsWritten kept old new binary path None = new ≡ old
IsWritten kept old new binary path (Some text) = Keeps kept old new binary path text
