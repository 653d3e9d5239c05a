-- The lines of a proof that were found: in memory, or in its file.
use Rattle.std.specs.Prelude.{◌≡◌, ℕ, List, Option, Some, None}
use Rattle.commands.specs.declared.drafts.Target.{Target}
use Rattle.commands.specs.declared.part_file.Part.{Part}
use Rattle.commands.specs.inner.Parts.{IsPart}

-- `HasText made target text part held`: the text is that of the file, which is for this target; or, if there is no file, that in memory
abbrev pub HasText : {F : Type 0} → (F → List ℕ → List ℕ → Type 0) → Target → List ℕ → Option (Part F) → List ℕ → Type 0
HasText made target text None held = held ≡ text
HasText made target text (Some part) held = IsPart made target.binary target.path.now text part
