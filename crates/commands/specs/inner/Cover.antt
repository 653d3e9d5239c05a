-- The states of a run of `cover`: of a small file that is read, and of the receipts that were taken.
use Rattle.std.specs.Prelude.{◌≡◌, ◌⊎◌, ◌≤◌, ◌<◌, ℕ, Bool, true, false, List, length, Option}
use Rattle.commands.specs.Cover.{most_bytes}
use Rattle.commands.specs.Names.{Gone}
use Rattle.commands.specs.Known.{HoldsOf}
use Rattle.commands.specs.declared.cover_receipts.Run.{Run}
use Rattle.commands.specs.declared.small_file.SmallText.{SmallText}
use Rattle.commands.specs.declared.small_file.SmallText.TheVariants.{Whole, TooLong, Unread}
use Rattle.dimacs.specs.logic.Cnf.{Cnf}
use Rattle.icnf.specs.Leaves.{Cube}
use Rattle.receipts.specs.Cover.{HasTakenTexts}

-- ---- small files
-- these bytes of a file came, and are the items, unless the flag says that they are more than a receipt may have
abbrev pub IsSmall : List ℕ → List ℕ → Bool → Type 0
IsSmall bytes items false = (items ≡ bytes) × (length bytes ≤ most_bytes)
IsSmall bytes items true = most_bytes < length bytes

-- what is read of a file of these bytes, to its end: all of them, or that they are too many
abbrev pub IsTextOf : List ℕ → SmallText → Type 0
IsTextOf bytes (Whole items) = (items.items ≡ bytes) × (length bytes ≤ most_bytes)
IsTextOf bytes TooLong = most_bytes < length bytes
IsTextOf bytes Unread = ⊥

-- what is read of a file: what comes of its bytes, or that it cannot be read
abbrev pub IsText : Option (List ℕ) → SmallText → Type 0
IsText known text = HoldsOf known (λ bytes. IsTextOf bytes text) ⊎ (text ≡ Unread)

-- ---- the run
-- the run has the cover, the lines and the count of `s`
pub record IsGone (F : Cnf) (cubes : List Cube) (s : Gone) (r : Run) : Type 0 where
  pub holds : HasTakenTexts F cubes s.files r.cover
  pub notes : r.notes.items ≡ s.notes
  pub count : r.count ≡ s.count
