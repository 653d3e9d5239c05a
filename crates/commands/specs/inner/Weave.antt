-- A text that is woven, and the unfinished file to which it is written.
use Rattle.std.specs.Prelude.{◌≡◌, ℕ, Bool, List, ◌++◌, length, if◌then◌else◌}
use Rattle.commands.specs.Weave.{AreClosed, AreNotes, TellsWoven}
use Rattle.commands.specs.declared.filter.Ending.{Ending}
use Rattle.commands.specs.declared.filter.Ending.TheVariants.{Kept, Dropped}
use Rattle.commands.specs.declared.part_file.Part.{Part}
use Rattle.commands.specs.inner.Filter.{Grew}
use Rattle.dimacs.specs.logic.Cnf.{Cnf}
use Rattle.icnf.specs.Leaves.{Cube}
use Rattle.leaves.specs.BlockLift.{are_closed, told_text}
use Rattle.leaves.specs.Leaf.{Prints}
use Rattle.lrat_text.specs.Log.{Closes}
use Rattle.weaving.specs.Woven.{HasWoven}
use Rattle.weaving.specs.declared.weaver.Weaver.{Weaver}

-- the text that the weaver has handed out was written to the unfinished file, from its state `old` to `new`
pub record IsPouring {D S : Type 0} (made : D → List ℕ → List ℕ → Type 0) (F : Cnf) (old new : Part D) (w : Weaver S) : Type 0 where
  pub handed : List ℕ
  pub grew : Grew made old new handed
  pub woven : HasWoven F handed w.text

-- so it is, and with what the weaver has left the text closes the cube
pub record HasPoured {D S : Type 0} (made : D → List ℕ → List ℕ → Type 0) (F : Cnf) (q : Cube) (old new : Part D) (w : Weaver S) : Type 0 where
  pub pours : IsPouring made F old new w
  pub closes : Closes F q (pours.handed ++ w.text.out.items)

-- to the text `before` was appended, for each leaf, whether the text that was woven closes it; the status says whether it closes all
pub record HasTold {S : Type 0} (w : Weaver S) (cubes : List Cube) (before after : List ℕ) (status : ℕ) : Type 0 where
  pub told : List Bool
  pub long : length told ≡ length cubes
  pub closed : (F : Cnf) (handed : List ℕ) → HasWoven F handed w.text → AreClosed F (handed ++ w.text.out.items) cubes told
  pub text : after ≡ before ++ told_text 0 told
  pub status_is : status ≡ (if are_closed told then 20 else 0)

-- A weaving ends so. With what is kept, the text that was written to the unfinished file, from its state `old` to `new`, closes what is told;
-- or some notes are told.
abbrev pub EndsSo : {D : Type 0} → (D → List ℕ → List ℕ → Type 0) → Cnf → List Cube → Bool → Part D → Part D → Ending → Type 0
EndsSo made F cubes split old new (Kept rest r) =
    (handed : List ℕ) × Grew made old new handed × (notes : List ℕ) × AreNotes notes × TellsWoven F (handed ++ rest.items) cubes split notes r
EndsSo made F cubes split old new (Dropped r) = (notes : List ℕ) × AreNotes notes × Prints 1 notes r

-- a weaving whose text was handed out up to its last bytes ends so, behind these notes: with the last bytes the text closes what is told
abbrev pub KeepsTold : Cnf → List ℕ → List Cube → Bool → List ℕ → Ending → Type 0
KeepsTold F handed cubes split notes (Kept rest r) = TellsWoven F (handed ++ rest.items) cubes split notes r
KeepsTold F handed cubes split notes (Dropped r) = ⊥
