-- What `cover` tells of the files of an input, cubes and receipts.
use Rattle.std.specs.Prelude.{◌≡◌, ◌⊎◌, ◌≤◌, ◌<◌, ◌^◌, ◌++◌, ℕ, Bool, List, [], ◌∷◌, length, Option, codes, if◌then◌else◌}
use Rattle.commands.specs.Known.{HoldsOf}
use Rattle.commands.specs.Names.{AreTaken, Gone, none_gone, one_more}
use Rattle.commands.specs.Refusals.{IsOneOf}
use Rattle.dimacs.specs.logic.Cnf.{Cnf}
use Rattle.log_join.specs.ClosedLeaves.{Leaf, open_from}
use Rattle.icnf.specs.Leaves.{Cube}
use Rattle.leaves.specs.Leaf.{Prints}
use Rattle.leaves.specs.Notes.{missing_text, note_text}
use Rattle.leaves.specs.declared.notes.Note.{Note}
use Rattle.leaves.specs.declared.notes.Note.TheVariants as noted
use Rattle.receipts.specs.ClosedLeaves.{AreCovered, LeavesClosedByTexts, ClassifiesText}
use Rattle.receipts.specs.declared.cover.TextKind.{TextKind}
use Rattle.receipts.specs.declared.cover.TextKind.TheVariants.{Closes, ClosesNothing, OtherFormula, Refused}
use Rattle.reports.specs.declared.refusal.Refusal.{Refusal}
use Rattle.reports.specs.declared.refusal.Refusal.TheVariants.{Input, Cubes, Proof}
use Rattle.reports.specs.declared.report.Report.{Report}

-- ---- the files of the names, in turn: of `files` the texts that were taken
-- the line of the file of number n, whose text was taken as this kind: none if it closes a leaf, or if it closes nothing and `quiet`
abbrev pub taken_line : (quiet : Bool) → ℕ → List ℕ → TextKind → List ℕ
taken_line quiet n name Closes = []
taken_line quiet n name ClosesNothing = if quiet then [] else note_text n noted.ClosesNothing name
taken_line quiet n name OtherFormula = note_text n noted.OtherFormula name
taken_line quiet n name (Refused line) = note_text n (noted.NoReceipt line) name

-- a run after one more name whose text was taken as this kind: the name is counted, the text is among the files, and the line is appended
abbrev pub with_text : Bool → List ℕ → List ℕ → TextKind → Gone → Gone
with_text quiet name text taken s = record {
  count = one_more s.count;
  files = s.files ++ text ∷ [];
  notes = s.notes ++ taken_line quiet (one_more s.count) name taken;
}

-- a run after one more name whose text was not taken: the name is counted, and the line of the note is appended
abbrev pub without_text : Note → List ℕ → Gone → Gone
without_text note name s = record {
  count = one_more s.count;
  files = s.files;
  notes = s.notes ++ note_text (one_more s.count) note name;
}

-- the most bytes of a receipt that is taken: 64 MiB
abbrev pub most_bytes : ℕ
most_bytes = 2 ^ 26

-- a file of these bytes leads a run from `old` to `new`: its text is taken, and told as what it is; or it has too many bytes
pub data ReadsText (F : Cnf) (cubes : List Cube) (quiet : Bool) (name bytes : List ℕ) (old new : Gone) : Type 0 where
  takes : (taken : TextKind) → length bytes ≤ most_bytes → ClassifiesText F cubes old.files bytes taken → new ≡ with_text quiet name bytes taken old
      → ReadsText F cubes quiet name bytes old new
  leaves_out : most_bytes < length bytes → new ≡ without_text noted.TooLong name old → ReadsText F cubes quiet name bytes old new

-- a name leads a run from `old` to `new`: its file is read to its end, or cannot be read
abbrev pub TakesText : Cnf → List Cube → Bool → Option (List ℕ) → List ℕ → Gone → Gone → Type 0
TakesText F cubes quiet known name old new = HoldsOf known (λ bytes. ReadsText F cubes quiet name bytes old new) ⊎ (new ≡ without_text noted.Unread name old)

-- ---- what comes of them
-- the report after the run `s`: `s COVERED`, status 0, if and only if the texts that were taken cover the leaves; else each leaf that none
-- of them closes, and status 1
pub data EndsCover (F : Cnf) (cubes : List Cube) (s : Gone) (r : Report) : Type 0 where
  covers : AreCovered F cubes s.files → Prints 0 (s.notes ++ codes "s COVERED\n") r → EndsCover F cubes s r
  misses : (leaves : List Leaf) → ¬ (AreCovered F cubes s.files) → LeavesClosedByTexts F cubes s.files leaves
      → Prints 1 (s.notes ++ missing_text (open_from 0 leaves) ++ codes "s NOT COVERED\n") r → EndsCover F cubes s r

-- the report after the files of these names were read in turn
pub record TellsCover (holds : List ℕ → Option (List ℕ)) (F : Cnf) (cubes : List Cube) (quiet : Bool) (names : List (List ℕ)) (r : Report) : Type 0 where
  pub seen : Gone
  pub are : AreTaken (λ name. TakesText F cubes quiet (holds name) name) names none_gone seen
  pub ends : EndsCover F cubes seen r

-- a refusal of `cover`: want of memory, or the input, the cubes or the list of names cannot be read
abbrev pub IsUncovered : Refusal → Type 0
IsUncovered f = IsOneOf Input Cubes f ⊎ (f ≡ Proof)
