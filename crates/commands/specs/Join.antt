-- What `join` tells of the files of an input, cubes and logs, and what it writes.
use Rattle.std.specs.Prelude.{◌≡◌, ◌⊎◌, ◌++◌, ◌∷◌, ℕ, Bool, true, false, List, [], Option, Some, None, map, codes, if◌then◌else◌}
use Rattle.commands.specs.Known.{HoldsOf}
use Rattle.commands.specs.Names.{AreTaken, Gone, none_gone, one_more}
use Rattle.commands.specs.Written.{Keeps}
use Rattle.commands.specs.declared.drafts.Target.{Target}
use Rattle.commands.specs.declared.join.JoinFiles.{JoinFiles}
use Rattle.commands.specs.declared.join_run.JoinOptions.{JoinOptions}
use Rattle.dimacs.specs.logic.Cnf.{Cnf, Sat, assignment_of}
use Rattle.dimacs.specs.text.Answer.{satisfied_lines}
use Rattle.icnf.specs.Leaves.{Cube}
use Rattle.leaves.specs.Join.{AreClosed, Proves, ReportsOpen, IsFileOutcome}
use Rattle.leaves.specs.Leaf.{Prints}
use Rattle.leaves.specs.Notes.{note_text}
use Rattle.leaves.specs.declared.file_outcome.FileOutcome.{FileOutcome}
use Rattle.leaves.specs.declared.file_outcome.FileOutcome.TheVariants.{Closes, ClosesNothing, Refused, Satisfies}
use Rattle.leaves.specs.declared.notes.Note.{Note}
use Rattle.leaves.specs.declared.notes.Note.TheVariants as noted
use Rattle.lrat_forms.specs.Forms.{is_binary, text_form_within}
use Rattle.lrat_text.specs.Log.{log_top}
use Rattle.reports.specs.declared.report.Report.{Report}

-- ---- the files of the names, in turn: of `files` those that were read to their ends
-- the note on a fault of this number: at this step of a binary file, or at this line of a text
abbrev pub fault_note : Bool → ℕ → ℕ → Note
fault_note true step number = noted.StepFault step number
fault_note false line number = noted.Fault line number

-- the line of the file of number n, which was read to its end: none if it closes a leaf, satisfies the formula, or closes nothing and
-- `quiet`
abbrev pub end_line : (quiet binary : Bool) → ℕ → List ℕ → FileOutcome → List ℕ
end_line quiet binary n name Closes = []
end_line quiet binary n name ClosesNothing = if quiet then [] else note_text n noted.ClosesNothing name
end_line quiet binary n name (Refused place number) = note_text n (fault_note binary place number) name
end_line quiet binary n name (Satisfies values) = []

-- a run after one more name whose file was read to its end: the name is counted, the bytes are among the files, and the line is appended
abbrev pub with_file : Bool → List ℕ → List ℕ → FileOutcome → Gone → Gone
with_file quiet name bytes e s = record {
  count = one_more s.count;
  files = s.files ++ bytes ∷ [];
  notes = s.notes ++ end_line quiet (is_binary bytes) (one_more s.count) name e;
}

-- a run after one more name whose file cannot be read: the name is counted, and the line that says so is appended
abbrev pub without_file : List ℕ → Gone → Gone
without_file name s = record {
  count = one_more s.count;
  files = s.files;
  notes = s.notes ++ note_text (one_more s.count) noted.Unread name;
}

-- a file of this outcome does not end the run: it is no answer that satisfies the formula
abbrev pub GoesOn : FileOutcome → Type 0
GoesOn (Satisfies values) = ⊥
GoesOn Closes = Unit {0}
GoesOn ClosesNothing = Unit {0}
GoesOn (Refused place number) = Unit {0}

-- a file of these bytes, read to its end, leads a run from `old` to `new`
pub record ReadsFile (F : Cnf) (cubes : List Cube) (quiet : Bool) (name bytes : List ℕ) (old new : Gone) : Type 0 where
  pub end : FileOutcome
  pub tells : IsFileOutcome F cubes (map (text_form_within (log_top F)) old.files) (text_form_within (log_top F) bytes) end
  pub goes_on : GoesOn end
  pub is : new ≡ with_file quiet name bytes end old

-- A name leads a run from `old` to `new`: its file does not lead to the proof, and is read to its end; or it cannot be read. The positions
-- are: formula, cubes, `-q`, that the file does not lead to the proof, its bytes if they are known, the name, `old`, `new`.
abbrev pub TakesFile : Cnf → List Cube → Bool → Type 0 → Option (List ℕ) → List ℕ → Gone → Gone → Type 0
TakesFile F cubes quiet free known name old new = (free × HoldsOf known (λ bytes. ReadsFile F cubes quiet name bytes old new)) ⊎ (new ≡ without_file name old)

-- a file of these bytes, read after the run `old`, is an answer that satisfies the formula, and the report tells so with status 10
pub record AnswersBy (F : Cnf) (cubes : List Cube) (witness : Bool) (bytes : List ℕ) (old : Gone) (r : Report) : Type 0 where
  pub values : List Bool
  pub tells : IsFileOutcome F cubes (map (text_form_within (log_top F)) old.files) (text_form_within (log_top F) bytes) (Satisfies values)
  pub satisfies : Sat (assignment_of values) F
  pub prints : Prints 10 (old.notes ++ satisfied_lines values witness) r

-- A name ends the run `old` with this report: its file does not lead to the proof, and is an answer that satisfies the formula. The
-- positions are: formula, cubes, whether `v` lines are printed, that the file does not lead to the proof, its bytes if they are known,
-- `old`, the report.
abbrev pub StopsAt : Cnf → List Cube → Bool → Type 0 → Option (List ℕ) → Gone → Report → Type 0
StopsAt F cubes witness free known old r = free × HoldsOf known (λ bytes. AnswersBy F cubes witness bytes old r)

-- One of the names ends a run with this report, and those before it lead the run from `a` to that name. The positions are: how a name leads
-- a run on, how a name ends a run, the names, `a`, the report.
abbrev pub OneStops : (List ℕ → Gone → Gone → Type 0) → (List ℕ → Gone → Report → Type 0) → List (List ℕ) → Gone → Report → Type 0
OneStops Takes Stops [] a r = ⊥
OneStops Takes Stops (name ∷ names) a r = Stops name a r ⊎ ((b : Gone) × Takes name a b × OneStops Takes Stops names b r)

-- ---- what comes of a join
-- `IsStored kept old new target proof`: from the disk `old` to `new` the proof is kept at the
-- target, if there is one; else the disk is as it was
abbrev pub IsStored : {D : Type 0} → (D → D → List ℕ → List ℕ → Type 0) → D → D → Option Target → List ℕ → Type 0
IsStored kept old new None proof = new ≡ old
IsStored kept old new (Some target) proof = Keeps kept old new target.binary target.path.now proof

-- what is reported after a run that closes every leaf: a proof of the formula is kept, and the formula told unsatisfiable, status 20
pub record Refutes (keeps : List ℕ → Type 0) (F : Cnf) (cubes : List Cube) (s : Gone) (r : Report) : Type 0 where
  pub closed : AreClosed F cubes (map (text_form_within (log_top F)) s.files)
  pub proof : List ℕ
  pub proves : Proves F proof
  pub stands : keeps proof
  pub status : r.status ≡ 20
  pub text : r.stdout.items ≡ s.notes ++ codes "s UNSATISFIABLE\n"

-- what is reported after a run that leaves a leaf open: the open leaves are told, and nothing is kept
pub record Misses (left : Type 0) (F : Cnf) (cubes : List Cube) (s : Gone) (r : Report) : Type 0 where
  pub open_leaf : ¬ (AreClosed F cubes (map (text_form_within (log_top F)) s.files))
  pub left_so : left
  pub reports : ReportsOpen F cubes (map (text_form_within (log_top F)) s.files) s.notes r

-- The report of a join of the files of these names: all lead the run to its end, or one is an answer that satisfies the formula, and
-- nothing is kept. The positions are: how a name leads a run on, how a name ends a run, that a proof is kept, that nothing is kept,
-- formula, cubes, names, report.
abbrev pub Joins : (List ℕ → Gone → Gone → Type 0) → (List ℕ → Gone → Report → Type 0) → (List ℕ → Type 0) → Type 0 → Cnf → List Cube → List (List ℕ) → Report → Type 0
Joins Takes Stops keeps left F cubes names r =
    ((s : Gone) × AreTaken Takes names none_gone s × (Refutes keeps F cubes s r ⊎ Misses left F cubes s r)) ⊎ (left × OneStops Takes Stops names none_gone r)

-- `IsFree apart target name`: the name does not lead to the file of the proof (the target), if
-- there is one
abbrev pub IsFree : (List ℕ → List ℕ → Type 0) → Option Target → List ℕ → Type 0
IsFree apart None name = Unit {0}
IsFree apart (Some target) name = apart target.path.now name

-- the file of the proof is neither that of the input nor that of the cubes
abbrev pub IsApart : {D : Type 0} → (D → List ℕ → List ℕ → Type 0) → D → JoinFiles → Type 0
IsApart apart disk files = IsFree (apart disk) files.options.proof files.input.now × IsFree (apart disk) files.options.proof files.cubes.now

-- A name leads a run from `old` to `new`, by the files of a disk and the options (`TakesFile`). The positions are: the known bytes of
-- paths, the paths that lead to two files, the disk, the options, formula, cubes, the name, `old`, `new`.
abbrev pub Takes : {D : Type 0} → (D → List ℕ → Option (List ℕ)) → (D → List ℕ → List ℕ → Type 0) → D → JoinOptions → Cnf → List Cube → List ℕ → Gone → Gone → Type 0
Takes holds apart disk o F cubes name old new = TakesFile F cubes o.quiet (IsFree (apart disk) o.proof name) (holds disk name) name old new

-- A name ends the run `old` with this report, by the files of a disk and the options (`StopsAt`). The positions are: the known bytes of
-- paths, the paths that lead to two files, the disk, the options, formula, cubes, the name, `old`, the report.
abbrev pub Stops : {D : Type 0} → (D → List ℕ → Option (List ℕ)) → (D → List ℕ → List ℕ → Type 0) → D → JoinOptions → Cnf → List Cube → List ℕ → Gone → Report → Type 0
Stops holds apart disk o F cubes name old r = StopsAt F cubes o.witness (IsFree (apart disk) o.proof name) (holds disk name) old r
