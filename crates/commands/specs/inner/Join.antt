-- The states of a run of `join`, which reads files and writes the proof meanwhile.
use Rattle.std.specs.Prelude.{◌≡◌, ◌≢◌, ◌⊎◌, ◌++◌, ◌∷◌, ℕ, Bool, List, [], map, Option, Some, None, Result, Ok, refl}
use Rattle.std.proofs.Common.{sym, ◌∙◌, subst, append_assoc, append-nil}
use Rattle.commands.specs.Names.{AreTaken, Gone, names_behind, names_of, none_gone}
use Rattle.commands.specs.Join.{AnswersBy, GoesOn, IsStored, OneStops, ReadsFile, Stops, Takes, end_line, without_file}
use Rattle.commands.specs.Known.{HoldsOf}
use Rattle.commands.specs.declared.drafts.Target.{Target}
use Rattle.commands.specs.declared.join_run.Ended.{Ended}
use Rattle.commands.specs.declared.join_run.JoinOptions.{JoinOptions}
use Rattle.commands.specs.declared.join_run.Sheet.{Sheet}
use Rattle.commands.specs.declared.part_file.Part.{Part}
use Rattle.commands.specs.inner.Parts.{IsPart}
use Rattle.dimacs.specs.logic.Cnf.{Cnf}
use Rattle.dimacs.specs.text.Answer.{satisfied_lines}
use Rattle.text_or_binary.specs.FormJoin.{HasReadFormFiles}
use Rattle.text_or_binary.specs.declared.form_join.FormJoin.{FormJoin}
use Rattle.icnf.specs.Leaves.{Cube}
use Rattle.leaves.specs.Join.{IsFileOutcome}
use Rattle.leaves.specs.Leaf.{Prints}
use Rattle.leaves.specs.declared.file_outcome.FileOutcome.{FileOutcome}
use Rattle.leaves.specs.declared.file_outcome.FileOutcome.TheVariants.{Satisfies}
use Rattle.lrat_forms.specs.Forms.{is_binary, text_form_within}
use Rattle.lrat_text.specs.Log.{log_top}
use Rattle.reports.specs.declared.refusal.Refusal.{Refusal}
use Rattle.reports.specs.declared.report.Report.{Report}

-- `HasPart made target written part`: the file of the proof has the bytes `written`, in the form of
-- the target; there is no file if there is no target
abbrev pub HasPart : {E : Type 0} → (E → List ℕ → List ℕ → Type 0) → Option Target → List ℕ → Option (Part E) → Type 0
HasPart made None written None = Unit {0}
HasPart made None written (Some p) = ⊥
HasPart made (Some target) written None = ⊥
HasPart made (Some target) written (Some p) = IsPart made target.binary target.path.now written p

-- these files were joined, and of the next one these bytes; the bytes that the join handed out were written to the file of the proof
pub record Stands {E : Type 0} (made : E → List ℕ → List ℕ → Type 0) (target : Option Target) (F : Cnf) (cubes : List Cube) (files : List (List ℕ)) (bytes : List ℕ)
    (join : FormJoin) (part : Option (Part E)) : Type 0 where
  pub written : List ℕ
  pub holds : HasReadFormFiles F cubes files bytes written join
  pub part_is : HasPart made target written part

-- the bytes `more` of a file were joined, from the join `old` to `new`, and what was handed out meanwhile was written, from the file `part`
-- to `after`
abbrev pub HasJoined : {E : Type 0} → (E → List ℕ → List ℕ → Type 0) → FormJoin → FormJoin → Option (Part E) → Option (Part E) → List ℕ → Type 0
HasJoined made old new part after more = (target : Option Target) (F : Cnf) (cubes : List Cube) (files : List (List ℕ)) (bytes : List ℕ)
    → Stands made target F cubes files bytes old part → Stands made target F cubes files (bytes ++ more) new after

-- a join that stays, with a file that stays, has joined no bytes
pub joined_nothing : {E : Type 0} (made : E → List ℕ → List ℕ → Type 0) (join : FormJoin) (part : Option (Part E)) → HasJoined made join join part part []
joined_nothing made join part target F cubes files bytes h =
    let P : List ℕ → Type 0 = λ all. Stands made target F cubes files all join part in
    subst P (sym (append-nil bytes)) h

-- what is joined in two turns is joined as one concatenation
pub joined_more : {E : Type 0} (made : E → List ℕ → List ℕ → Type 0) (a b c : FormJoin) (p q r : Option (Part E)) (xs ys : List ℕ)
    → HasJoined made a b p q xs → HasJoined made b c q r ys → HasJoined made a c p r (xs ++ ys)
joined_more made a b c p q r xs ys h k target F cubes files bytes start =
    let P : List ℕ → Type 0 = λ all. Stands made target F cubes files all c r in
    subst P (append_assoc bytes xs ys) (k target F cubes files (bytes ++ xs) (h target F cubes files bytes start))

-- the bytes `more` of a file were joined (`HasJoined`), and the disk stayed
abbrev pub HasJoinedOn : {A E : Type 0} → (E → List ℕ → List ℕ → Type 0) → A → A → FormJoin → FormJoin → Option (Part E) → Option (Part E) → List ℕ → Type 0
HasJoinedOn made disk now old new part after more = (now ≡ disk) × HasJoined made old new part after more

-- a join that stays, over a disk that stays, has joined no bytes
pub joined_on_nothing : {A E : Type 0} (made : E → List ℕ → List ℕ → Type 0) (disk : A) (join : FormJoin) (part : Option (Part E)) → HasJoinedOn made disk disk join join part part []
joined_on_nothing made disk join part = (refl, joined_nothing made join part)

-- what is joined in two turns, over a disk that stays, is joined as one concatenation
pub joined_on_more : {A E : Type 0} (made : E → List ℕ → List ℕ → Type 0) (d e f : A) (a b c : FormJoin) (p q r : Option (Part E)) (xs ys : List ℕ)
    → HasJoinedOn made d e a b p q xs → HasJoinedOn made e f b c q r ys → HasJoinedOn made d f a c p r (xs ++ ys)
joined_on_more made d e f a b c p q r xs ys h k = (k.0 ∙ h.0, joined_more made a b c p q r xs ys h.1 k.1)

-- a file of these bytes was read to its end after these files, is told as what it is, and is joined with them
pub record EndsFile {E : Type 0} (made : E → List ℕ → List ℕ → Type 0) (target : Option Target) (F : Cnf) (cubes : List Cube) (files : List (List ℕ)) (bytes : List ℕ)
    (join : FormJoin) (part : Option (Part E)) (e : Ended) : Type 0 where
  pub tells : IsFileOutcome F cubes (map (text_form_within (log_top F)) files) (text_form_within (log_top F) bytes) e.end
  pub form : e.is_binary ≡ is_binary bytes
  pub stands : Stands made target F cubes (files ++ bytes ∷ []) [] join part

-- `Ends made old new part after e`: the file of which the bytes so far were joined is ended, from
-- the join `old` to `new` and from the file of the proof `part` to `after`, and told as what it is:
-- e (`EndsFile`)
abbrev pub Ends : {E : Type 0} → (E → List ℕ → List ℕ → Type 0) → FormJoin → FormJoin → Option (Part E) → Option (Part E) → Ended → Type 0
Ends made old new part after e = (target : Option Target) (F : Cnf) (cubes : List Cube) (files : List (List ℕ)) (bytes : List ℕ)
    → Stands made target F cubes files bytes old part → EndsFile made target F cubes files bytes new after e

-- the options and the count of a sheet stay; only its lines may change
abbrev pub IsKept : Sheet → Sheet → Type 0
IsKept old new = (new.options ≡ old.options) × (new.count ≡ old.count)

-- `Tells old notes e name report`: a file of this name, which was read to its end (e), does not end
-- the run, and its line is added to those of the sheet `old`, which gives `notes`; or it satisfies
-- the formula, and the report tells so
abbrev pub Tells : Sheet → List ℕ → Ended → List ℕ → Option Report → Type 0
Tells old notes e name None = GoesOn e.end × (notes ≡ old.notes.items ++ end_line old.options.quiet e.is_binary old.count name e.end)
Tells old notes e name (Some r) = (values : List Bool) × (e.end ≡ Satisfies values) × Prints 10 (old.notes.items ++ satisfied_lines values old.options.witness) r

-- The join, the file of the proof and the sheet are at the run `s`: its files were joined, and these bytes of the next file. The sheet has
-- its lines, and has counted n names.
pub record IsAt {E : Type 0} (made : E → List ℕ → List ℕ → Type 0) (F : Cnf) (cubes : List Cube) (s : Gone) (bytes : List ℕ) (n : ℕ)
    (join : FormJoin) (part : Option (Part E)) (sheet : Sheet) : Type 0 where
  pub stands : Stands made sheet.options.proof F cubes s.files bytes join part
  pub noted : sheet.notes.items ≡ s.notes
  pub counted : sheet.count ≡ n

-- What comes of names: without a report, they lead the run to one that the join is at; a report ends the run. The positions are: that the
-- join is at a run, that the names lead to a run, that they end with a report, the report.
abbrev pub Goes : (Gone → Type 0) → (Gone → Type 0) → (Report → Type 0) → Option Report → Type 0
Goes At Takes Stops None = (t : Gone) × Takes t × At t
Goes At Takes Stops (Some r) = Stops r

-- a file under this name leads a run from `old` to `new`: it is read to its end, or cannot be
abbrev pub TakesSome : Cnf → List Cube → Bool → Option (List ℕ) → List ℕ → Gone → Gone → Type 0
TakesSome F cubes quiet known name old new = HoldsOf known (λ bytes. ReadsFile F cubes quiet name bytes old new) ⊎ (new ≡ without_file name old)

-- The bytes `list` of a list of names were read. Without a report the whole names among them were gone through, and whatever bytes follow,
-- `begun` is the beginning of the next name; a report ends the run, whatever bytes follow.
abbrev pub IsListed : (Gone → Type 0) → (List ℕ → Gone → Gone → Type 0) → (List ℕ → Gone → Report → Type 0) → List ℕ → List ℕ → Option Report → Type 0
IsListed At Takes Stops list begun None = (t : Gone) × At t
    × ((rest : List ℕ) (u : Gone) → AreTaken Takes (names_behind begun rest) t u → AreTaken Takes (names_of (list ++ rest)) none_gone u)
    × ((rest : List ℕ) (r : Report) → OneStops Takes Stops (names_behind begun rest) t r → OneStops Takes Stops (names_of (list ++ rest)) none_gone r)
IsListed At Takes Stops list begun (Some r) = (rest : List ℕ) → OneStops Takes Stops (names_of (list ++ rest)) none_gone r

-- the bytes `list` of a list of names were read (`IsListed`), over this disk and by these options, which stay
pub record IsListing {D E : Type 0} (made : E → List ℕ → List ℕ → Type 0) (holds : D → List ℕ → Option (List ℕ)) (apart : D → List ℕ → List ℕ → Type 0)
    (disk : D) (options : JoinOptions) (F : Cnf) (cubes : List Cube) (list : List ℕ)
    (now : D) (join : FormJoin) (part : Option (Part E)) (sheet : Sheet) (begun : List ℕ) (found : Option Report) : Type 0 where
  pub disk_is : now ≡ disk
  pub options_is : sheet.options ≡ options
  pub listed : IsListed (λ t. IsAt made F cubes t [] t.count join part sheet) (Takes holds apart disk options F cubes) (Stops holds apart disk options F cubes) list begun found

-- `IsSettled made kept old new part found r`: from the disk `old` to `new` the file of the proof
-- (`part`) is put at its path if the status of the report r is 20; else the disk is as it was. The
-- join answered `found`. `made` tells for which path an unfinished file is, and its bytes; `kept`
-- what is kept between two disks.
abbrev pub IsSettled : {D E : Type 0} → (E → List ℕ → List ℕ → Type 0) → (D → D → List ℕ → List ℕ → Type 0) → D → D → Option (Part E) → Result Report Refusal → Report → Type 0
IsSettled made kept old new part found r = (found ≡ Ok r)
    × (r.status ≡ 20 → (target : Option Target) (proof : List ℕ) → HasPart made target proof part → IsStored kept old new target proof)
    × (r.status ≢ 20 → new ≡ old)
