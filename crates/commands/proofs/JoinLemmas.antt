-- Files that are joined go together step by step.
use Rattle.std.specs.Prelude.{◌≡◌, ◌≢◌, ◌⊎◌, ◌++◌, ◌∷◌, ℕ, Bool, true, false, MatchBool, List, [], map, Option, Some, None, Result, Ok, Err, IfOk, IfSome, refl, if◌then◌else◌, codes}
use Rattle.std.proofs.Common.{sym, ◌∙◌, ap, subst, inl, inr, arith}
use Rattle.answers.specs.Parse.{answer_of}
use Rattle.answers.specs.Reports.{first_missed}
use Rattle.answers.specs.declared.fault.AnswerFault.{AnswerFault}
use Rattle.commands.specs.Known.{HoldsOf}
use Rattle.commands.specs.FormulaTree.{Begins, IsHushed, OfFormula, OfQuietTree, RefusesCubes, RefusesInput}
use Rattle.commands.specs.Names.{Gone, OfListed, OfNames, lists, names_of, none_gone, one_more}
use Rattle.commands.specs.Join.{AnswersBy, IsStored, Joins, Misses, OneStops, ReadsFile, Refutes, Stops, StopsAt, Takes, TakesFile, end_line, with_file, without_file}
use Rattle.commands.specs.declared.formula_tree.Begun.{Begun}
use Rattle.commands.specs.declared.formula_tree.Begun.TheVariants.{With, Refused as RefusedBegun}
use Rattle.commands.specs.declared.drafts.Target.{Target}
use Rattle.commands.specs.declared.join_run.Ended.{Ended}
use Rattle.commands.specs.declared.join_run.JoinOptions.{JoinOptions}
use Rattle.commands.specs.declared.join_run.Sheet.{Sheet}
use Rattle.commands.specs.declared.part_file.Part.{Part}
use Rattle.commands.specs.Feed.{IsFedSo}
use Rattle.commands.specs.declared.feed_loop.Fed.{Fed}
use Rattle.commands.specs.declared.feed_loop.Fed.TheVariants.{Whole, Unread as UnreadSource}
use Rattle.commands.specs.inner.Join.{Ends, Goes, HasJoined, HasJoinedOn, HasPart, IsAt, IsKept, IsSettled, Stands, Tells, TakesSome}
use Rattle.commands.specs.inner.Parts.{IsPart}
use Rattle.dimacs.specs.logic.Cnf.{Cnf, Sat, assignment_of}
use Rattle.dimacs.specs.logic.Limits.{Limits}
use Rattle.dimacs.specs.logic.Propagation.{Assumed}
use Rattle.text_or_binary.specs.FormJoin.{HasReadFormFiles}
use Rattle.text_or_binary.specs.declared.form_join.FormJoin.{FormJoin}
use Rattle.icnf.specs.Leaves.{Cube}
use Rattle.leaves.specs.Join.{Concludes, ReportsOpen, IsAnswerOutcome, IsFileOutcome, IsLogOutcome, IsNamedOutcome, is_answer, misses, proves}
use Rattle.leaves.specs.Notes.{note_text}
use Rattle.leaves.specs.declared.join.Join.{Join}
use Rattle.leaves.specs.declared.notes.Note.TheVariants.{Unread}
use Rattle.leaves.specs.declared.split.Split.{Split}
use Rattle.leaves.specs.declared.file_outcome.FileOutcome.{FileOutcome}
use Rattle.leaves.specs.declared.file_outcome.FileOutcome.TheVariants.{Satisfies}
use Rattle.dimacs.specs.text.Answer.{satisfied_lines}
use Rattle.leaves.specs.Leaf.{Prints}
use Rattle.lrat_check.specs.Logs.{log_of}
use Rattle.lrat_forms.specs.Forms.{is_binary, text_form_within}
use Rattle.lrat_text.specs.Log.{log_top}
use Rattle.reports.specs.declared.refusal.Refusal.{Refusal}
use Rattle.reports.specs.declared.report.Report.{Report}
use Rattle.commands.proofs.OfLemmas.{of_map, of_ok, of_opened}
use Rattle.commands.proofs.TreeLemmas.{of_both}
use Rattle.lrat_check.specs.declared.line_checker.CheckFault.{CheckFault}

-- ---- an answer that is told to satisfy the formula does so
same_values : (F : Cnf) (a b : List Bool) → Satisfies a ≡ Satisfies b → Sat (assignment_of b) F → Sat (assignment_of a) F
same_values F a b e h =
    let is : b ≡ a = cc in
    let P : List Bool → Type 0 = λ values. Sat (assignment_of values) F in
    subst P is h

sat_named : (F : Cnf) (values : List Bool) (k : Option ℕ) → IsNamedOutcome F k (Satisfies values) → Sat (assignment_of values) F
sat_named F values None h = same_values F values h.0 h.1 h.2
sat_named F values (Some k) h = absurd (cc)

sat_answer : (F : Cnf) (values : List Bool) (a : Result Assumed AnswerFault) → IsAnswerOutcome F a (Satisfies values) → Sat (assignment_of values) F
sat_answer F values (Ok named) h = sat_named F values (first_missed named F) h
sat_answer F values (Err fault) h = absurd (cc)

no_log : (F : Cnf) (cubes : List Cube) (files : List (List ℕ)) (text : List ℕ) (values : List Bool) (l : Result (Unit {0}) CheckFault) → IsLogOutcome F cubes files text l (Satisfies values) → ⊥
no_log F cubes files text values (Ok x) (inl h) = let e = h.0 in cc
no_log F cubes files text values (Ok x) (inr h) = let e = h.0 in cc
no_log F cubes files text values (Err fault) h = cc

sat_file : (F : Cnf) (cubes : List Cube) (files : List (List ℕ)) (text : List ℕ) (values : List Bool) (b : Bool)
    → MatchBool b (IsAnswerOutcome F (answer_of text) (Satisfies values)) (IsLogOutcome F cubes files text (log_of F text) (Satisfies values)) → Sat (assignment_of values) F
sat_file F cubes files text values true h = sat_answer F values (answer_of text) h
sat_file F cubes files text values false h = absurd (no_log F cubes files text values (log_of F text) h)

pub satisfies_of : (F : Cnf) (cubes : List Cube) (files : List (List ℕ)) (text : List ℕ) (values : List Bool) → IsFileOutcome F cubes files text (Satisfies values) → Sat (assignment_of values) F
satisfies_of F cubes files text values h = sat_file F cubes files text values (is_answer text) h

-- ---- the part
pub part_more : {E : Type 0} (made : E → List ℕ → List ℕ → Type 0) (target : Option Target) (written text : List ℕ) (old new : Part E)
    → ((binary : Bool) (path before : List ℕ) → IsPart made binary path before old → IsPart made binary path (before ++ text) new)
    → HasPart made target written (Some old) → HasPart made target (written ++ text) (Some new)
part_more made None written text old new put h = absurd h
part_more made (Some target) written text old new put h = put target.binary target.path.now written h

pub no_part_more : {E : Type 0} (made : E → List ℕ → List ℕ → Type 0) (target : Option Target) (written text : List ℕ)
    → (let none : Option (Part E) = None in HasPart made target written none → HasPart made target (written ++ text) none)
no_part_more made None written text h = tt
no_part_more made (Some target) written text h = absurd h

-- ---- a piece, the end of a file, and a file that is left
pub joined_piece : {E : Type 0} (made : E → List ℕ → List ℕ → Type 0) (a b c : FormJoin) (p q : Option (Part E)) (piece out : List ℕ)
    → ((F : Cnf) (cubes : List Cube) (files : List (List ℕ)) (bytes written : List ℕ) → HasReadFormFiles F cubes files bytes written a → HasReadFormFiles F cubes files (bytes ++ piece) written b)
    → ((target : Option Target) (written : List ℕ) → HasPart made target written p → HasPart made target (written ++ out) q)
    → ((F : Cnf) (cubes : List Cube) (files : List (List ℕ)) (bytes written : List ℕ) → HasReadFormFiles F cubes files bytes written b → HasReadFormFiles F cubes files bytes (written ++ out) c)
    → HasJoined made a c p q piece
joined_piece made a b c p q piece out fed put moved target F cubes files bytes h = record {
  written = h.written ++ out;
  holds = moved F cubes files (bytes ++ piece) h.written (fed F cubes files bytes h.written h.holds);
  part_is = put target h.written h.part_is;
}

pub left_stands : {E : Type 0} (made : E → List ℕ → List ℕ → Type 0) (a b c : FormJoin) (p q : Option (Part E)) (out : List ℕ)
    → ((F : Cnf) (cubes : List Cube) (files : List (List ℕ)) (bytes written : List ℕ) → HasReadFormFiles F cubes files bytes written a → HasReadFormFiles F cubes files [] written b)
    → ((target : Option Target) (written : List ℕ) → HasPart made target written p → HasPart made target (written ++ out) q)
    → ((F : Cnf) (cubes : List Cube) (files : List (List ℕ)) (bytes written : List ℕ) → HasReadFormFiles F cubes files bytes written b → HasReadFormFiles F cubes files bytes (written ++ out) c)
    → (target : Option Target) (F : Cnf) (cubes : List Cube) (files : List (List ℕ)) (bytes : List ℕ) → Stands made target F cubes files bytes a p → Stands made target F cubes files [] c q
left_stands made a b c p q out left put moved target F cubes files bytes h = record {
  written = h.written ++ out;
  holds = moved F cubes files [] h.written (left F cubes files bytes h.written h.holds);
  part_is = put target h.written h.part_is;
}

-- ---- what comes of a file
-- one that was read to its end goes on, or satisfies the formula
pub file_goes : {E : Type 0} (made : E → List ℕ → List ℕ → Type 0) (F : Cnf) (cubes : List Cube) (s : Gone) (bytes name : List ℕ)
    (a b : FormJoin) (p q : Option (Part E)) (old new : Sheet) (e : Ended) (found : Option Report)
    → Ends made a b p q e → Tells old new.notes.items e name found → IsKept old new → IsAt made F cubes s bytes (one_more s.count) a p old
    → Goes (λ t. IsAt made F cubes t [] t.count b q new) (ReadsFile F cubes old.options.quiet name bytes s) (AnswersBy F cubes old.options.witness bytes s) found
file_goes made F cubes s bytes name a b p q old new e None ends tells kept at =
    let file = ends old.options.proof F cubes s.files bytes at.stands in
    let quiet = old.options.quiet in
    let Line : Bool → ℕ → List ℕ = λ binary n. end_line quiet binary n name e.end in (
      with_file quiet name bytes e.end s,
      record { end = e.end; tells = file.tells; goes_on = tells.0; is = refl },
      record {
        stands = subst (λ o. Stands made o F cubes (s.files ++ bytes ∷ []) [] b q) (ap (λ o. o.proof) (sym kept.0)) file.stands;
        noted = tells.1 ∙ ap (λ xs. xs ++ Line e.is_binary old.count) at.noted ∙ ap (λ x. s.notes ++ Line x old.count) file.form ∙ ap (λ n. s.notes ++ Line (is_binary bytes) n) at.counted;
        counted = kept.1 ∙ at.counted;
      },
    )
file_goes made F cubes s bytes name a b p q old new e (Some r) ends tells kept at =
    let file = ends old.options.proof F cubes s.files bytes at.stands in
    let P : FileOutcome → Type 0 = λ x. IsFileOutcome F cubes (map (text_form_within (log_top F)) s.files) (text_form_within (log_top F) bytes) x in
    let told = subst P tells.1 file.tells in
    let Text : List ℕ → Type 0 = λ notes. Prints 10 (notes ++ satisfied_lines tells.0 old.options.witness) r in
    record { values = tells.0; tells = told; satisfies = satisfies_of F cubes (map (text_form_within (log_top F)) s.files) (text_form_within (log_top F) bytes) tells.0 told; prints = subst Text at.noted tells.2 }

-- one that cannot be read is left
pub skip_goes : {E : Type 0} (made : E → List ℕ → List ℕ → Type 0) (F : Cnf) (cubes : List Cube) (s : Gone) (bytes name : List ℕ)
    (a b : FormJoin) (p q : Option (Part E)) (old new : Sheet)
    → ((target : Option Target) (F : Cnf) (cubes : List Cube) (files : List (List ℕ)) (bytes : List ℕ) → Stands made target F cubes files bytes a p → Stands made target F cubes files [] b q)
    → new.notes.items ≡ old.notes.items ++ note_text old.count Unread name → IsKept old new → IsAt made F cubes s bytes (one_more s.count) a p old
    → Goes (λ t. IsAt made F cubes t [] t.count b q new) (λ t. t ≡ without_file name s) (λ r. ⊥) None
skip_goes made F cubes s bytes name a b p q old new left line kept at = (
  without_file name s,
  refl,
  record {
    stands = subst (λ o. Stands made o F cubes s.files [] b q) (ap (λ o. o.proof) (sym kept.0)) (left old.options.proof F cubes s.files bytes at.stands);
    noted = line ∙ ap (λ xs. xs ++ note_text old.count Unread name) at.noted ∙ ap (λ n. s.notes ++ note_text n Unread name) at.counted;
    counted = kept.1 ∙ at.counted;
  },
)

-- ---- a name
pub some_goes : (At : Gone → Type 0) (F : Cnf) (cubes : List Cube) (quiet witness : Bool) (known : Option (List ℕ)) (name : List ℕ) (s : Gone) (found : Option Report)
    → HoldsOf known (λ bytes. Goes At (ReadsFile F cubes quiet name bytes s) (AnswersBy F cubes witness bytes s) found)
    → Goes At (TakesSome F cubes quiet known name s) (λ r. HoldsOf known (λ bytes. AnswersBy F cubes witness bytes s r)) found
some_goes At F cubes quiet witness None name s None h = (h.1.0, inl (h.0, h.1.1), h.1.2)
some_goes At F cubes quiet witness (Some bytes) name s None h = (h.0, inl h.1, h.2)
some_goes At F cubes quiet witness known name s (Some r) h = h

pub skipped_some : (At : Gone → Type 0) (F : Cnf) (cubes : List Cube) (quiet : Bool) (known : Option (List ℕ)) (name : List ℕ) (s : Gone) (P : Report → Type 0) (found : Option Report)
    → Goes At (λ t. t ≡ without_file name s) (λ r. ⊥) found → Goes At (TakesSome F cubes quiet known name s) P found
skipped_some At F cubes quiet known name s P None h = (h.0, inr h.1, h.2)
skipped_some At F cubes quiet known name s P (Some r) h = absurd h

pub skipped_file : (At : Gone → Type 0) (F : Cnf) (cubes : List Cube) (quiet : Bool) (free : Type 0) (known : Option (List ℕ)) (name : List ℕ) (s : Gone) (P : Report → Type 0) (found : Option Report)
    → Goes At (λ t. t ≡ without_file name s) (λ r. ⊥) found → Goes At (TakesFile F cubes quiet free known name s) P found
skipped_file At F cubes quiet free known name s P None h = (h.0, inr h.1, h.2)
skipped_file At F cubes quiet free known name s P (Some r) h = absurd h

file_taken : (F : Cnf) (cubes : List Cube) (quiet : Bool) (free : Type 0) (left holds : Option (List ℕ)) (name : List ℕ) (s t : Gone)
    → free → IfSome holds (λ bytes. left ≡ Some bytes) → TakesSome F cubes quiet left name s t → TakesFile F cubes quiet free holds name s t
file_taken F cubes quiet free left holds name s t f e (inl h) = inl (f, of_opened (λ bytes. ReadsFile F cubes quiet name bytes s t) left holds e h)
file_taken F cubes quiet free left holds name s t f e (inr h) = inr h

pub take_goes : (At : Gone → Type 0) (F : Cnf) (cubes : List Cube) (quiet witness : Bool) (free : Type 0) (left holds : Option (List ℕ)) (name : List ℕ) (s : Gone) (found : Option Report)
    → free → IfSome holds (λ bytes. left ≡ Some bytes)
    → Goes At (TakesSome F cubes quiet left name s) (λ r. HoldsOf left (λ bytes. AnswersBy F cubes witness bytes s r)) found
    → Goes At (TakesFile F cubes quiet free holds name s) (StopsAt F cubes witness free holds s) found
take_goes At F cubes quiet witness free left holds name s None f e h = (h.0, file_taken F cubes quiet free left holds name s h.0 f e h.1, h.2)
take_goes At F cubes quiet witness free left holds name s (Some r) f e h = (f, of_opened (λ bytes. AnswersBy F cubes witness bytes s r) left holds e h)

-- a name more is counted
pub counts_more : {E : Type 0} (made : E → List ℕ → List ℕ → Type 0) (F : Cnf) (cubes : List Cube) (s : Gone) (n m : ℕ) (join : FormJoin) (part : Option (Part E)) (old new : Sheet)
    → new.options ≡ old.options → new.notes.items ≡ old.notes.items → new.count ≡ m → IsAt made F cubes s [] n join part old → IsAt made F cubes s [] m join part new
counts_more made F cubes s n m join part old new options notes count at = record {
  stands = subst (λ o. Stands made o F cubes s.files [] join part) (ap (λ o. o.proof) (sym options)) at.stands;
  noted = notes ∙ at.noted;
  counted = count;
}

-- ---- all names
pub of_names_ok : {T E : Type 0} (holds : List ℕ → Option (List ℕ)) (names : List (List ℕ)) (P : List (List ℕ) → Type 0) (Q : List (List ℕ) → T → Type 0) (r : Result T E)
    → OfNames holds names P → ((all : List (List ℕ)) → P all → IfOk r (Q all)) → IfOk r (λ x. OfNames holds names (λ all. Q all x))
of_names_ok holds names P Q r h f = at (lists names) h
  where
    at : (b : Bool) → OfListed b holds names P → IfOk r (λ x. OfListed b holds names (λ all. Q all x))
    at true h = of_ok (λ list. P (names_of list)) (λ list x. Q (names_of list) x) (holds (codes "-")) r h (λ list p. f (names_of list) p)
    at false h = f names h

pub of_names : (holds : List ℕ → Option (List ℕ)) (names : List (List ℕ)) (P Q : List (List ℕ) → Type 0) → ((all : List (List ℕ)) → P all → Q all) → OfNames holds names P → OfNames holds names Q
of_names holds names P Q f h = at (lists names) h
  where
    at : (b : Bool) → OfListed b holds names P → OfListed b holds names Q
    at true h = of_map (λ list. P (names_of list)) (λ list. Q (names_of list)) (holds (codes "-")) (λ list p. f (names_of list) p) h
    at false h = f names h

-- ---- the end
pub concludes_so : {E : Type 0} (made : E → List ℕ → List ℕ → Type 0) (target : Option Target) (F : Cnf) (cubes : List Cube) (s : Gone) (written notes : List ℕ) (j : Join) (part : Option (Part E)) (r : Report)
    → notes ≡ s.notes → Concludes F cubes (map (text_form_within (log_top F)) s.files) [] written notes j r → HasPart made target (written ++ j.lines.out.items) part
    → Refutes (λ proof. HasPart made target proof part) F cubes s r ⊎ Misses (Unit {0}) F cubes s r
concludes_so made target F cubes s written notes j part r is (proves e closed told) has = inl (record {
  closed = closed;
  proof = written ++ j.lines.out.items;
  proves = told.proof;
  stands = has;
  status = told.status;
  text = told.text ∙ ap (λ n. n ++ codes "s UNSATISFIABLE\n") is;
})
concludes_so made target F cubes s written notes j part r is (misses wrong told) has =
    let P : List ℕ → Type 0 = λ n. ReportsOpen F cubes (map (text_form_within (log_top F)) s.files) n r in
    inr (record { open_leaf = λ closed. wrong (refl, closed); left_so = tt; reports = subst P is told })

pub joins_found : (Takes : List ℕ → Gone → Gone → Type 0) (Stops : List ℕ → Gone → Report → Type 0) (keeps : List ℕ → Type 0) (F : Cnf) (cubes : List Cube) (names : List (List ℕ)) (r : Report)
    → OneStops Takes Stops names none_gone r → Joins Takes Stops keeps (Unit {0}) F cubes names r
joins_found Takes Stops keeps F cubes names r h = inr (tt, h)

-- an answer ends a run with status 10
answers_10 : {D : Type 0} (holds : D → List ℕ → Option (List ℕ)) (apart : D → List ℕ → List ℕ → Type 0) (disk : D) (o : JoinOptions) (F : Cnf) (cubes : List Cube) (name : List ℕ) (a : Gone) (r : Report)
    → Stops holds apart disk o F cubes name a r → r.status ≡ 10
answers_10 holds apart disk o F cubes name a r h = at (holds disk name) h.1
  where
    at : (known : Option (List ℕ)) → HoldsOf known (λ bytes. AnswersBy F cubes o.witness bytes a r) → r.status ≡ 10
    at None k = k.1.prints.status_is
    at (Some bytes) k = k.prints.status_is

stopped_10 : {D : Type 0} (holds : D → List ℕ → Option (List ℕ)) (apart : D → List ℕ → List ℕ → Type 0) (disk : D) (o : JoinOptions) (F : Cnf) (cubes : List Cube) (names : List (List ℕ)) (a : Gone) (r : Report)
    → OneStops (Takes holds apart disk o F cubes) (Stops holds apart disk o F cubes) names a r → r.status ≡ 10
stopped_10 holds apart disk o F cubes [] a r h = absurd h
stopped_10 holds apart disk o F cubes (name ∷ names) a r (inl h) = answers_10 holds apart disk o F cubes name a r h
stopped_10 holds apart disk o F cubes (name ∷ names) a r (inr h) = stopped_10 holds apart disk o F cubes names h.0 r h.2

ten_not_20 : (n : ℕ) → n ≡ 10 → n ≢ 20
ten_not_20 n h e = omega arith

none_not_20 : (n : ℕ) → n ≡ 0 → n ≢ 20
none_not_20 n h e = omega arith

-- what was joined to a part, once the part is settled
pub settled_joins : {D E : Type 0} (made : E → List ℕ → List ℕ → Type 0) (kept : D → D → List ℕ → List ℕ → Type 0) (old new : D) (part : Option (Part E)) (found : Result Report Refusal)
    (holds : D → List ℕ → Option (List ℕ)) (apart : D → List ℕ → List ℕ → Type 0) (o : JoinOptions) (F : Cnf) (cubes : List Cube) (names : List (List ℕ)) (r : Report)
    → IsSettled made kept old new part found r
    → Joins (Takes holds apart old o F cubes) (Stops holds apart old o F cubes) (λ proof. HasPart made o.proof proof part) (Unit {0}) F cubes names r
    → Joins (Takes holds apart old o F cubes) (Stops holds apart old o F cubes) (IsStored kept old new o.proof) (new ≡ old) F cubes names r
settled_joins made kept old new part found holds apart o F cubes names r settled (inl h) = inl (h.0, h.1, ends h.2)
  where
    ends : Refutes (λ proof. HasPart made o.proof proof part) F cubes h.0 r ⊎ Misses (Unit {0}) F cubes h.0 r → Refutes (IsStored kept old new o.proof) F cubes h.0 r ⊎ Misses (new ≡ old) F cubes h.0 r
    ends (inl k) = inl (record {
      closed = k.closed;
      proof = k.proof;
      proves = k.proves;
      stands = settled.1 k.status o.proof k.proof k.stands;
      status = k.status;
      text = k.text;
    })
    ends (inr k) = inr (record { open_leaf = k.open_leaf; left_so = settled.2 (none_not_20 r.status k.reports.status); reports = k.reports })
settled_joins made kept old new part found holds apart o F cubes names r settled (inr h) = inr (settled.2 (ten_not_20 r.status (stopped_10 holds apart old o F cubes names none_gone r h.1)), h.1)

-- ---- an input, and cubes
pub of_quiet_tree : (L : Limits) (quiet : Bool) (P : Cnf → List Cube → Type 0) (r : Report) (a b : Option (List ℕ)) (begun : Begun) (s : Split) → begun ≡ With s → P s.formula s.tree
    → HoldsOf a (λ text. HoldsOf b (λ lines. Begins L text lines begun)) → HoldsOf a (λ text. HoldsOf b (λ lines. OfQuietTree L quiet text lines P r))
of_quiet_tree L quiet P r a b begun s e p h = of_both (λ text lines. Begins L text lines begun) (λ text lines. OfQuietTree L quiet text lines P r) a b (λ text lines k.
    let Starts : Begun → Type 0 = Begins L text lines in
    let j = subst Starts e k in
    let Told : Cnf → Type 0 = λ F. P F s.tree in
    inr (j.0, j.1, (s.tree, j.2.tree, subst Told j.2.formula p))) h

pub of_hushed : (L : Limits) (quiet : Bool) (P : Cnf → List Cube → Type 0) (told r : Report) (a b : Option (List ℕ)) (begun : Begun) → begun ≡ RefusedBegun told → IsHushed quiet told r
    → HoldsOf a (λ text. HoldsOf b (λ lines. Begins L text lines begun)) → HoldsOf a (λ text. HoldsOf b (λ lines. OfQuietTree L quiet text lines P r))
of_hushed L quiet P told r a b begun e hush h = of_both (λ text lines. Begins L text lines begun) (λ text lines. OfQuietTree L quiet text lines P r) a b (λ text lines k.
    let Starts : Begun → Type 0 = Begins L text lines in
    inl (told, hush, subst Starts e k)) h

refused_1 : (L : Limits) (text lines : List ℕ) (r : Report) → RefusesInput L text r ⊎ OfFormula L text (λ F. RefusesCubes L F lines r) → r.status ≡ 1
refused_1 L text lines r (inl h) = h.2.status_is
refused_1 L text lines r (inr h) = h.2.2.status_is

pub refused_not_20 : (L : Limits) (told r : Report) (quiet : Bool) (a b : Option (List ℕ)) (begun : Begun) → begun ≡ RefusedBegun told → IsHushed quiet told r
    → HoldsOf a (λ text. HoldsOf b (λ lines. Begins L text lines begun)) → r.status ≢ 20
refused_not_20 L told r quiet a b begun e hush h = at a b (of_both (λ text lines. Begins L text lines begun) (λ text lines. told.status ≡ 1) a b (λ text lines k.
    let Starts : Begun → Type 0 = Begins L text lines in
    refused_1 L text lines told (subst Starts e k)) h)
  where
    not_20 : told.status ≡ 1 → r.status ≢ 20
    not_20 h e = let is = hush.status in omega arith

    at : (a b : Option (List ℕ)) → HoldsOf a (λ text. HoldsOf b (λ lines. told.status ≡ 1)) → r.status ≢ 20
    at None None h = not_20 h.1.1
    at None (Some lines) h = not_20 h.1
    at (Some text) None h = not_20 h.1
    at (Some text) (Some lines) h = not_20 h

-- ---- what was fed
pub fed_whole : {T : Type 0} (old new : T) (took : T → T → List ℕ → Type 0) (known : Option (List ℕ)) (f : Fed) → f ≡ Whole → IsFedSo took known old new f → HoldsOf known (took old new)
fed_whole old new took known f e h =
    let P : Fed → Type 0 = IsFedSo took known old new in
    subst P e h

pub fed_some : {T : Type 0} (old new : T) (took : T → T → List ℕ → Type 0) (known : Option (List ℕ)) (f : Fed) (refusal : Refusal) → f ≡ UnreadSource refusal → IsFedSo took known old new f
    → (bytes : List ℕ) × took old new bytes
fed_some old new took known f refusal e h =
    let P : Fed → Type 0 = IsFedSo took known old new in
    subst P e h

pub fed_at : {A E : Type 0} (made : E → List ℕ → List ℕ → Type 0) (F : Cnf) (cubes : List Cube) (s : Gone) (n : ℕ) (bytes : List ℕ) (d e : A) (a b : FormJoin) (p q : Option (Part E)) (sheet : Sheet)
    → HasJoinedOn made d e a b p q bytes → IsAt made F cubes s [] n a p sheet → IsAt made F cubes s bytes n b q sheet
fed_at made F cubes s n bytes d e a b p q sheet h at = record { stands = h.1 sheet.options.proof F cubes s.files [] at.stands; noted = at.noted; counted = at.counted }

pub of_some : (P : List ℕ → Type 0) (known : Option (List ℕ)) → HoldsOf known P → (bytes : List ℕ) × P bytes
of_some P None h = h
of_some P (Some bytes) h = (bytes, h)
