-- Up to a lemma that closes a leaf, what the lines make is a log that ends there.
use Rattle.std.proofs.Common.{◌≡◌, ℕ, ◌+◌, map, inl, inr, Bool, true, false, List, [], ◌∷◌, ◌++◌, length, bytes_eq, if◌then◌else◌, refl, sym, ◌∙◌, ap, subst, append_assoc}
use Rattle.std.specs.List.{Contains}
use Rattle.std.proofs.lemmas.List.Elements.{Contains-append_right}
use Rattle.std.proofs.lemmas.Slice.Eq.{bytes_eq-Decides}
use Rattle.dimacs.specs.logic.ClauseMap.{ClauseMap, map_of}
use Rattle.dimacs.specs.logic.Cnf.{Cnf}
use Rattle.dimacs.specs.logic.Literal.{Literal, negation}
use Rattle.dimacs.proofs.Members.{Contains-head, Contains-cons, Contains-cons_cases, Contains-nil}
use Rattle.icnf.specs.Leaves.{Cube}
use Rattle.lrat_text.specs.Log.{AreLogSteps, EndsAt, IsLog, Negates, after_step, top_after}
use Rattle.lrat_text.specs.Proof.{without}
use Rattle.lrat_text.specs.Runs.{after_steps, top_of}
use Rattle.lrat_text.specs.declared.step.Step.{Step}
use Rattle.lrat_text.specs.declared.step.Step.TheVariants.{Add, Delete}
use Rattle.shared_logs.specs.SharedLogs.{SharedStep, Lemma, Import, Deletion, Clock}
use Rattle.shared_logs.specs.WovenLogs.{HavePartThatCloses, NamedLine, Numbering, Weaves, ends, takes, deletes, WholeCellsClose, WovenLogsClose, lines_of, numbering_after, written}
use Rattle.shared_logs.proofs.WovenLemmas.{woven_logs_are_logs}

-- the line is a lemma that closes the leaf of the cube
abbrev Closing : Cube → SharedStep → Type 0
Closing q (Lemma number C hints) = (l : Literal) → Contains C l → Contains q (negation l)
Closing q (Import number C name there) = ⊥
Closing q (Deletion numbers) = ⊥
Closing q (Clock time) = ⊥

-- one of the steps closes the leaf, and these are before and after it
abbrev HasClosing : Cube → List Step → Type 0
HasClosing q steps = (before : List Step) × (step : Step) × (after : List Step) × (steps ≡ before ++ step ∷ after) × Negates q step

steps_later : (q : Cube) (xs steps : List Step) → HasClosing q steps → HasClosing q (xs ++ steps)
steps_later q xs steps (before, step, after, splits, negates) =
    (xs ++ before, step, after, ap (λ (ss : List Step). xs ++ ss) splits ∙ sym (append_assoc xs before (step ∷ after)), negates)

closing_written : (q : Cube) (f : Numbering) (top : ℕ) (x : NamedLine) (steps : List Step) → Closing q x.1 → HasClosing q (written f top x ++ steps)
closing_written q f top (name, Lemma number C hints) steps closing = ([], Add (top + 1) C (map (f name) hints) [], steps, refl, closing)
closing_written q f top (name, Import number C other there) steps closing = absurd closing
closing_written q f top (name, Deletion numbers) steps closing = absurd closing
closing_written q f top (name, Clock time) steps closing = absurd closing

closing_made : (q : Cube) (m : ℕ) (y : NamedLine) → Closing q y.1 → (f : Numbering) (M : ClauseMap) (top : ℕ) (lines : List NamedLine) (steps : List Step)
    → Weaves m f M top lines steps → Contains lines y → HasClosing q steps
closing_made q m y closing f M top [] [] ends i = absurd (Contains-nil y i)
closing_made q m y closing f M top _ _ (takes {x = x} {lines = lines} {steps = steps} rest) i = elim (Contains-cons_cases x y lines i) [
  | inl e ↦ closing_written q f top x steps (subst (λ (z : NamedLine). Closing q z.1) (sym e) closing)
  | inr later ↦
      steps_later q (written f top x) steps
      (closing_made q m y closing (numbering_after f top x) (after_steps M (written f top x)) (top_of top (written f top x)) lines steps rest later)
]
closing_made q m y closing f M top lines _ (deletes {ids = ids} {steps = steps} step unused rest) i =
    steps_later q (Delete ids ∷ []) steps (closing_made q m y closing f (without M ids) top lines steps rest i)

first_steps : (m : ℕ) (M : ClauseMap) (top : ℕ) (xs ys : List Step) → AreLogSteps m M top (xs ++ ys) → AreLogSteps m M top xs
first_steps m M top [] ys h = tt
first_steps m M top (x ∷ xs) ys h = (h.0, first_steps m (after_step M x) (top_after top x) xs ys h.1)

part_closes : (F : Cnf) (q : Cube) (steps : List Step) → IsLog F steps → HasClosing q steps → HavePartThatCloses F q steps
part_closes F q steps log (before, step, after, splits, negates) =
    let part = before ++ step ∷ [] in
    let apart : steps ≡ part ++ after = splits ∙ sym (append_assoc before (step ∷ []) after) in
    let is : IsLog F part = first_steps (length F.clauses) (map_of F) (length F.clauses) part after (subst (λ (ss : List Step). IsLog F ss) apart log) in
    let at_end : EndsAt q part = (before, step, refl, negates) in
    (part, after, apart, is, at_end, λ text spelled. (part, spelled, is, at_end))

pub woven_logs_close : WovenLogsClose
woven_logs_close F cell lines steps q is order woven (name, number, C, hints, within, negates) =
    part_closes F q steps (woven_logs_are_logs F cell lines steps is order woven)
    (closing_made q (length F.clauses) (name, Lemma number C hints) negates _ (map_of F) (length F.clauses) lines steps woven within)

-- a line of the log of a name is among all lines under that name
line_among : (name : List ℕ) (line : SharedStep) (lines : List NamedLine) → Contains (lines_of name lines) line → Contains lines (name, line)
line_among name line [] i = absurd (Contains-nil line i)
line_among name line ((from, x) ∷ lines) i = at (line_among name line lines) (bytes_eq from name) refl i
  where
    at : (Contains (lines_of name lines) line → Contains lines (name, line)) → (b : Bool) → bytes_eq from name ≡ b
        → Contains (if b then x ∷ lines_of name lines else lines_of name lines) line → Contains ((from, x) ∷ lines) (name, line)
    at later true e i = elim (Contains-cons_cases x line (lines_of name lines) i) [
      | inl same ↦
          subst (λ (n : List ℕ). Contains ((from, x) ∷ lines) (n, line)) ((bytes_eq-Decides from name).0 e)
          (subst (λ (y : SharedStep). Contains ((from, x) ∷ lines) (from, y)) same (Contains-head (from, x) lines))
      | inr i ↦ Contains-cons (from, x) (name, line) lines (later i)
    ]
    at later false e i = Contains-cons (from, x) (name, line) lines (later i)

pub whole_cells_close : WholeCellsClose
whole_cells_close F cell lines steps q is order all woven closed =
    let log = closed.log in
    let (hints, has) = closed.writes in
    let line = Lemma closed.number closed.clause hints in
    let within : Contains (lines_of log.name lines) line =
    subst (λ (ls : List SharedStep). Contains ls line) (sym has.splits ∙ all log closed.within) (Contains-append_right has.before (line ∷ has.after) line (Contains-head line has.after)) in
    woven_logs_close F cell lines steps q is order woven (log.name, closed.number, closed.clause, hints, line_among log.name line lines within, closed.negates)
