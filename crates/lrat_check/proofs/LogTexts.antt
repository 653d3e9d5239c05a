-- The text of a log, line by line.
use mathlib.Core.Path.{fun_ext}
use Rattle.std.proofs.Common.{◌≡◌, ◌⊎◌, ℕ, ◌^◌, ◌<◌, ◌≤◌, max, arith, false, List, [], ◌∷◌, ◌++◌, Option, Some, None, Result, Ok, Err, inl, inr, refl, sym, ◌∙◌, ap, append_assoc, subst, OnOk}
use Rattle.std.proofs.lemmas.List.Elements.{All-head, All-tail}
use Rattle.std.specs.List.{slice_split, All}
use Rattle.std.proofs.lemmas.List.Splits.{slice_split_none, slice_split_at}
use Rattle.dimacs.specs.logic.Cnf.{Cnf}
use Rattle.lrat_text.specs.Grammar.{LineSpellsWithin}
use Rattle.lrat_text.specs.Lines.{IsOpen, IsCut}
use Rattle.lrat_text.specs.Log.{AreLogSteps, after_step, top_after}
use Rattle.lrat_text.specs.Parser.{step_within}
use Rattle.lrat_text.specs.LineSink.{TakesAll, HandsOn, LineRefused, ended_lines}
use Rattle.lrat_text.specs.declared.fault.TextFault.{TextFault}
use Rattle.lrat_text.specs.declared.step.Step.{Step}
use Rattle.lrat_text.proofs.SpellingLemmas.{found_spells_within, spelled_found_within}
use Rattle.lrat_check.specs.ProofFaults.{GivesCheck, by_pieces, no_memory}
use Rattle.lrat_check.specs.Logs.{LogState, TakesLogLine, RefusesLogLine, SpellsLog, after_line, by_fault, line_read, log_line, log_step_fault, by_line, pieces_from, text_from, log_end, begun, log_of}
use Rattle.lrat_check.specs.declared.line_checker.CheckFault.{CheckFault}
use Rattle.lrat_check.specs.inner.LogStates.{RefusesAndKeeps}
use Rattle.lrat_check.proofs.Checked.{Spell}
use Rattle.lrat_check.proofs.Lines.{is_lf, first_piece, spell_lines, lines_spell}
use Rattle.lrat_check.proofs.Logs.{takes_line, log_from_none, none_from_log}
use Rattle.lrat_check.proofs.Passing.{gives, given_ok, given_complete}

abbrev pub End : Type 0
End = LogState → List ℕ → Result (Unit {0}) CheckFault

-- after the lines of these steps
abbrev pub after_lines : LogState → List Step → LogState
after_lines s [] = s
after_lines s (step ∷ steps) = after_lines (after_line s step) steps

-- ---- what is found of a text
-- it is found line by line
text_from-line : (at_end : End) (s : LogState) (line rest : List ℕ) → All (λ c. is_lf c ≡ false) line
    → text_from at_end s (line ++ 10 ∷ rest) ≡ by_line (log_line s line) (λ t. text_from at_end t rest)
unfolding text_from pieces_from
text_from-line at_end s line rest none =
    let more : (piece : List ℕ) × (pieces : List (List ℕ)) × (slice_split is_lf rest ≡ piece ∷ pieces) = first_piece rest in
    ap (by_pieces (pieces_from at_end s)) (slice_split_at is_lf line 10 rest none refl ∙ ap (λ ps. line ∷ ps) more.2)
    ∙ ap (by_line (log_line s line)) (fun_ext (λ t. sym (ap (by_pieces (pieces_from at_end t)) more.2)))

-- and ends if no line is left
text_from-end : (at_end : End) (s : LogState) (text : List ℕ) → All (λ c. is_lf c ≡ false) text → text_from at_end s text ≡ at_end s text
unfolding text_from pieces_from
text_from-end at_end s text none = ap (by_pieces (pieces_from at_end s)) (slice_split_none is_lf text none)

-- one line more
pub passed_line : (at_end : End) (s : LogState) (text line later : List ℕ) (t : LogState) → IsCut text line later → TakesLogLine s line t → text_from at_end s text ≡ text_from at_end t later
passed_line at_end s text line later t cut takes =
    ap (text_from at_end s) cut.0
    ∙ text_from-line at_end s line later cut.1
    ∙ ap (λ (r : Result LogState CheckFault). by_line r (λ u. text_from at_end u later)) (takes_line s t line takes)

passed_all : (at_end : End) (lines : List (List ℕ)) (s t : LogState) → All IsOpen lines → TakesAll TakesLogLine s lines t → (rest : List ℕ) → text_from at_end s (ended_lines lines ++ rest) ≡ text_from at_end t rest
passed_all at_end [] s t each e rest = ap (λ (u : LogState). text_from at_end u rest) e
passed_all at_end (line ∷ lines) s t each (m, takes, later) rest =
    passed_line at_end s ((line ++ 10 ∷ ended_lines lines) ++ rest) line (ended_lines lines ++ rest) m (append_assoc line (10 ∷ ended_lines lines) rest, All-head IsOpen line lines each) takes
    ∙ passed_all at_end lines m t (All-tail IsOpen line lines each) later rest

passed : (at_end : End) (s : LogState) (text : List ℕ) (t : LogState) (rest : List ℕ) → HandsOn TakesLogLine s text t rest → text_from at_end s text ≡ text_from at_end t rest
passed at_end s text t rest h = ap (text_from at_end s) h.whole ∙ passed_all at_end h.lines s t h.one_by_one h.taken rest

-- no line is left
pub passed_rest : (at_end : End) (s : LogState) (rest : List ℕ) (r : Result (Unit {0}) CheckFault) → IsOpen rest → r ≡ at_end s rest → text_from at_end s rest ≡ r
passed_rest at_end s rest r no_lf is = text_from-end at_end s rest no_lf ∙ sym is

-- a line is refused
pub refused_line : (at_end : End) (s : LogState) (text line later : List ℕ) (fault : CheckFault) → IsCut text line later → RefusesLogLine s line fault → (fault ≡ no_memory) ⊎ (text_from at_end s text ≡ Err fault)
refused_line at_end s text line later fault cut (inl none) = inl none
refused_line at_end s text line later fault cut (inr stops) = inr (
    ap (text_from at_end s) cut.0
    ∙ text_from-line at_end s line later cut.1
    ∙ ap (λ (r : Result LogState CheckFault). by_line r (λ u. text_from at_end u later)) stops)

-- what is found of a text is found of the one that it was a part of
pub found_before : (r e was : Result (Unit {0}) CheckFault) → was ≡ e → GivesCheck r e → GivesCheck r was
found_before r e was same found = subst (GivesCheck r) (sym same) found

pub text_passed : (at_end : End) (s : LogState) (text : List ℕ) (t : LogState) (rest : List ℕ) → HandsOn TakesLogLine s text t rest → IsOpen rest → text_from at_end s text ≡ at_end t rest
text_passed at_end s text t rest h no_lf = passed at_end s text t rest h ∙ text_from-end at_end t rest no_lf

pub passed_end : (at_end : End) (s : LogState) (text : List ℕ) (t : LogState) (rest : List ℕ) (r : Result (Unit {0}) CheckFault) → HandsOn TakesLogLine s text t rest → IsOpen rest
    → r ≡ at_end t rest → GivesCheck r (text_from at_end s text)
passed_end at_end s text t rest r h no_lf is = gives r (text_from at_end s text) (text_passed at_end s text t rest h no_lf ∙ sym is)

pub passed_stop : (at_end : End) (s : LogState) (text : List ℕ) (t : LogState) (fault : CheckFault) → LineRefused TakesLogLine RefusesAndKeeps s text t fault
    → (fault ≡ no_memory) ⊎ (text_from at_end s text ≡ Err fault)
passed_stop at_end s text t fault (m, rest, line, later, h, cut, refuses) =
    found_before (Err fault) (text_from at_end m rest) (text_from at_end s text) (passed at_end s text m rest h) (refused_line at_end m rest line later fault cut refuses.0)

-- ---- there is no fault exactly where the lines spell a log
checked_pieces : (at_end : End) → ((s : LogState) (rest : List ℕ) → at_end s rest ≡ Ok tt → rest ≡ [])
    → (pieces : List (List ℕ)) (s : LogState) (piece : List ℕ) → pieces_from at_end s piece pieces ≡ Ok tt
    → (steps : List Step) × Spell s.most piece pieces steps × AreLogSteps s.base s.live s.top steps × (at_end (after_lines s steps) [] ≡ Ok tt)
unfolding pieces_from
checked_pieces at_end ends [] s piece e = let none = ends s piece e in ([], none, tt, ap (at_end s) (sym none) ∙ e)
checked_pieces at_end ends (next ∷ pieces) s piece e = at (step_within s.most piece) refl e (λ step f. checked_pieces at_end ends pieces (after_line s step) next f)
  where
    by : (step : Step) → step_within s.most piece ≡ Ok step → (o : Option ℕ) → log_step_fault s.base s.live s.top step ≡ o
        → by_line (by_fault s step o) (λ t. pieces_from at_end t next pieces) ≡ Ok tt
        → (pieces_from at_end (after_line s step) next pieces ≡ Ok tt
        → (steps : List Step) × Spell s.most next pieces steps × AreLogSteps s.base (after_step s.live step) (top_after s.top step) steps × (at_end (after_lines (after_line s step) steps) [] ≡ Ok tt))
        → (steps : List Step) × Spell s.most piece (next ∷ pieces) steps × AreLogSteps s.base s.live s.top steps × (at_end (after_lines s steps) [] ≡ Ok tt)
    by step is (Some number) first e rest = absurd cc
    by step is None first e rest = let r = rest e in (step ∷ r.0, (is, r.1), (log_from_none s.base s.live s.top step first, r.2), r.3)

    at : (r : Result Step TextFault) → step_within s.most piece ≡ r
        → by_line (line_read s r) (λ t. pieces_from at_end t next pieces) ≡ Ok tt
        → ((step : Step) → pieces_from at_end (after_line s step) next pieces ≡ Ok tt
        → (steps : List Step) × Spell s.most next pieces steps × AreLogSteps s.base (after_step s.live step) (top_after s.top step) steps × (at_end (after_lines (after_line s step) steps) [] ≡ Ok tt))
        → (steps : List Step) × Spell s.most piece (next ∷ pieces) steps × AreLogSteps s.base s.live s.top steps × (at_end (after_lines s steps) [] ≡ Ok tt)
    at (Ok step) is e rest = by step is (log_step_fault s.base s.live s.top step) refl e (rest step)
    at (Err fault) is e rest = absurd cc

pieces_checked : (at_end : End) (pieces : List (List ℕ)) (steps : List Step) (s : LogState) (piece : List ℕ)
    → Spell s.most piece pieces steps → AreLogSteps s.base s.live s.top steps → at_end (after_lines s steps) [] ≡ Ok tt → pieces_from at_end s piece pieces ≡ Ok tt
unfolding pieces_from
pieces_checked at_end [] [] s piece spell log e = ap (at_end s) spell ∙ e
pieces_checked at_end [] (step ∷ steps) s piece spell log e = absurd spell
pieces_checked at_end (next ∷ pieces) [] s piece spell log e = absurd spell
pieces_checked at_end (next ∷ pieces) (step ∷ steps) s piece spell log e =
    ap (λ (r : Result Step TextFault). by_line (line_read s r) (λ t. pieces_from at_end t next pieces)) spell.0
    ∙ ap (λ (o : Option ℕ). by_line (by_fault s step o) (λ t. pieces_from at_end t next pieces)) (none_from_log s.base s.live s.top step log.0)
    ∙ pieces_checked at_end pieces steps (after_line s step) next spell.1 log.1 e

pub checked_text : (at_end : End) → ((s : LogState) (rest : List ℕ) → at_end s rest ≡ Ok tt → rest ≡ []) → (s : LogState) (text : List ℕ) → text_from at_end s text ≡ Ok tt
    → (steps : List Step) × LineSpellsWithin s.most text steps × AreLogSteps s.base s.live s.top steps × (at_end (after_lines s steps) [] ≡ Ok tt)
unfolding text_from
checked_text at_end ends s text e =
    let split : (piece : List ℕ) × (pieces : List (List ℕ)) × (slice_split is_lf text ≡ piece ∷ pieces) = first_piece text in
    let r : (steps : List Step) × Spell s.most split.0 split.1 steps × AreLogSteps s.base s.live s.top steps × (at_end (after_lines s steps) [] ≡ Ok tt) =
    checked_pieces at_end ends split.1 s split.0 (sym (ap (by_pieces (pieces_from at_end s)) split.2) ∙ e) in
    (r.0, spell_lines found_spells_within spelled_found_within s.most split.1 r.0 text split.0 split.2 r.1, r.2, r.3)

pub text_checked : (at_end : End) (s : LogState) (text : List ℕ) (steps : List Step) → s.most < 2 ^ 48 → LineSpellsWithin s.most text steps → AreLogSteps s.base s.live s.top steps
    → at_end (after_lines s steps) [] ≡ Ok tt → text_from at_end s text ≡ Ok tt
unfolding text_from
text_checked at_end s text steps few spelled log e =
    let split : (piece : List ℕ) × (pieces : List (List ℕ)) × (slice_split is_lf text ≡ piece ∷ pieces) × Spell s.most piece pieces steps = lines_spell found_spells_within spelled_found_within s.most few steps text spelled in
    ap (by_pieces (pieces_from at_end s)) split.2 ∙ pieces_checked at_end split.1 steps s split.0 split.3 log e

nothing_left : (s : LogState) (rest : List ℕ) → log_end s rest ≡ Ok tt → rest ≡ []
nothing_left s [] e = refl
nothing_left s (b ∷ bs) e = absurd cc

pub checked_log : (F : Cnf) (text : List ℕ) → log_of F text ≡ Ok tt → SpellsLog F text
checked_log F text e = let r = checked_text log_end nothing_left (begun F) text e in (r.0, r.1, r.2)

pub log_checked : (F : Cnf) (text : List ℕ) → F.vars ≤ 199999999 → SpellsLog F text → log_of F text ≡ Ok tt
log_checked F text small (steps, spelled, log) =
    let few : max 2000000 F.vars < 2 ^ 48 = omega arith in
    text_checked log_end (begun F) text steps few spelled log refl

-- what is found from the first line on is found of the log
pub begun_gives : (F : Cnf) (s : LogState) (text : List ℕ) (r : Result (Unit {0}) CheckFault) → s ≡ begun F → GivesCheck r (text_from log_end s text) → GivesCheck r (log_of F text)
begun_gives F s text r is found = subst (λ (t : LogState). GivesCheck r (text_from log_end t text)) is found

pub begun_spells : (F : Cnf) (s : LogState) (text : List ℕ) (r : Result (Unit {0}) CheckFault) → s ≡ begun F → GivesCheck r (text_from log_end s text) → OnOk r (SpellsLog F text)
begun_spells F s text r is found = given_ok r (log_of F text) (SpellsLog F text) (begun_gives F s text r is found) (checked_log F text)

pub begun_complete : (F : Cnf) (s : LogState) (text : List ℕ) (r : Result (Unit {0}) CheckFault) → F.vars ≤ 199999999 → s ≡ begun F → GivesCheck r (text_from log_end s text) → SpellsLog F text
    → (r ≡ Ok tt) ⊎ (r ≡ Err no_memory)
begun_complete F s text r small is found spells = given_complete r (log_of F text) (begun_gives F s text r is found) (log_checked F text small spells)
