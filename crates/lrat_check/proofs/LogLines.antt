-- Lines that a checker of logs takes, or what contains one: for crates above, in the terms of `TakesLines` of lrat_text.
use Rattle.std.proofs.Common.{◌≡◌, ◌⊎◌, ℕ, ◌+◌, List, [], ◌∷◌, ◌++◌, Option, Some, None, Result, Ok, Err, refl, sym, ◌∙◌, ap, append_assoc, arith, length, subst}
use Rattle.std.proofs.lemmas.List.Elements.{All-head, All-tail}
use Rattle.std.specs.List.{All}
use Rattle.dimacs.specs.logic.Cnf.{Cnf}
use Rattle.dimacs.specs.logic.ClauseMap.{ClauseMap, map_of}
use Rattle.dimacs.specs.text.Words.{lines}
use Rattle.lrat_text.specs.Grammar.{LineSpellsWithin}
use Rattle.lrat_text.specs.Lines.{IsOpen}
use Rattle.lrat_text.specs.Log.{AreLogSteps, IsLog, after_step, log_top, top_after}
use Rattle.lrat_text.specs.Parser.{step_within}
use Rattle.lrat_text.specs.Runs.{after_steps, top_of}
use Rattle.lrat_text.specs.LineSink.{TakesAll, HandsOn, LineRefused, PieceStops, ended_lines}
use Rattle.lrat_text.specs.declared.line_splitter.PieceFault.{PieceFault}
use Rattle.lrat_text.specs.declared.line_splitter.PieceFault.TheVariants.{NoMemory as NoPlace, Line}
use Rattle.lrat_text.specs.declared.fault.TextFault.{TextFault}
use Rattle.lrat_text.specs.declared.step.Step.{Step}
use Rattle.lrat_text.proofs.LineSinkLemmas.{hands_on}
use Rattle.lrat_check.specs.ProofFaults.{by_pieces, no_memory}
use Rattle.lrat_check.specs.Logs.{KeepsFormula, LogState, HoldsFormula, TakesLogLine, RefusesLogLine, IsBegun, begun, by_fault, by_line, line_read, log_step_fault, log_end, log_of, pieces_from, text_from}
use Rattle.lrat_check.specs.declared.line_checker.CheckFault.{CheckFault}
use Rattle.lrat_check.specs.inner.LogStates.{RefusesAndKeeps}
use Rattle.lrat_check.proofs.Behind.{takes_stands}
use Rattle.lrat_check.proofs.Lines.{no_lf_to, first_piece}
use Rattle.lrat_check.proofs.LogTexts.{passed_stop, text_passed}

-- ---- pieces of a text, whatever takes its lines
-- what is handed on is handed on whatever follows
pub hands_more : {S : Type 0} (takes : S → List ℕ → S → Type 0) (s : S) (text : List ℕ) (t : S) (rest more : List ℕ) → HandsOn takes s text t rest → HandsOn takes s (text ++ more) t (rest ++ more)
hands_more takes s text t rest more h = record {
  lines = h.lines;
  whole = ap (λ (x : List ℕ). x ++ more) h.whole ∙ append_assoc (ended_lines h.lines) rest more;
  one_by_one = h.one_by_one;
  taken = h.taken;
}

-- a piece after the line that is begun is a piece after the text
pub hands_piece : {S : Type 0} (takes : S → List ℕ → S → Type 0) (s : S) (text : List ℕ) (t : S) (rest piece : List ℕ) (u : S) (left : List ℕ)
    → HandsOn takes s text t rest → HandsOn takes t (rest ++ piece) u left → HandsOn takes s (text ++ piece) u left
hands_piece takes s text t rest piece u left h more =
    hands_on takes s (text ++ piece) t (rest ++ piece) u left (hands_more takes s text t rest piece h) more

-- ---- what has a checker of logs
module _ {S : Type 0} (log : S → LogState) (takes : S → List ℕ → S → Type 0)
    (is_log : (s : S) (line : List ℕ) (t : S) → takes s line t → TakesLogLine (log s) line (log t)) where
  taken_log : (lines : List (List ℕ)) (s t : S) → TakesAll takes s lines t → TakesAll TakesLogLine (log s) lines (log t)
  taken_log [] s t e = ap log e
  taken_log (line ∷ lines) s t (m, first, later) = (log m, is_log s line m first, taken_log lines m t later)

  -- what takes the lines of a log is taken by the checker
  pub hands_log : (s : S) (text : List ℕ) (t : S) (rest : List ℕ) → HandsOn takes s text t rest → HandsOn TakesLogLine (log s) text (log t) rest
  hands_log s text t rest h = record { lines = h.lines; whole = h.whole; one_by_one = h.one_by_one; taken = taken_log h.lines s t h.taken }

-- ---- the formula stays
all_stand : (F : Cnf) (lines : List (List ℕ)) (s t : LogState) → TakesAll TakesLogLine s lines t → HoldsFormula F s → HoldsFormula F t
all_stand F [] s t e h = subst (λ (u : LogState). HoldsFormula F u) e h
all_stand F (line ∷ lines) s t (m, takes, later) h = all_stand F lines m t later (takes_stands F s m line takes h)

pub hands_stand : (F : Cnf) (s : LogState) (text : List ℕ) (t : LogState) (rest : List ℕ) → HandsOn TakesLogLine s text t rest → HoldsFormula F s → HoldsFormula F t
hands_stand F s text t rest handed h = all_stand F handed.lines s t handed.taken h

-- ---- the lines of a log
-- the lines spell steps of a log, which lead from one state to the other
pub record AreLogLines (s : LogState) (lines : List (List ℕ)) (steps : List Step) (t : LogState) : Type 0 where
  pub spelled : LineSpellsWithin s.most (ended_lines lines) steps
  pub log : AreLogSteps s.base s.live s.top steps
  pub live : t.live ≡ after_steps s.live steps
  pub top : t.top ≡ top_of s.top steps
  pub base : t.base ≡ s.base
  pub line : t.line ≡ s.line + length steps
  pub most : t.most ≡ s.most

one_more : (s m t : LogState) (line : List ℕ) (lines : List (List ℕ)) (steps : List Step) → IsOpen line → TakesLogLine s line m → AreLogLines m lines steps t → AreLogLines s (line ∷ lines) (m.step ∷ steps) t
one_more s m t line lines steps bare takes r = record {
  spelled = (line, ended_lines lines, refl, no_lf_to line bare, takes.spells, subst (λ (n : ℕ). LineSpellsWithin n (ended_lines lines) steps) takes.most r.spelled);
  log = (
    takes.follows,
    subst (λ (b : ℕ). AreLogSteps b (after_step s.live m.step) (top_after s.top m.step) steps) takes.base
        (subst (λ (M : ClauseMap). AreLogSteps m.base M (top_after s.top m.step) steps) takes.live
        (subst (λ (n : ℕ). AreLogSteps m.base m.live n steps) takes.top r.log)),
  );
  live = r.live ∙ ap (λ (M : ClauseMap). after_steps M steps) takes.live;
  top = r.top ∙ ap (λ (n : ℕ). top_of n steps) takes.top;
  base = r.base ∙ takes.base;
  line = omega (arith, r.line, takes.line);
  most = r.most ∙ takes.most;
}

log_lines : (lines : List (List ℕ)) (s t : LogState) → All IsOpen lines → TakesAll TakesLogLine s lines t → (steps : List Step) × AreLogLines s lines steps t
log_lines [] s t each e = (
  [],
  record {
    spelled = refl;
    log = tt;
    live = ap (λ (u : LogState). u.live) (sym e);
    top = ap (λ (u : LogState). u.top) (sym e);
    base = ap (λ (u : LogState). u.base) (sym e);
    line = omega (arith, ap (λ (u : LogState). u.line) e);
    most = ap (λ (u : LogState). u.most) (sym e);
  },
)
log_lines (line ∷ lines) s t each (m, takes, later) =
    let r = log_lines lines m t (All-tail IsOpen line lines each) later in
    (m.step ∷ r.0, one_more s m t line lines r.0 (All-head IsOpen line lines each) takes r.1)

-- of the text of a log over the formula, the lines of these steps were taken, and the rest was not
pub record HasTakenLog (F : Cnf) (text : List ℕ) (steps : List Step) (t : LogState) (rest : List ℕ) : Type 0 where
  pub front : List ℕ
  pub whole : text ≡ front ++ rest
  pub spelled : LineSpellsWithin (log_top F) front steps
  pub log : IsLog F steps
  pub live : t.live ≡ after_steps (map_of F) steps
  pub top : t.top ≡ top_of (length F.clauses) steps
  pub base : t.base ≡ length F.clauses
  pub most : t.most ≡ log_top F

-- the lines that were taken since the log began are those of its steps
pub log_taken : (F : Cnf) (s : LogState) (text : List ℕ) (t : LogState) (rest : List ℕ) → IsBegun F s → HandsOn TakesLogLine s text t rest → (steps : List Step) × HasTakenLog F text steps t rest
log_taken F s text t rest b h =
    let r = log_lines h.lines s t h.one_by_one h.taken in (
      r.0,
      record {
        front = ended_lines h.lines;
        whole = h.whole;
        spelled = subst (λ (n : ℕ). LineSpellsWithin n (ended_lines h.lines) r.0) b.most r.1.spelled;
        log = subst (λ (n : ℕ). AreLogSteps n (map_of F) (length F.clauses) r.0) b.base
            (subst (λ (M : ClauseMap). AreLogSteps s.base M (length F.clauses) r.0) b.live
            (subst (λ (n : ℕ). AreLogSteps s.base s.live n r.0) b.top r.1.log));
        live = r.1.live ∙ ap (λ (M : ClauseMap). after_steps M r.0) b.live;
        top = r.1.top ∙ ap (λ (n : ℕ). top_of n r.0) b.top;
        base = r.1.base ∙ b.base;
        most = r.1.most ∙ b.most;
      },
    )

-- ---- the whole text
-- the step that was read last is nothing to a log, nor is what a refused one took out
abbrev with_step : LogState → Step → LogState
with_step s step = record { base = s.base; live = s.live; top = s.top; line = s.line; step = step; cut = 0; most = s.most }

fault_aside : (s : LogState) (x step : Step) (o : Option ℕ) → by_fault s step o ≡ by_fault (with_step s x) step o
fault_aside s x step None = refl
fault_aside s x step (Some number) = refl

read_aside : (s : LogState) (x : Step) (r : Result Step TextFault) → line_read s r ≡ line_read (with_step s x) r
read_aside s x (Ok step) = fault_aside s x step (log_step_fault s.base s.live s.top step)
read_aside s x (Err fault) = refl

pieces_aside : (s : LogState) (x : Step) (piece : List ℕ) (pieces : List (List ℕ)) → pieces_from log_end s piece pieces ≡ pieces_from log_end (with_step s x) piece pieces
unfolding pieces_from
pieces_aside s x piece [] = refl
pieces_aside s x piece (next ∷ pieces) = ap (λ (r : Result LogState CheckFault). by_line r (λ t. pieces_from log_end t next pieces)) (read_aside s x (step_within s.most piece))

text_aside : (s : LogState) (x : Step) (text : List ℕ) → text_from log_end s text ≡ text_from log_end (with_step s x) text
unfolding text_from
text_aside s x text =
    let split : (piece : List ℕ) × (pieces : List (List ℕ)) × (lines text ≡ piece ∷ pieces) = first_piece text in
    ap (by_pieces (pieces_from log_end s)) split.2
    ∙ pieces_aside s x split.0 split.1
    ∙ sym (ap (by_pieces (pieces_from log_end (with_step s x))) split.2)

-- what is found of a text where a log begins is found of the log
pub begun_same : (F : Cnf) (s : LogState) (text : List ℕ) → IsBegun F s → text_from log_end s text ≡ log_of F text
begun_same F s text h =
    text_aside s (begun F).step text
    ∙ ap (λ (b : ℕ). text_from log_end (record { base = b; live = s.live; top = s.top; line = s.line; step = (begun F).step; cut = 0; most = s.most }) text) h.base
    ∙ ap (λ (M : ClauseMap). text_from log_end (record { base = length F.clauses; live = M; top = s.top; line = s.line; step = (begun F).step; cut = 0; most = s.most }) text) h.live
    ∙ ap (λ (n : ℕ). text_from log_end (record { base = length F.clauses; live = map_of F; top = n; line = s.line; step = (begun F).step; cut = 0; most = s.most }) text) h.top
    ∙ ap (λ (n : ℕ). text_from log_end (record { base = length F.clauses; live = map_of F; top = length F.clauses; line = n; step = (begun F).step; cut = 0; most = s.most }) text) h.line
    ∙ ap (λ (n : ℕ). text_from log_end (record { base = length F.clauses; live = map_of F; top = length F.clauses; line = 1; step = (begun F).step; cut = 0; most = n }) text) h.most

-- after its lines, the log is what its end answers
pub log_ends : (F : Cnf) (s : LogState) (text : List ℕ) (t : LogState) (rest : List ℕ) → IsBegun F s → HandsOn TakesLogLine s text t rest → IsOpen rest → log_of F text ≡ log_end t rest
log_ends F s text t rest b h no_lf = sym (begun_same F s text b) ∙ text_passed log_end s text t rest h no_lf

-- and where a line of it is refused, it has that fault, or memory ran out
pub log_stops : (F : Cnf) (s : LogState) (text : List ℕ) (t : LogState) (fault : CheckFault) → IsBegun F s → LineRefused TakesLogLine RefusesAndKeeps s text t fault → (fault ≡ no_memory) ⊎ (log_of F text ≡ Err fault)
log_stops F s text t fault b h = subst (λ (r : Result (Unit {0}) CheckFault). (fault ≡ no_memory) ⊎ (r ≡ Err fault)) (begun_same F s text b) (passed_stop log_end s text t fault h)

-- the same of what has a checker of logs, and tells the checker's fault
module _ {S X : Type 0} (log : S → LogState) (told : X → CheckFault) (takes : S → List ℕ → S → Type 0) (refuses : S → List ℕ → S → X → Type 0)
    (is_log : (s : S) (line : List ℕ) (t : S) → takes s line t → TakesLogLine (log s) line (log t))
    (is_fault : (s : S) (line : List ℕ) (t : S) (fault : X) → refuses s line t fault → RefusesLogLine (log s) line (told fault) × KeepsFormula (log s) (log t)) where
  pub refuses_log : (s : S) (text : List ℕ) (t : S) (fault : X) → LineRefused takes refuses s text t fault → LineRefused TakesLogLine RefusesAndKeeps (log s) text (log t) (told fault)
  refuses_log s text t fault (m, rest, line, later, h, cut, refused) =
      (log m, rest, line, later, hands_log log takes is_log s text m rest h, cut, is_fault m line t fault refused)

  -- also where a piece is not taken to its end
  pub stops_stand : (F : Cnf) (s : S) (text : List ℕ) (t : S) (fault : PieceFault X) → PieceStops takes refuses s text t fault → HoldsFormula F (log s) → HoldsFormula F (log t)
  stops_stand F s text t NoPlace (lines, taken) h = all_stand F lines (log s) (log t) (taken_log log takes is_log lines s t taken) h
  stops_stand F s text t (Line fault) (m, rest, line, later, handed, cut, refused) h =
      (is_fault m line t fault refused).1 F (hands_stand F (log s) text (log m) rest (hands_log log takes is_log s text m rest handed) h)
