-- A join of logs, while files are read.
use Rattle.std.proofs.Common.{◌≡◌, ◌≢◌, inl, inr, ℕ, ◌+◌, ◌<◌, ◌≤◌, ◌^◌, Bool, true, false, cond, arith, length, get_or, List, [], ◌∷◌, ◌++◌, refl, sym, ap, subst, ◌∙◌, append_assoc, Result, Ok, Err, OnOk}
use Rattle.std.specs.Prelude.{MatchBool, codes, ◌==◌}
use Rattle.std.proofs.lemmas.Bool.Decides.{nat_tests}
use Rattle.std.proofs.lemmas.List.{append-nil, length-map}
use Rattle.reports.specs.declared.report.Report.{Report}
use Rattle.std.specs.Global.{Vec}
use Rattle.std.specs.List.{All, list_all}
use Rattle.std.proofs.lemmas.Bool.{true≢false}
use Rattle.std.proofs.lemmas.List.Elements.{All-cons, All-nil, All-head, All-tail}
use Rattle.answers.specs.Pieces.{HasRead, Progress}
use Rattle.answers.specs.Parse.{answer_of}
use Rattle.log_join.specs.ClosedLeaves.{Leaf, is_closed, open_from, with_open}
use Rattle.log_join.specs.JoinedLogs.{IsJoinTextOf, Handed}
use Rattle.log_join.specs.Written.{Appends, BetweenLogs, WithinLog, leaves_of}
use Rattle.dimacs.specs.logic.Cnf.{Cnf}
use Rattle.log_join.specs.declared.fault.LogJoinFault.{LogJoinFault}
use Rattle.icnf.specs.Leaves.{Cube}
use Rattle.lrat_text.specs.Grammar.{LineSpellsWithin, SpellsStepWithin}
use Rattle.lrat_text.specs.Lines.{IsOpen}
use Rattle.lrat_text.specs.Log.{log_top}
use Rattle.lrat_text.specs.LineSink.{HandsOn, LineRefused, PieceStops, TakesAll, ended_lines}
use Rattle.lrat_text.specs.declared.line_splitter.PieceFault.{PieceFault}
use Rattle.lrat_text.specs.declared.line_splitter.PieceFault.TheVariants.{Line}
use Rattle.lrat_text.specs.declared.step.Step.{Step}
use Rattle.lrat_text.proofs.RunLemmas.{spells_append_within}
use Rattle.lrat_text.proofs.LineSinkLemmas.{hands_none}
use Rattle.lrat_text.specs.Proof.{Accepts}
use Rattle.proof_join.specs.RenumberedProof.{RefutesByRup}
use Rattle.lrat_check.specs.ProofFaults.{no_memory}
use Rattle.lrat_check.specs.Logs.{LogState, TakesLogLine, log_end, log_of}
use Rattle.lrat_check.specs.declared.line_checker.CheckFault.{CheckFault}
use Rattle.lrat_check.proofs.Lines.{no_lf_to}
use Rattle.lrat_check.proofs.LogTexts.{log_checked}
use Rattle.lrat_check.proofs.LogLines.{hands_log, hands_more, hands_piece, log_ends, log_stops}
use Rattle.leaves.specs.inner.CheckedLines as lines
use Rattle.leaves.specs.CheckedLines.{IsBetweenLogs, IsWithinLog}
use Rattle.leaves.specs.inner.Join.{EndsAccepted, IsStopped, KeepsJoined, EndsUnused, OpensAs, StaysAs, JoinsPiece, ReportsMissing}
use Rattle.leaves.specs.inner.CheckedLines.{BeginsLog, EndsLog, LineTaken}
use Rattle.leaves.specs.Join.{HasReadPart, Concludes, HasReadFiles, HasFirstByte, FitsFirstByte, LeavesClosedByFiles, Proves, HasReadAnswer, HasReadLogSoFar, HasReadNothing, HasReadFaultyLog, ReportsOpen, HasGatheredLogs, IsAnswerOutcome, IsFileOutcome, IsLogOutcome, misses, proves}
use Rattle.leaves.specs.declared.checked_lines.LineFault.{LineFault}
use Rattle.leaves.specs.declared.checked_lines.LineFault.TheVariants as line_fault
use Rattle.leaves.specs.declared.file_outcome.FileOutcome.{FileOutcome}
use Rattle.leaves.specs.declared.file_outcome.FileOutcome.TheVariants as ends
use Rattle.leaves.specs.declared.join.Join.{Join}
use Rattle.leaves.specs.declared.checked_lines.CheckedLines.{CheckedLines}
use Rattle.leaves.specs.declared.join.FileState.{FileState}
use Rattle.leaves.specs.declared.join.FileState.TheVariants.{Begun, Log, Refused as RefusedBy, Answer}
use Rattle.leaves.proofs.LineLemmas.{appended}
use Rattle.leaves.proofs.FileLemmas.{AreOf, all_closed, answer_closes_none, begun_is, begun_more, closed_all_of, empty_closes_none, faulty_closes_none, leaves_stand, log_more, more_newly, newly_more, nothing_more, refused_more}

-- what is read, by the state of the file
pub read_as : (r s : FileState) (F : Cnf) (cubes : List Cube) (logs : List Handed) (bytes line written : List ℕ) (l : CheckedLines) → r ≡ s → HasReadPart r F cubes logs bytes line written l → HasReadPart s F cubes logs bytes line written l
read_as r s F cubes logs bytes line written l is h = subst (λ (x : FileState). HasReadPart x F cubes logs bytes line written l) is h

pub kind_as : (r s : FileState) (bytes : List ℕ) → r ≡ s → FitsFirstByte r bytes → FitsFirstByte s bytes
kind_as r s bytes is h = subst (λ (x : FileState). FitsFirstByte x bytes) is h

-- ---- a log, piece by piece
-- lines that are taken spell steps, which are written
lines_spell : (ls : List (List ℕ)) (a b : CheckedLines) → All IsOpen ls → TakesAll LineTaken a ls b → (F : Cnf) (cubes : List Cube) (logs : List Handed) (log : List Step) (written : List ℕ) → IsWithinLog F cubes logs log written a
    → (more : List Step) × LineSpellsWithin (log_top F) (ended_lines ls) more × IsWithinLog F cubes logs (log ++ more) written b
lines_spell [] a b each same F cubes logs log written h = ([], refl, subst (λ (s : List Step). IsWithinLog F cubes logs s written b) (sym (append-nil log)) (subst (IsWithinLog F cubes logs log written) same h))
lines_spell (line ∷ ls) a b each (m, first, later) F cubes logs log written h =
    let r = lines_spell ls m b (All-tail IsOpen line ls each) later F cubes logs (log ++ m.checker.step ∷ []) written (first.within F cubes logs log written h) in
    let spells : SpellsStepWithin (log_top F) line m.checker.step = subst (λ (n : ℕ). SpellsStepWithin n line m.checker.step) h.after.stands.most first.takes.spells in (
      m.checker.step ∷ r.0,
      (line, ended_lines ls, refl, no_lf_to line (All-head IsOpen line ls each), spells, r.1),
      subst (λ (s : List Step). IsWithinLog F cubes logs s written b) (append_assoc log (m.checker.step ∷ []) r.0) r.2,
    )

pub log_feeds : (F : Cnf) (cubes : List Cube) (logs : List Handed) (bytes line written : List ℕ) (a : CheckedLines) (piece : List ℕ) (b : CheckedLines) (left : List ℕ) → HasReadLogSoFar F cubes logs bytes line written a
    → HandsOn LineTaken a (line ++ piece) b left → HasReadLogSoFar F cubes logs (bytes ++ piece) left written b
log_feeds F cubes logs bytes line written a piece b left r h =
    let more = lines_spell h.lines a b h.one_by_one h.taken F cubes logs r.log written r.within in
    record {
      log = r.log ++ more.0;
      within = more.2;
      front = r.front ++ ended_lines h.lines;
      whole = ap (λ (x : List ℕ). x ++ piece) r.whole ∙ append_assoc r.front line piece ∙ ap (λ (x : List ℕ). r.front ++ x) h.whole ∙ sym (append_assoc r.front (ended_lines h.lines) left);
      spells = spells_append_within (log_top F) r.front (ended_lines h.lines) r.log more.0 r.spells more.1;
      first = r.first;
      begun = r.begun;
      checked = hands_piece TakesLogLine r.first bytes a.checker line piece b.checker left r.checked (hands_log (λ (l : CheckedLines). l.checker) LineTaken (λ s one t k. k.takes) a (line ++ piece) b left h);
    }

-- a line is refused
log_refused : (F : Cnf) (cubes : List Cube) (logs : List Handed) (bytes line written : List ℕ) (a : CheckedLines) (piece : List ℕ) (b : CheckedLines) (fault : CheckFault) → HasReadLogSoFar F cubes logs bytes line written a → fault ≢ no_memory
    → LineRefused LineTaken lines.LineRefused a (line ++ piece) b (line_fault.Log fault) → HasReadFaultyLog F cubes logs fault (bytes ++ piece) written b
log_refused F cubes logs bytes line written a piece b fault r some (m, rest, bad, later, h, cut, refused) =
    let mid : HasReadLogSoFar F cubes logs (bytes ++ piece) rest written m = log_feeds F cubes logs bytes line written a piece m rest r h in
    let w = refused.1 F cubes logs mid.log written mid.within in
    record {
      log = w.0;
      within = w.1;
      faulty = λ more. elim (log_stops F mid.first ((bytes ++ piece) ++ more) m.checker fault mid.begun (
        m.checker,
        rest ++ more,
        bad,
        later ++ more,
        hands_more TakesLogLine mid.first (bytes ++ piece) m.checker rest more mid.checked,
        (ap (λ (x : List ℕ). x ++ more) cut.0 ∙ append_assoc bad (10 ∷ later) more, cut.1),
        (refused.0, λ G s. s),
      )) [
        | inl none ↦ absurd (some none)
        | inr e ↦ e
      ];
    }

-- ---- a file that begins
pub opens_log : (F : Cnf) (cubes : List Cube) (logs : List Handed) (bytes line written : List ℕ) (a b : CheckedLines) → BeginsLog a b → HasReadNothing F cubes logs bytes line written a → HasReadLogSoFar F cubes logs bytes line written b
opens_log F cubes logs bytes line written a b begins r =
    let at = begins F cubes logs written r.between in
    record {
      log = [];
      within = at.0;
      front = [];
      whole = r.no_byte ∙ sym r.no_line;
      spells = refl;
      first = b.checker;
      begun = at.1;
      checked = subst (λ (x : List ℕ). HandsOn TakesLogLine b.checker bytes b.checker x) (r.no_byte ∙ sym r.no_line) (hands_none TakesLogLine b.checker bytes);
    }

pub opens_answer : (F : Cnf) (cubes : List Cube) (logs : List Handed) (bytes line written : List ℕ) (l : CheckedLines) (reader : Progress) → HasRead reader [] → HasReadNothing F cubes logs bytes line written l → HasReadAnswer F cubes logs reader bytes line written l
opens_answer F cubes logs bytes line written l reader h r = record { between = r.between; no_line = r.no_line; read = subst (λ (x : List ℕ). HasRead reader x) (sym r.no_byte) h }

-- a state other than `Begun` still fits the first byte
pub kind_stays : (r : FileState) (bytes more : List ℕ) → r ≢ Begun → FitsFirstByte r bytes → FitsFirstByte r (bytes ++ more)
kind_stays Begun bytes more ne h = absurd (ne refl)
kind_stays Log bytes more ne h = begun_more false bytes more h
kind_stays (RefusedBy fault) bytes more ne h = begun_more false bytes more h
kind_stays (Answer reader) bytes more ne h = begun_more true bytes more h

-- ---- a file that ends
-- the files before and this one were read, and the next one may begin
pub record AreEnded (F : Cnf) (cubes : List Cube) (files : List (List ℕ)) (written : List ℕ) (l : CheckedLines) : Type 0 where
  pub logs : List Handed
  pub closing : AreOf F logs files
  pub between : IsBetweenLogs F cubes logs written l

pub next : (F : Cnf) (cubes : List Cube) (files : List (List ℕ)) (written : List ℕ) (j : Join) → j.formula ≡ F → length cubes < 2 ^ 64 → j.reading ≡ Begun → j.begun ≡ [] → AreEnded F cubes files written j.lines
    → HasReadFiles F cubes files [] written j
next F cubes files written j formula few reading begun e = record {
  stands = record {
    formula = formula;
    few = few;
    logs = e.logs;
    closing = e.closing;
    read = subst (λ (x : FileState). HasReadPart x F cubes e.logs [] j.begun written j.lines) (sym reading) (record { between = e.between; no_line = begun; no_byte = refl });
  };
  read_as = subst (λ (x : FileState). FitsFirstByte x []) (sym reading) refl;
}

tells_log : (F : Cnf) (cubes : List Cube) (files : List (List ℕ)) (text : List ℕ) (r : Result (Unit {0}) CheckFault) (e : FileOutcome) → HasFirstByte false text → log_of F text ≡ r → IsLogOutcome F cubes files text r e → IsFileOutcome F cubes files text e
tells_log F cubes files text r e kind is h =
    subst (λ (b : Bool). MatchBool b (IsAnswerOutcome F (answer_of text) e) (IsLogOutcome F cubes files text (log_of F text) e)) (sym (begun_is false text kind))
    (subst (λ (x : Result (Unit {0}) CheckFault). IsLogOutcome F cubes files text x e) (sym is) h)

-- nothing at all
module _ (F : Cnf) (cubes : List Cube) (files : List (List ℕ)) (logs : List Handed) (line written : List ℕ) (l : CheckedLines) (are : AreOf F logs files) where
  pub nothing_ends : (bytes : List ℕ) → HasReadNothing F cubes logs bytes line written l → AreEnded F cubes (files ++ bytes ∷ []) written l
  nothing_ends bytes r = record {
    logs = logs;
    closing = subst (λ (x : List ℕ). AreOf F logs (files ++ x ∷ [])) (sym r.no_byte) (nothing_more F logs files [] are (empty_closes_none F));
    between = r.between;
  }

pub tells_nothing : (F : Cnf) → F.vars ≤ 199999999 → (cubes : List Cube) (files : List (List ℕ)) (bytes : List ℕ) → bytes ≡ [] → IsFileOutcome F cubes files bytes ends.ClosesNothing
tells_nothing F low cubes files bytes none =
    subst (λ (x : List ℕ). IsFileOutcome F cubes files x ends.ClosesNothing) (sym none)
    (subst (λ (r : Result (Unit {0}) CheckFault). IsLogOutcome F cubes files [] r ends.ClosesNothing) (sym (log_checked F [] low ([], refl, tt))) (inr (refl, λ more. empty_closes_none F more.0 more.3)))

-- an answer
pub answer_ends : (F : Cnf) (cubes : List Cube) (files : List (List ℕ)) (logs : List Handed) (reader : Progress) (bytes line written : List ℕ) (l : CheckedLines) → AreOf F logs files → HasFirstByte true bytes
    → HasReadAnswer F cubes logs reader bytes line written l → AreEnded F cubes (files ++ bytes ∷ []) written l
answer_ends F cubes files logs reader bytes line written l are kind r =
    record { logs = logs; closing = nothing_more F logs files bytes are (answer_closes_none F bytes (begun_is true bytes kind)); between = r.between }

pub tells_answer : (F : Cnf) (cubes : List Cube) (files : List (List ℕ)) (bytes : List ℕ) (e : FileOutcome) → HasFirstByte true bytes → IsAnswerOutcome F (answer_of bytes) e → IsFileOutcome F cubes files bytes e
tells_answer F cubes files bytes e kind h = subst (λ (b : Bool). MatchBool b (IsAnswerOutcome F (answer_of bytes) e) (IsLogOutcome F cubes files bytes (log_of F bytes) e)) (sym (begun_is true bytes kind)) h

-- a log
nothing_left : (s : LogState) (rest : List ℕ) → Ok tt ≡ log_end s rest → rest ≡ []
nothing_left s [] e = refl
nothing_left s (b ∷ bs) e = absurd cc

module _ (F : Cnf) (cubes : List Cube) (files : List (List ℕ)) (logs : List Handed) (bytes line written : List ℕ) (old new : CheckedLines) (are : AreOf F logs files) (kind : HasFirstByte false bytes)
    (r : HasReadLogSoFar F cubes logs bytes line written old) (one_line : IsOpen line) where
  answers : log_of F bytes ≡ log_end old.checker line
  answers = log_ends F r.first bytes old.checker line r.begun r.checked one_line

  module _ (ok : Ok tt ≡ log_end old.checker line) (b : Bool) (end : EndsLog true old new b) where
    whole : LineSpellsWithin (log_top F) bytes r.log
    whole = subst (λ (x : List ℕ). LineSpellsWithin (log_top F) x r.log) (sym (r.whole ∙ ap (λ (x : List ℕ). r.front ++ x) (nothing_left old.checker line ok) ∙ append-nil r.front)) r.spells

    pub log_is_right : AreEnded F cubes (files ++ bytes ∷ []) written new
    log_is_right = record {
      logs = logs ++ record { steps = r.log; accepted = true } ∷ [];
      closing = log_more F r.within.within.vars logs files bytes r.log are whole r.within.within.is_log;
      between = (end F cubes logs r.log written r.within).0;
    }

    tells_by : (t : Bool) → b ≡ t → IsLogOutcome F cubes files bytes (Ok tt) (cond t ends.Closes ends.ClosesNothing)
    tells_by true e = inl (refl, newly_more F cubes logs files bytes r.log are whole r.within.within.is_log (((end F cubes logs r.log written r.within).1 refl).0 e))
    tells_by false e = inr (refl, λ more. true≢false (sym (((end F cubes logs r.log written r.within).1 refl).1 (more_newly F r.within.within.vars cubes logs files bytes r.log are whole more)) ∙ e))

    pub tells_right : (e : FileOutcome) → e ≡ cond b ends.Closes ends.ClosesNothing → IsFileOutcome F cubes files bytes e
    tells_right e is = tells_log F cubes files bytes (Ok tt) e kind (answers ∙ sym ok) (subst (IsLogOutcome F cubes files bytes (Ok tt)) (sym is) (tells_by b refl))

  -- the last line has no LF
  pub cut_is_faulty : (fault : CheckFault) → Err fault ≡ log_end old.checker line → log_of F bytes ≡ Err fault
  cut_is_faulty fault err = answers ∙ sym err

-- a log with a fault
pub faulty_ends : (F : Cnf) (cubes : List Cube) (files : List (List ℕ)) (logs : List Handed) (log : List Step) (bytes written : List ℕ) (old new : CheckedLines) (fault : CheckFault) → AreOf F logs files
    → IsWithinLog F cubes logs log written old → EndsUnused old new → log_of F bytes ≡ Err fault → AreEnded F cubes (files ++ bytes ∷ []) written new
faulty_ends F cubes files logs log bytes written old new fault are h leaves is = record {
  logs = logs ++ record { steps = log; accepted = false } ∷ [];
  closing = nothing_more F (logs ++ record { steps = log; accepted = false } ∷ []) files bytes (refused_more F logs files log are) (faulty_closes_none F h.within.vars bytes fault is);
  between = (leaves.1 F cubes logs log written h).0;
}

pub tells_faulty : (F : Cnf) (cubes : List Cube) (files : List (List ℕ)) (bytes : List ℕ) (fault : CheckFault) (e : FileOutcome) → HasFirstByte false bytes → log_of F bytes ≡ Err fault
    → e ≡ ends.Refused fault.line fault.number → IsFileOutcome F cubes files bytes e
tells_faulty F cubes files bytes fault e kind is told = tells_log F cubes files bytes (Err fault) e kind is told

-- whatever follows, so also if nothing follows
pub faulty_now : (F : Cnf) (cubes : List Cube) (logs : List Handed) (fault : CheckFault) (bytes written : List ℕ) (l : CheckedLines) → HasReadFaultyLog F cubes logs fault bytes written l → log_of F bytes ≡ Err fault
faulty_now F cubes logs fault bytes written l r = ap (log_of F) (sym (append-nil bytes)) ∙ r.faulty []

-- a file that is given up
pub given_up : (F : Cnf) (cubes : List Cube) (files : List (List ℕ)) (logs : List Handed) (log : List Step) (written : List ℕ) (old new : CheckedLines) → AreOf F logs files → IsWithinLog F cubes logs log written old → EndsUnused old new
    → AreEnded F cubes files written new
given_up F cubes files logs log written old new are h leaves = record {
  logs = logs ++ record { steps = log; accepted = false } ∷ [];
  closing = refused_more F logs files log are;
  between = (leaves.1 F cubes logs log written h).0;
}

-- ---- bytes that are handed out
between_forgets : (F : Cnf) (cubes : List Cube) (logs : List Handed) (written : List ℕ) (l : CheckedLines) (none : Vec ℕ) → none.items ≡ [] → IsBetweenLogs F cubes logs written l
    → IsBetweenLogs F cubes logs (written ++ l.out.items) (record { checker = l.checker; joiner = l.joiner; out = none })
between_forgets F cubes logs written l none is h = record {
  between = subst (λ (w : List ℕ). BetweenLogs F cubes logs l.joiner w) (sym (ap (λ (x : List ℕ). (written ++ l.out.items) ++ x) is ∙ append-nil (written ++ l.out.items))) h.between;
  stands = h.stands;
}

within_forgets : (F : Cnf) (cubes : List Cube) (logs : List Handed) (log : List Step) (written : List ℕ) (l : CheckedLines) (none : Vec ℕ) → none.items ≡ [] → IsWithinLog F cubes logs log written l
    → IsWithinLog F cubes logs log (written ++ l.out.items) (record { checker = l.checker; joiner = l.joiner; out = none })
within_forgets F cubes logs log written l none is h = record {
  within = subst (λ (w : List ℕ). WithinLog F cubes logs log l.joiner w) (sym (ap (λ (x : List ℕ). (written ++ l.out.items) ++ x) is ∙ append-nil (written ++ l.out.items))) h.within;
  after = h.after;
}

pub forgets : (r : FileState) (F : Cnf) (cubes : List Cube) (logs : List Handed) (bytes line written : List ℕ) (l : CheckedLines) (none : Vec ℕ) → none.items ≡ [] → HasReadPart r F cubes logs bytes line written l
    → HasReadPart r F cubes logs bytes line (written ++ l.out.items) (record { checker = l.checker; joiner = l.joiner; out = none })
forgets Begun F cubes logs bytes line written l none is h = record { between = between_forgets F cubes logs written l none is h.between; no_line = h.no_line; no_byte = h.no_byte }
forgets Log F cubes logs bytes line written l none is h = record {
  log = h.log;
  within = within_forgets F cubes logs h.log written l none is h.within;
  front = h.front;
  whole = h.whole;
  spells = h.spells;
  first = h.first;
  begun = h.begun;
  checked = h.checked;
}
forgets (RefusedBy fault) F cubes logs bytes line written l none is h = record { log = h.log; within = within_forgets F cubes logs h.log written l none is h.within; faulty = h.faulty }
forgets (Answer reader) F cubes logs bytes line written l none is h = record { between = between_forgets F cubes logs written l none is h.between; no_line = h.no_line; read = h.read }

-- ---- the leaves
within_leaves : (F : Cnf) (cubes : List Cube) (files : List (List ℕ)) (logs : List Handed) (log : List Step) (written : List ℕ) (l : CheckedLines) → AreOf F logs files → IsWithinLog F cubes logs log written l
    → LeavesClosedByFiles F cubes files (leaves_of l.joiner)
within_leaves F cubes files logs log written l are h = subst (LeavesClosedByFiles F cubes files) (sym h.within.stands.leaves) (leaves_stand F cubes logs files h.within.are are)

between_leaves : (F : Cnf) (cubes : List Cube) (files : List (List ℕ)) (logs : List Handed) (written : List ℕ) (l : CheckedLines) → AreOf F logs files → IsBetweenLogs F cubes logs written l
    → LeavesClosedByFiles F cubes files (leaves_of l.joiner)
between_leaves F cubes files logs written l are h = subst (LeavesClosedByFiles F cubes files) (sym h.between.stands.leaves) (leaves_stand F cubes logs files h.between.are are)

leaves_read : (r : FileState) (F : Cnf) (cubes : List Cube) (files : List (List ℕ)) (logs : List Handed) (bytes line written : List ℕ) (l : CheckedLines) → AreOf F logs files → HasReadPart r F cubes logs bytes line written l
    → LeavesClosedByFiles F cubes files (leaves_of l.joiner)
leaves_read Begun F cubes files logs bytes line written l are h = between_leaves F cubes files logs written l are h.between
leaves_read Log F cubes files logs bytes line written l are h = within_leaves F cubes files logs h.log written l are h.within
leaves_read (RefusedBy fault) F cubes files logs bytes line written l are h = within_leaves F cubes files logs h.log written l are h.within
leaves_read (Answer reader) F cubes files logs bytes line written l are h = between_leaves F cubes files logs written l are h.between

-- the leaves of a join are those of its tree, and exactly those are closed that one of its files closes
pub leaves_are : (F : Cnf) (cubes : List Cube) (files : List (List ℕ)) (bytes written : List ℕ) (j : Join) → HasReadFiles F cubes files bytes written j → LeavesClosedByFiles F cubes files (leaves_of j.lines.joiner)
leaves_are F cubes files bytes written j h = leaves_read j.reading F cubes files h.stands.logs bytes j.begun written j.lines h.stands.closing h.stands.read

-- ---- the limit of the variables
most_read : (r : FileState) (F : Cnf) (cubes : List Cube) (logs : List Handed) (bytes line written : List ℕ) (l : CheckedLines) → HasReadPart r F cubes logs bytes line written l → l.checker.most ≡ log_top F
most_read Begun F cubes logs bytes line written l h = h.between.stands.most
most_read Log F cubes logs bytes line written l h = h.within.after.stands.most
most_read (RefusedBy fault) F cubes logs bytes line written l h = h.within.after.stands.most
most_read (Answer reader) F cubes logs bytes line written l h = h.between.stands.most

pub most_is : (F : Cnf) (cubes : List Cube) (files : List (List ℕ)) (bytes written : List ℕ) (j : Join) → HasReadFiles F cubes files bytes written j → j.lines.checker.most ≡ log_top F
most_is F cubes files bytes written j h = most_read j.reading F cubes h.stands.logs bytes j.begun written j.lines h.stands.read

-- ---- places
with_few : (b : Bool) (n : ℕ) (places : List ℕ) → n + 1 < 2 ^ 64 → All (λ p. p + 1 < 2 ^ 64) places → All (λ p. p + 1 < 2 ^ 64) (with_open b n places)
with_few true n places low h = h
with_few false n places low h = All-cons (λ p. p + 1 < 2 ^ 64) n places low h

-- the places of the leaves that are open are below the number of leaves
pub open_are_few : (n : ℕ) (ks : List Leaf) → n + length ks < 2 ^ 64 → All (λ p. p + 1 < 2 ^ 64) (open_from n ks)
open_are_few n [] few = All-nil (λ p. p + 1 < 2 ^ 64)
open_are_few n (k ∷ ks) few =
    with_few (is_closed k) n (open_from (n + 1) ks) (omega (arith, few)) (open_are_few (n + 1) ks (omega (arith, few)))

few_leaves : (F : Cnf) (cubes : List Cube) (files : List (List ℕ)) (leaves : List Leaf) → LeavesClosedByFiles F cubes files leaves → length cubes < 2 ^ 64 → length leaves < 2 ^ 64
few_leaves F cubes files leaves are few = subst (λ (n : ℕ). n < 2 ^ 64) (sym (sym (length-map leaves (λ (k : Leaf). k.cube)) ∙ ap length are.cubes_are)) few

-- ---- the end
-- a report of the leaves that are open
pub reports_open : (F : Cnf) (cubes : List Cube) (files : List (List ℕ)) (bytes written notes : List ℕ) (j : Join) (r : Report) → HasReadFiles F cubes files bytes written j → ReportsMissing notes (leaves_of j.lines.joiner) r
    → ReportsOpen F cubes files notes r
reports_open F cubes files bytes written notes j r h told =
    let are : LeavesClosedByFiles F cubes files (leaves_of j.lines.joiner) = leaves_are F cubes files bytes written j h in
    record { leaves = leaves_of j.lines.joiner; are = are; status = told.status; text = told.text (few_leaves F cubes files (leaves_of j.lines.joiner) are h.stands.few) }

-- ---- a piece
-- a line of it is refused
pub stops_standing : (fault : PieceFault LineFault) (f : LineFault) (old mid new : Join) (piece : List ℕ) → old.reading ≡ Log → mid.formula ≡ old.formula → fault ≡ Line f
    → PieceStops LineTaken lines.LineRefused old.lines (old.begun ++ piece) mid.lines fault → IsStopped f mid new → JoinsPiece piece old new
stops_standing fault (line_fault.Gather f) old mid new piece log same is stops s F cubes files bytes written h = absurd s
stops_standing fault (line_fault.Log f) old mid new piece log same is stops s F cubes files bytes written h =
    let refused : PieceStops LineTaken lines.LineRefused old.lines (old.begun ++ piece) mid.lines (Line (line_fault.Log f)) = subst (λ (x : PieceFault LineFault). PieceStops LineTaken lines.LineRefused old.lines (old.begun ++ piece) mid.lines x) is stops in
    subst (HasGatheredLogs F cubes files (bytes ++ piece) written) (sym s.1) (record {
      formula = same ∙ h.formula;
      few = h.few;
      logs = h.logs;
      closing = h.closing;
      read = log_refused F cubes h.logs bytes old.begun written old.lines piece mid.lines f (read_as old.reading Log F cubes h.logs bytes old.begun written old.lines log h.read) s.0 refused;
    })

pub stops_kind : (f : LineFault) (r : FileState) (mid new : Join) → r ≡ Log → IsStopped f mid new → StaysAs r new.reading
stops_kind (line_fault.Gather f) r mid new log s bytes h = absurd s
stops_kind (line_fault.Log f) r mid new log s bytes h = subst (λ (j : Join). FitsFirstByte j.reading bytes) (sym s.1) (kind_as r Log bytes log h)

-- no byte comes
pub no_piece : (piece : List ℕ) (j : Join) → length piece ≡ 0 → (F : Cnf) (cubes : List Cube) (files : List (List ℕ)) (bytes written : List ℕ) → HasReadFiles F cubes files bytes written j → HasReadFiles F cubes files (bytes ++ piece) written j
no_piece [] j none F cubes files bytes written h = subst (λ (x : List ℕ). HasReadFiles F cubes files x written j) (sym (append-nil bytes)) h
no_piece (b ∷ piece) j none F cubes files bytes written h = absurd (omega arith)

-- a piece after its first byte has opened the file
pub opened_as : (piece bytes : List ℕ) (first : ℕ) (r s : FileState) → 0 < length piece → first ≡ get_or piece 0 0 → OpensAs first r s → FitsFirstByte r bytes → FitsFirstByte s (bytes ++ piece)
opened_as [] bytes first r s some is opens h = absurd (omega arith)
opened_as (b ∷ piece) bytes first r s some is opens h = subst (λ (x : ℕ). FitsFirstByte s (bytes ++ x ∷ piece)) is (opens bytes piece h)

pub refused_more_bytes : (F : Cnf) (cubes : List Cube) (logs : List Handed) (fault : CheckFault) (bytes piece written : List ℕ) (l : CheckedLines) → HasReadFaultyLog F cubes logs fault bytes written l
    → HasReadFaultyLog F cubes logs fault (bytes ++ piece) written l
refused_more_bytes F cubes logs fault bytes piece written l r =
    record { log = r.log; within = r.within; faulty = λ more. ap (log_of F) (append_assoc bytes piece more) ∙ r.faulty (piece ++ more) }

pub not_nothing : (bytes piece : List ℕ) → 0 < length piece → bytes ++ piece ≡ [] → ⊥
not_nothing [] [] some e = absurd (omega arith)
not_nothing [] (b ∷ piece) some e = let no : ⊥ = cc in no
not_nothing (b ∷ bytes) piece some e = let no : ⊥ = cc in no

pub no_length : (piece : List ℕ) → true ≡ (length piece == 0) → length piece ≡ 0
no_length piece is = grind (arith, nat_tests)

pub some_length : (piece : List ℕ) → false ≡ (length piece == 0) → 0 < length piece
some_length piece is = grind (arith, nat_tests)

-- a piece of a log was read
pub holds_read : {E : Type 0} (r : Result (Unit {0}) E) (piece : List ℕ) (first : ℕ) (old mid new : Join) → 0 < length piece → first ≡ get_or piece 0 0
    → KeepsJoined old mid → OpensAs first old.reading mid.reading → OnOk r (JoinsPiece piece mid new) → OnOk r (StaysAs mid.reading new.reading)
    → OnOk r ((F : Cnf) (cubes : List Cube) (files : List (List ℕ)) (bytes written : List ℕ) → HasReadFiles F cubes files bytes written old → HasReadFiles F cubes files (bytes ++ piece) written new)
holds_read (Err fault) piece first old mid new some is stands opens takes stays = tt
holds_read (Ok x) piece first old mid new some is stands opens takes stays = λ F cubes files bytes written h. record {
  stands = takes F cubes files bytes written (stands F cubes files bytes written h.stands);
  read_as = stays (bytes ++ piece) (opened_as piece bytes first old.reading mid.reading some is opens h.read_as);
}

-- ---- a file is ended
-- after the call the join has read nothing of the next file
pub record IsNext (old j : Join) : Type 0 where
  pub formula : j.formula ≡ old.formula
  pub reading : j.reading ≡ Begun
  pub begun : j.begun ≡ []

next_of : (F : Cnf) (cubes : List Cube) (files later : List (List ℕ)) (bytes written : List ℕ) (old j : Join) → IsNext old j → HasReadFiles F cubes files bytes written old → AreEnded F cubes later written j.lines → HasReadFiles F cubes later [] written j
next_of F cubes files later bytes written old j n h e = next F cubes later written j (n.formula ∙ h.stands.formula) h.stands.few n.reading n.begun e

module _ (old : Join) (F : Cnf) (cubes : List Cube) (files : List (List ℕ)) (bytes written : List ℕ) (h : HasReadFiles F cubes files bytes written old) where
  -- nothing was read
  module _ (is : old.reading ≡ Begun) where
    reads_nothing : HasReadNothing F cubes h.stands.logs bytes old.begun written old.lines
    reads_nothing = read_as old.reading Begun F cubes h.stands.logs bytes old.begun written old.lines is h.stands.read

    pub end_nothing : (j : Join) → IsNext old j → j.lines ≡ old.lines → HasReadFiles F cubes (files ++ bytes ∷ []) [] written j
    end_nothing j n same = next_of F cubes files (files ++ bytes ∷ []) bytes written old j n h
        (subst (AreEnded F cubes (files ++ bytes ∷ []) written) (sym same) (nothing_ends F cubes files h.stands.logs old.begun written old.lines h.stands.closing bytes reads_nothing))

    pub tell_nothing : IsFileOutcome F cubes files bytes ends.ClosesNothing
    tell_nothing = tells_nothing F reads_nothing.between.between.vars cubes files bytes reads_nothing.no_byte

    pub leave_nothing : (j : Join) → IsNext old j → j.lines ≡ old.lines → HasReadFiles F cubes files [] written j
    leave_nothing j n same = next_of F cubes files files bytes written old j n h
        (subst (AreEnded F cubes files written) (sym same) (record { logs = h.stands.logs; closing = h.stands.closing; between = reads_nothing.between }))

  -- a log was read
  module _ (is : old.reading ≡ Log) where
    reads_log : HasReadLogSoFar F cubes h.stands.logs bytes old.begun written old.lines
    reads_log = read_as old.reading Log F cubes h.stands.logs bytes old.begun written old.lines is h.stands.read

    is_kind : HasFirstByte false bytes
    is_kind = kind_as old.reading Log bytes is h.read_as

    module _ (line : List ℕ) (line_is : line ≡ old.begun) (one_line : IsOpen line) where
      here : HasReadLogSoFar F cubes h.stands.logs bytes line written old.lines
      here = subst (λ (x : List ℕ). HasReadLogSoFar F cubes h.stands.logs bytes x written old.lines) (sym line_is) reads_log

      pub end_right : (ok : Ok tt ≡ log_end old.lines.checker line) (j : Join) (e : FileOutcome) → IsNext old j → EndsAccepted old.lines j.lines e → HasReadFiles F cubes (files ++ bytes ∷ []) [] written j
      end_right ok j e n right = next_of F cubes files (files ++ bytes ∷ []) bytes written old j n h
          (log_is_right F cubes files h.stands.logs bytes line written old.lines j.lines h.stands.closing is_kind here one_line ok right.0 right.1)

      pub tell_right : (ok : Ok tt ≡ log_end old.lines.checker line) (now : CheckedLines) (e : FileOutcome) → EndsAccepted old.lines now e → IsFileOutcome F cubes files bytes e
      tell_right ok now e right = tells_right F cubes files h.stands.logs bytes line written old.lines now h.stands.closing is_kind here one_line ok right.0 right.1 e right.2

      module _ (fault : CheckFault) (err : Err fault ≡ log_end old.lines.checker line) where
        faulty : log_of F bytes ≡ Err fault
        faulty = cut_is_faulty F cubes files h.stands.logs bytes line written old.lines old.lines h.stands.closing is_kind here one_line fault err

        pub end_faulty : (j : Join) → IsNext old j → EndsUnused old.lines j.lines → HasReadFiles F cubes (files ++ bytes ∷ []) [] written j
        end_faulty j n leaves = next_of F cubes files (files ++ bytes ∷ []) bytes written old j n h
            (faulty_ends F cubes files h.stands.logs here.log bytes written old.lines j.lines fault h.stands.closing here.within leaves faulty)

        pub tell_faulty : (e : FileOutcome) → e ≡ ends.Refused fault.line fault.number → IsFileOutcome F cubes files bytes e
        tell_faulty e told = tells_faulty F cubes files bytes fault e is_kind faulty told

    pub leave_log : (j : Join) → IsNext old j → EndsUnused old.lines j.lines → HasReadFiles F cubes files [] written j
    leave_log j n leaves = next_of F cubes files files bytes written old j n h (given_up F cubes files h.stands.logs reads_log.log written old.lines j.lines h.stands.closing reads_log.within leaves)

  -- a log was refused
  module _ (fault : CheckFault) (is : old.reading ≡ RefusedBy fault) where
    reads_refused : HasReadFaultyLog F cubes h.stands.logs fault bytes written old.lines
    reads_refused = read_as old.reading (RefusedBy fault) F cubes h.stands.logs bytes old.begun written old.lines is h.stands.read

    pub end_refused : (j : Join) → IsNext old j → EndsUnused old.lines j.lines → HasReadFiles F cubes (files ++ bytes ∷ []) [] written j
    end_refused j n leaves = next_of F cubes files (files ++ bytes ∷ []) bytes written old j n h
        (faulty_ends F cubes files h.stands.logs reads_refused.log bytes written old.lines j.lines fault h.stands.closing reads_refused.within leaves (faulty_now F cubes h.stands.logs fault bytes written old.lines reads_refused))

    pub tell_refused : (e : FileOutcome) → e ≡ ends.Refused fault.line fault.number → IsFileOutcome F cubes files bytes e
    tell_refused e told = tells_faulty F cubes files bytes fault e (kind_as old.reading (RefusedBy fault) bytes is h.read_as) (faulty_now F cubes h.stands.logs fault bytes written old.lines reads_refused) told

    pub leave_refused : (j : Join) → IsNext old j → EndsUnused old.lines j.lines → HasReadFiles F cubes files [] written j
    leave_refused j n leaves = next_of F cubes files files bytes written old j n h (given_up F cubes files h.stands.logs reads_refused.log written old.lines j.lines h.stands.closing reads_refused.within leaves)

  -- an answer was read
  module _ (reader : Progress) (is : old.reading ≡ Answer reader) where
    reads_answer : HasReadAnswer F cubes h.stands.logs reader bytes old.begun written old.lines
    reads_answer = read_as old.reading (Answer reader) F cubes h.stands.logs bytes old.begun written old.lines is h.stands.read

    pub end_answer : (j : Join) → IsNext old j → j.lines ≡ old.lines → HasReadFiles F cubes (files ++ bytes ∷ []) [] written j
    end_answer j n same = next_of F cubes files (files ++ bytes ∷ []) bytes written old j n h
        (subst (AreEnded F cubes (files ++ bytes ∷ []) written) (sym same)
        (answer_ends F cubes files h.stands.logs reader bytes old.begun written old.lines h.stands.closing (kind_as old.reading (Answer reader) bytes is h.read_as) reads_answer))

    pub tell_answer : (e : FileOutcome) → ((text : List ℕ) → HasRead reader text → IsAnswerOutcome old.formula (answer_of text) e) → IsFileOutcome F cubes files bytes e
    tell_answer e told = tells_answer F cubes files bytes e (kind_as old.reading (Answer reader) bytes is h.read_as)
        (subst (λ (G : Cnf). IsAnswerOutcome G (answer_of bytes) e) h.stands.formula (told bytes reads_answer.read))

    pub leave_answer : (j : Join) → IsNext old j → j.lines ≡ old.lines → HasReadFiles F cubes files [] written j
    leave_answer j n same = next_of F cubes files files bytes written old j n h
        (subst (AreEnded F cubes files written) (sym same) (record { logs = h.stands.logs; closing = h.stands.closing; between = reads_answer.between }))

-- ---- the end of a join
reads_some : (r : FileState) (bytes : List ℕ) → r ≢ Begun → FitsFirstByte r bytes → bytes ≡ [] → ⊥
reads_some Begun bytes ne h none = ne refl
reads_some Log bytes ne h none = subst (HasFirstByte false) none h
reads_some (RefusedBy fault) bytes ne h none = subst (HasFirstByte false) none h
reads_some (Answer reader) bytes ne h none = subst (HasFirstByte true) none h

-- a file has not ended
pub concludes_within : (F : Cnf) (cubes : List Cube) (files : List (List ℕ)) (bytes written notes : List ℕ) (old new : Join) (r : Report) → old.reading ≢ Begun → HasReadFiles F cubes files bytes written old
    → ReportsMissing notes (leaves_of old.lines.joiner) r → Concludes F cubes files bytes written notes new r
concludes_within F cubes files bytes written notes old new r within h told =
    misses (λ both_so. reads_some old.reading bytes within h.read_as both_so.0) (reports_open F cubes files bytes written notes old r h told)

-- a leaf is open
pub concludes_open : (F : Cnf) (cubes : List Cube) (files : List (List ℕ)) (bytes written notes : List ℕ) (old new : Join) (r : Report) → list_all is_closed (leaves_of old.lines.joiner) ≡ false
    → HasReadFiles F cubes files bytes written old → ReportsMissing notes (leaves_of old.lines.joiner) r → Concludes F cubes files bytes written notes new r
concludes_open F cubes files bytes written notes old new r some h told =
    misses
    (λ both_so. true≢false (sym (closed_all_of F cubes files (leaves_of old.lines.joiner) (leaves_are F cubes files bytes written old h) both_so.1) ∙ some))
    (reports_open F cubes files bytes written notes old r h told)

-- every leaf is closed
pub concludes_proof : (F : Cnf) (cubes : List Cube) (files : List (List ℕ)) (bytes written notes : List ℕ) (old new : Join) (r : Report) → old.reading ≡ Begun → list_all is_closed (leaves_of old.lines.joiner) ≡ true
    → Appends old.lines.out.items new.lines.out.items (λ more. (G : Cnf) (qs : List Cube) (logs : List Handed) (before : List ℕ) → BetweenLogs G qs logs old.lines.joiner before
    → IsJoinTextOf G qs logs (before ++ more) × RefutesByRup G (before ++ more) × Accepts G (before ++ more))
    → r.status ≡ 20 → r.stdout.items ≡ notes ++ codes "s UNSATISFIABLE\n" → HasReadFiles F cubes files bytes written old → Concludes F cubes files bytes written notes new r
concludes_proof F cubes files bytes written notes old new r begun all put status text h =
    let n : HasReadNothing F cubes h.stands.logs bytes old.begun written old.lines = reads_nothing old F cubes files bytes written h begun in
    let p = put.2 F cubes h.stands.logs (written ++ old.lines.out.items) n.between.between in
    proves n.no_byte (all_closed F cubes files (leaves_of old.lines.joiner) (leaves_are F cubes files bytes written old h) all) (record {
      status = status;
      text = text;
      proof = appended (Proves F) written old.lines.out.items new.lines.out.items put.0 put.1 (p.1, p.2);
    })

-- what is given up, by its parts
pub keeps_by : (r s : Result (Unit {0}) LogJoinFault) (j k old : Join) → r ≡ s → j ≡ k
    → OnOk s ((F : Cnf) (cubes : List Cube) (files : List (List ℕ)) (bytes written : List ℕ) → HasReadFiles F cubes files bytes written old → HasReadFiles F cubes files [] written k)
    → OnOk r ((F : Cnf) (cubes : List Cube) (files : List (List ℕ)) (bytes written : List ℕ) → HasReadFiles F cubes files bytes written old → HasReadFiles F cubes files [] written j)
keeps_by r s j k old is same h =
    let Q : Join → Type 0 = λ x. (F : Cnf) (cubes : List Cube) (files : List (List ℕ)) (bytes written : List ℕ) → HasReadFiles F cubes files bytes written old → HasReadFiles F cubes files [] written x in
    subst (λ (x : Result (Unit {0}) LogJoinFault). OnOk x (Q j)) (sym is) (subst (λ (y : Join). OnOk s (Q y)) (sym same) h)
