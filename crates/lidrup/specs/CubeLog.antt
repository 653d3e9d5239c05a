-- The log of many cubes, and the bytes of it that are handed out.
use Rattle.std.specs.Prelude.{◌≡◌, ◌⊎◌, ℕ, ◌<◌, List, [], ◌++◌, Option, Some, None, Result, Ok, Err, length}
use Rattle.std.specs.FinMap.{get}
use Rattle.dimacs.specs.logic.ClauseMap.{map_of}
use Rattle.dimacs.specs.logic.Cnf.{Cnf}
use Rattle.dimacs.specs.logic.Literal.{Clause}
use Rattle.lrat_check.specs.ProofFaults.{no_memory}
use Rattle.lrat_check.specs.Logs.{IsBegun, LogState, SpellsLog, TakesLogLine}
use Rattle.lrat_check.specs.declared.line_checker.CheckFault.{CheckFault}
use Rattle.lrat_text.specs.Grammar.{LineSpellsWithin}
use Rattle.lrat_text.specs.Log.{Cube, IsLog, log_top}
use Rattle.lrat_text.specs.Runs.{after_steps}
use Rattle.lrat_text.specs.LineSink.{HandsOn}
use Rattle.lrat_text.specs.declared.step.Step.{Step}
use Rattle.lidrup.specs.Lidrup.{IsClosing, Negates, LidrupState, LidrupResult, prepend, closing_of, lidrup_of, lidrup_text}
use Rattle.lidrup.specs.View.{state_of}
use Rattle.lidrup.specs.declared.cube_log.CubeLog.{CubeLog}

-- ---- what has been taken
-- the text is a log over the formula, whose lines led to this state
pub record LeadsTo (F : Cnf) (text : List ℕ) (s : LogState) : Type 0 where
  pub start : LogState
  pub begun : IsBegun F start
  pub hands : HandsOn TakesLogLine start text s []

-- the kept fault, if there is one; else this result
abbrev pub by_kept : Option CheckFault → LidrupResult → LidrupResult
by_kept None rest = rest
by_kept (Some fault) rest = Err fault

-- the rest of the log if exactly these bytes follow
abbrev pub text_after : CubeLog → List ℕ → LidrupResult
text_after x more = by_kept x.fault (lidrup_text x.lines.known.log.checker.most x.lines.known.log.checker.base (state_of x.lines.known) x.lines.line (x.begun ++ more))

-- These bytes of a text were taken, and `handed` was handed out. The log so far is `handed` and the bytes not handed out yet: whatever
-- follows, the log of the whole text begins with them, or memory was refused. Unless a line was refused, they are a log over the formula.
pub record HasLogged (F : Cnf) (bytes handed : List ℕ) (x : CubeLog) : Type 0 where
  pub taken : (x.fault ≡ Some no_memory) ⊎ ((more : List ℕ) → lidrup_of F (bytes ++ more) ≡ prepend (handed ++ x.lines.out.items) (text_after x more))
  pub log : x.fault ≡ None → LeadsTo F (handed ++ x.lines.out.items) x.lines.known.log.checker

-- the piece is taken: whatever bytes of a text were taken before, now these bytes and the piece are
abbrev pub KeepsLog : List ℕ → CubeLog → CubeLog → Type 0
KeepsLog piece old new = (F : Cnf) (bytes handed : List ℕ) → HasLogged F bytes handed old → HasLogged F (bytes ++ piece) handed new

-- ---- the end
-- the text becomes this log, which is one over the formula, and this is the state after it
pub record ComesTo (F : Cnf) (bytes log : List ℕ) (s : LidrupState) : Type 0 where
  pub comes : lidrup_of F bytes ≡ Ok (log, s)
  pub is_log : SpellsLog F log

-- formula, bytes of the text, log, state, the answer if no further byte comes: the text becomes the
-- log that was written; or its first fault
abbrev pub EndsAs : Cnf → List ℕ → List ℕ → LidrupState → Result (Unit {0}) CheckFault → Type 0
EndsAs F bytes log s (Ok _) = ComesTo F bytes log s
EndsAs F bytes log s (Err fault) = (fault ≡ no_memory) ⊎ (lidrup_of F bytes ≡ Err fault)

-- no line was refused, and no line is unfinished
pub record IsEnded (x : CubeLog) : Type 0 where
  pub fine : x.fault ≡ None
  pub whole : x.begun ≡ []

-- ---- cubes
-- no line was refused, and the lemma that closes the cube of a query, counted from 0, closes this cube
pub record IsClosed (x : CubeLog) (query : ℕ) (q : Cube) : Type 0 where
  pub fine : x.fault ≡ None
  pub closing : IsClosing x.lines.known.log.checker.base x.lines.known.log.checker.live (closing_of (state_of x.lines.known) query) q

-- the text is a log over the formula, and at its end a lemma of its own is live that closes the cube
pub record ClosesCube (F : Cnf) (q : Cube) (text : List ℕ) : Type 0 where
  pub steps : List Step
  pub spells : LineSpellsWithin (log_top F) text steps
  pub is_log : IsLog F steps
  pub id : ℕ
  pub clause : Clause
  pub own : length F.clauses < id
  pub lives : get (after_steps (map_of F) steps) id ≡ Some clause
  pub negates : Negates q clause
