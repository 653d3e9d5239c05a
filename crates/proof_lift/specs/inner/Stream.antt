-- One piece of a proof's text: what it leads to, and what is appended.
use Rattle.std.specs.Prelude.{◌≡◌, ℕ, List, ◌++◌, Option, Some, None}
use Rattle.lrat_text.specs.Lines.{IsOpen}
use Rattle.lrat_check.specs.declared.line_checker.CheckFault.{CheckFault}
use Rattle.proof_lift.specs.LiftedText.{prepend}
use Rattle.proof_lift.specs.Stream.{LiftProgress, lift_more}
use Rattle.proof_lift.specs.inner.Ready.{IsReady}
use Rattle.proof_lift.specs.declared.line_lifter.LineLifter.{LineLifter}

-- the piece leads from the old state to the new one, and these bytes are written: whatever follows, the result is the same
abbrev pub LeadsTo : LiftProgress → List ℕ → List ℕ → LiftProgress → Type 0
LeadsTo old piece appended new = (more : List ℕ) → lift_more old (piece ++ more) ≡ prepend appended (lift_more new more)

-- bytes of which P holds are appended to the old ones
pub record Appends (old new : List ℕ) (P : List ℕ → Type 0) : Type 0 where
  pub appended : List ℕ
  pub out : new ≡ old ++ appended
  pub holds : P appended

-- unless a fault is kept, the lifter is ready for the next line, and the unfinished line has no LF
abbrev pub ReadyUnlessFaulty : Option CheckFault → LineLifter → List ℕ → Type 0
ReadyUnlessFaulty None lines begun = IsReady lines.line lines.lifting × IsOpen begun
ReadyUnlessFaulty (Some fault) lines begun = Unit {0}
