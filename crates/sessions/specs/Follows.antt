-- The bytes of a session's proof that its side has taken.
use Rattle.std.specs.Prelude.{◌≡◌, ◌⊎◌, ℕ, false, List, ◌++◌}
use Rattle.dimacs.specs.logic.Limits.{Limits}
use Rattle.dimacs.specs.text.Words.{lines}
use Rattle.lrat_text.specs.Lines.{IsOpen}
use Rattle.sessions.specs.Answers.{Event, Answer, tally}
use Rattle.sessions.specs.Texts.{behind, session_within}
use Rattle.sessions.specs.Sides.{Ends, IsBroken, IsHigh, IsResting, later}
use Rattle.sessions.specs.declared.proof_side.ProofSide.{ProofSide}

-- limits, events heard, bytes of the proof taken, the proof's side: whatever events and bytes follow, the proof has the answers `told`, and
-- then those that the proof's side still gives (`later`)
pub record Right (L : Limits) (E : List Event) (p : List ℕ) (x : ProofSide) : Type 0 where
  pub told : List Answer
  pub counts : x.lines.known.tally ≡ tally told
  pub high : IsHigh x.phase x.lines.known
  pub bare : IsOpen x.begun.items
  pub live : (x.no_byte ≡ false) ⊎ IsResting x.phase
  pub is : (D : List Event) (more : List ℕ) → Ends x.no_event D → Ends x.no_byte more → session_within L (E ++ D) (p ++ more) ≡ behind told (later x D (lines (x.begun.items ++ more)))

-- limits, events heard, bytes of the proof taken, the proof's side: it is right of them (`Right`), or memory was refused
abbrev pub Follows : Limits → List Event → List ℕ → ProofSide → Type 0
Follows L E p x = IsBroken x ⊎ Right L E p x
