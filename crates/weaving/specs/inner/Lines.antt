-- One line more of the text.
use Rattle.std.specs.Prelude.{◌≡◌, ℕ, List, [], ◌∷◌, ◌++◌}
use Rattle.lrat_check.specs.Logs.{LogState, TakesLogLine}
use Rattle.lrat_text.specs.Grammar.{lf}
use Rattle.lrat_text.specs.Lines.{IsOpen}

-- the checker took a line, which was appended with its LF
pub record AppendsLine (old new : LogState) (before after : List ℕ) : Type 0 where
  pub line : List ℕ
  pub bare : IsOpen line
  pub takes : TakesLogLine old line new
  pub out : after ≡ before ++ line ++ lf ∷ []
