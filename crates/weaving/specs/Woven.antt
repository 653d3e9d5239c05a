-- The text that is woven, as far as it has come.
use Rattle.std.specs.Prelude.{ℕ, List, ◌++◌}
use Rattle.dimacs.specs.logic.Cnf.{Cnf}
use Rattle.lidrup.specs.CubeLog.{LeadsTo}
use Rattle.lrat_text.specs.Log.{Closes, Cube}
use Rattle.weaving.specs.declared.checked_text.CheckedText.{CheckedText}

-- `handed` was handed out, and the rest of the text was not yet: both are a log over the formula, whose lines led the checker to its state
pub record HasWoven (F : Cnf) (handed : List ℕ) (t : CheckedText) : Type 0 where
  pub leads : LeadsTo F (handed ++ t.out.items) t.checker

-- whatever was handed out of the text before, the text is one of the formula still
abbrev pub KeepsWoven : CheckedText → CheckedText → Type 0
KeepsWoven old new = (F : Cnf) (handed : List ℕ) → HasWoven F handed old → HasWoven F handed new

-- whatever was handed out of the text before, the whole text is now a log over the formula that closes the cube
abbrev pub ClosesAs : Cube → CheckedText → CheckedText → Type 0
ClosesAs q old new = (F : Cnf) (handed : List ℕ) → HasWoven F handed old → Closes F q (handed ++ new.out.items)
