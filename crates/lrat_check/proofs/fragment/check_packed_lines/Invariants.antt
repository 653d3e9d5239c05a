use Rattle.std.proofs.Common.{◌≡◌, length}
use Rattle.lrat_check.specs.Fragments.{fragment_end}
use Rattle.lrat_check.specs.Logs.{text_from}
use Rattle.lrat_check.proofs.fragment.check_packed_lines.Given as goal

-- what is left gives what the text gives
abbrev pub invariant-loop-line : goal.invariant-loop-line
invariant-loop-line l = text_from (fragment_end l.cube) l.fn.log l.fn.fragment ≡ text_from (fragment_end l.cube) l.log l.left

abbrev pub decreases-loop-line : goal.decreases-loop-line
decreases-loop-line l = length l.left
