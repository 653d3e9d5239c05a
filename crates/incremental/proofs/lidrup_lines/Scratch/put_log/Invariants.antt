use Rattle.std.proofs.Common.{◌≡◌, ◌≤◌, ℕ, List, length}
use Rattle.lrat_text.specs.Runs.{text_of}
use Rattle.lrat_text.specs.declared.step.Step.{Step}
use Rattle.incremental.specs.inner.LidrupLines.{ArePlain, HasPut}
use Rattle.incremental.proofs.lidrup_lines.Scratch.put_log.Given as goal

abbrev pub invariant-lines : goal.invariant-lines
invariant-lines l = (most top : ℕ) (steps : List Step) → most ≤ 199999999 → l.fn.log ≡ text_of top steps → ArePlain most top steps → HasPut most top steps l.fn.out.items l.out.items l.lines

abbrev pub decreases-lines : goal.decreases-lines
decreases-lines l = length l.lines
