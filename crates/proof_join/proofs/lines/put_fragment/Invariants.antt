use Rattle.std.proofs.Common.{◌≡◌, ◌+◌, ◌-◌, ◌≤◌, ◌<◌, ◌^◌, ◌++◌, map, length}
use Rattle.lrat_text.specs.Grammar.{LineSpellsWithin}
use Rattle.lrat_text.specs.Runs.{text_of, top_of}
use Rattle.proof_join.specs.RenumberedSteps.{behind, renumbered}
use Rattle.proof_join.specs.Steps.{steps_in}
use Rattle.proof_join.specs.inner.Steps.{AreLow, last_of}
use Rattle.proof_join.proofs.StepLemmas.{LastIs}
use Rattle.proof_join.proofs.lines.put_fragment.Given as goal

abbrev pub invariant-loop-last : goal.invariant-loop-last
invariant-loop-last l = record {
  text : l.out ++ text_of l.top (map (renumbered (behind l.shift.base l.shift.begun)) (steps_in l.lines))
      ≡ l.fn.out ++ text_of l.shift.begun (map (renumbered (behind l.shift.base l.shift.begun)) (steps_in l.fn.fragment));
  last : LastIs l.some l.last.items l.scratch.buffer l.fn.scratch.buffer (last_of l.fn.scratch.buffer (steps_in l.fn.fragment)) (steps_in l.lines);
  top : top_of l.top (map (renumbered (behind l.shift.base l.shift.begun)) (steps_in l.lines)) ≡ top_of l.shift.begun (map (renumbered (behind l.shift.base l.shift.begun)) (steps_in l.fn.fragment));
  spelled : LineSpellsWithin 199999999 l.lines (steps_in l.lines);
  low : AreLow (l.shift.base + (l.top - l.shift.begun)) (steps_in l.lines);
  begun : l.shift.begun ≤ l.top;
  few : l.top ≤ l.shift.base + length l.out;
  short : length l.out < 2 ^ 32;
}

abbrev pub decreases-loop-last : goal.decreases-loop-last
decreases-loop-last l = length l.lines
