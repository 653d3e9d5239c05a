use Rattle.std.proofs.Common.{◌≡◌, ◌≤◌, ◌-◌, ◌++◌, length, drop}
use Rattle.lrat_text.specs.Lines.{IsOpen}
use Rattle.packed_text.proofs.lines.PackedLines.next.Given as goal

abbrev pub invariant-loop-self : goal.invariant-loop-self
invariant-loop-self l = record {
  text : l.line.items ++ (drop l.self-inside.at l.self-inside.block.items ++ drop l.self-inside.from l.self-inside.text.now) ≡ l.fn.self;
  bare : IsOpen l.line.items;
  inside : l.self-inside.at ≤ length l.self-inside.block.items;
}

abbrev pub decreases-loop-self : goal.decreases-loop-self
decreases-loop-self l = length l.self-inside.text.now - l.self-inside.from
