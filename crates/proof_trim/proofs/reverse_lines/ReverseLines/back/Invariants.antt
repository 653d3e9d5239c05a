use Rattle.std.proofs.Common.{◌+◌, ◌<◌, ◌≤◌, length, IfSome}
use Rattle.proof_trim.proofs.reverse_lines.ReverseLines.back.Given as goal

abbrev pub invariant-loop-self : goal.invariant-loop-self
invariant-loop-self l = record {
  before : IfSome l.begin (λ b. b < l.self-inside.begin);
  inside : l.self-inside.begin ≤ l.self-inside.end;
  ended : l.self-inside.end ≤ length l.self-inside.block.items;
  few : l.self-inside.from + l.self-inside.begin ≤ l.fn.self;
}

abbrev pub decreases-loop-self : goal.decreases-loop-self
decreases-loop-self l = l.self-inside.from
