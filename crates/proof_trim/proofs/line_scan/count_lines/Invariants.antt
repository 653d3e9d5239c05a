use Rattle.std.proofs.Common.{◌≡◌, ◌+◌, ◌-◌, ◌==◌, ◌≤◌, length, drop}
use Rattle.std.specs.List.{count_by}
use Rattle.proof_trim.proofs.line_scan.count_lines.Given as goal

-- the LFs so far and those that are left are the text's
abbrev pub invariant-loop-from : goal.invariant-loop-from
invariant-loop-from l = record {
  all : l.lines + count_by (λ b. b == 10) (drop l.from l.text) ≡ count_by (λ b. b == 10) l.text;
  inside : l.from ≤ length l.text;
}

abbrev pub decreases-loop-from : goal.decreases-loop-from
decreases-loop-from l = length l.text - l.from
