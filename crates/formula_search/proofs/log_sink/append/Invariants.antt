use Rattle.std.proofs.Common.{◌≡◌, ◌-◌, ◌≤◌, ◌++◌, length, take}
use Rattle.formula_search.proofs.log_sink.append.Given as goal

abbrev pub invariant-pieces : goal.invariant-pieces
invariant-pieces l = record {
  inside : l.from ≤ length l.more;
  text : l.text ≡ l.fn.text ++ take l.from l.more;
}

abbrev pub decreases-pieces : goal.decreases-pieces
decreases-pieces l = length l.more - l.from
