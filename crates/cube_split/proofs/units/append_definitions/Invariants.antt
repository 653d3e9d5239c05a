use Rattle.std.proofs.Common.{◌≡◌, ◌+◌, ◌++◌, length, take}
use Rattle.cube_split.specs.Definitions.{all_clauses}
use Rattle.cube_split.proofs.units.append_definitions.Given as goal

-- the clauses of the pairs so far
abbrev pub invariant-loop-pair : goal.invariant-loop-pair
invariant-loop-pair l = record {
  variable : l.variable ≡ l.fn.front.vars + l.pair-index;
  base : l.base ≡ record { vars = l.fn.front.vars + length l.pairs; clauses = l.fn.front.clauses ++ all_clauses (l.fn.front.vars + 1) (take l.pair-index l.pairs) };
}
