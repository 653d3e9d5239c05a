use Rattle.std.proofs.Common.{◌≡◌, ◌++◌, take}
use Rattle.dimacs.specs.layout.Flat.{parts, Fills}
use Rattle.dimacs.proofs.flat.push_clauses.Given as goal

-- the clauses so far
abbrev pub invariant-loop-i : goal.invariant-loop-i
invariant-loop-i l = record {
  fills : Fills l.literals.items l.places.items;
  clauses : parts l.literals.items l.places.items ≡ parts l.fn.literals.items l.fn.places.items ++ take l.i (parts l.more l.ends);
}
