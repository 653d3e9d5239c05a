use Rattle.std.proofs.Common.{take}
use Rattle.cube_split.proofs.PlaceLemmas.{IsBegun}
use Rattle.cube_split.proofs.places.append_clause.Given as goal

-- the literals so far have their places
abbrev pub invariant-loop-literal : goal.invariant-loop-literal
invariant-loop-literal l = IsBegun l.fn.places.items l.places.items l.latest l.fn.last l.last l.number (take l.literal-index l.clause)
