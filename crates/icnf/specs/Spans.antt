-- Cubes in one list of literals: each cube is a span of the list.
use Rattle.std.specs.Prelude.{List, map, slice_range}
use Rattle.dimacs.specs.logic.Literal.{Literal}
use Rattle.icnf.specs.declared.span.Span.{Span}
use Rattle.icnf.specs.Leaves.{Cube}

-- the literals of the span s
abbrev pub cube_in : List Literal → Span → Cube
cube_in literals s = slice_range literals s.from s.to

-- the literals of each span
abbrev pub cubes_in : List Literal → List Span → List Cube
cubes_in literals spans = map (cube_in literals) spans
