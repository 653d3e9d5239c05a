-- The layout of spans in one list of literals.
use Rattle.std.specs.Prelude.{ℕ, ◌+◌, ◌*◌, ◌≤◌, List, length, All}
use Rattle.dimacs.specs.logic.Literal.{Literal}
use Rattle.icnf.specs.declared.span.Span.{Span}

-- the span s has at most 64 literals, and lies within a list of len literals
pub record IsSpan (len : ℕ) (s : Span) : Type 0 where
  pub rise : s.from ≤ s.to
  pub inside : s.to ≤ len
  pub short : s.to ≤ s.from + 64

-- the invariant of the spans of cubes: each lies within the literals, there are at most 65,536, and at most 128 literals for each of them
pub record AreSpans (literals : List Literal) (spans : List Span) : Type 0 where
  pub inside : All (IsSpan (length literals)) spans
  pub count : length spans ≤ 65536
  pub room : length literals ≤ 128 * length spans
