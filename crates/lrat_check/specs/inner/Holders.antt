-- The counts of the live clauses that hold each literal.
use Rattle.std.specs.Bool.{OnTrue}
use Rattle.dimacs.specs.logic.ClauseMap.{ClauseMap}
use Rattle.lrat_check.specs.inner.LiteralTable.{IsCounted}
use Rattle.lrat_check.specs.declared.holders.Holders.{Holders}

-- if counts are kept, they are those of the live clauses M
abbrev pub AreCounted : ClauseMap → Holders → Type 0
AreCounted M h = OnTrue h.counting (IsCounted M h.counts.items)
