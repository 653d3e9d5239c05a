use Rattle.std.proofs.Common.{◌≡◌, ◌+◌, drop}
use Rattle.std.specs.List.{position_from}
use Rattle.answers.specs.Pieces.{named_by}
use Rattle.answers.specs.Reports.{first_missed, is_missed}
use Rattle.answers.proofs.named_literals.Named.first_missed.Given as goal

-- the clauses from here on decide
abbrev pub invariant-loop-i : goal.invariant-loop-i
invariant-loop-i l = position_from (is_missed (named_by l.self)) (l.i + 1) (drop l.i l.formula.clauses) ≡ first_missed (named_by l.self) l.formula
