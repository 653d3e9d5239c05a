use Rattle.std.proofs.Common.{◌≡◌, ◌+◌, ◌<◌, ◌^◌}
use Rattle.dimacs.specs.text.Rows.{read_lines}
use Rattle.dimacs.specs.inner.Words.{lines_left, left_len}
use Rattle.dimacs.proofs.rows.read_lines.Given as goal

abbrev pub invariant-loop-rest : goal.invariant-loop-rest
invariant-loop-rest g l =
    (l.lines + left_len l.rest < 2 ^ 64) × (read_lines g.R.Rows.format l.lines (lines_left l.rest) l.rows ≡ read_lines g.R.Rows.format l.fn.lines (lines_left l.fn.rest) l.fn.rows)

abbrev pub decreases-loop-rest : goal.decreases-loop-rest
decreases-loop-rest g l = left_len l.rest
