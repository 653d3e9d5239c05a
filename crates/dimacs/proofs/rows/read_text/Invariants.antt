use Rattle.std.proofs.Common.{◌≡◌, ◌+◌, ◌<◌, ◌^◌}
use Rattle.dimacs.specs.text.Rows.{read_text}
use Rattle.dimacs.specs.text.Words.{lines}
use Rattle.dimacs.specs.inner.Words.{lines_left, left_len}
use Rattle.dimacs.proofs.rows.read_text.Given as goal

abbrev pub invariant-loop-rest : goal.invariant-loop-rest
invariant-loop-rest g l =
    (l.lines + left_len l.rest < 2 ^ 64) × (read_text g.R.Rows.format l.limits l.lines (lines_left l.rest) ≡ read_text g.R.Rows.format l.limits 0 (lines l.fn.bytes))

abbrev pub decreases-loop-rest : goal.decreases-loop-rest
decreases-loop-rest g l = left_len l.rest
