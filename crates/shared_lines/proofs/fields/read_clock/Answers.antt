use Rattle.std.proofs.Common.{arith}
use Rattle.shared_lines.proofs.FieldLemmas.{no_clock_late, no_clock_number}
use Rattle.shared_lines.proofs.fields.read_clock.Goals as goal

pub returns-in_default-number_of : goal.returns-in_default-number_of
returns-in_default-number_of c =
    no_clock_number c.args.line.now c.in-Some.fields.now c.in-Some-before_suffix.word.now c.in-Some.ensures c.in-Some-before_suffix.ensures c.in_default-number_of.ensures

pub returns-else-time-le-LAST_TIME : goal.returns-else-time-le-LAST_TIME
returns-else-time-le-LAST_TIME c =
    no_clock_late c.args.line.now c.in-Some.fields.now c.in-Some-before_suffix.word.now c.in-Some-number_of.time c.in-Some.ensures c.in-Some-before_suffix.ensures c.in-Some-number_of.ensures.0
    c.in-Some-number_of.ensures.1 (λ h. omega (arith, h, c.if-time-le-LAST_TIME.false))
