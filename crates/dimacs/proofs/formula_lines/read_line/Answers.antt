use Rattle.std.proofs.Common.{Some, sym, subst}
use Rattle.std.proofs.lemmas.Bool.{MatchBool-at_true, MatchBool-at_false}
use Rattle.dimacs.specs.inner.Pieces.{TakesLine, RefusesLine}
use Rattle.dimacs.proofs.PieceLemmas.{row_taken, row_refused, blank_taken, header_taken, header_refused}
use Rattle.dimacs.proofs.formula_lines.read_line.Goals as goal

pub returns-then-is_blank : goal.returns-then-is_blank
returns-then-is_blank c = λ before e.
    subst (λ body. TakesLine (record { limits = c.args.limits; count = before; body = body }) c.args.line.now (record { limits = c.args.limits; count = c.args.number; body = body })) (sym c.in-None.is)
    (blank_taken c.args.limits before c.args.number c.args.line.now e (MatchBool-at_true _ _ c.if-is_blank.true c.is_blank.ensures))

pub returns-in-Ok : goal.returns-in-Ok
returns-in-Ok c = λ before e.
    subst (λ body. TakesLine (record { limits = c.args.limits; count = before; body = body }) c.args.line.now (record { limits = c.args.limits; count = c.args.number; body = Some c.read_line.new.self })) (sym c.in-Some.is)
    (row_taken c.args.limits before c.args.number c.in-Some.rows c.read_line.new.self c.args.line.now e c.in-Ok.ensures)

pub returns-in-Err : goal.returns-in-Err
returns-in-Err c = λ before e.
    subst (λ body. RefusesLine (record { limits = c.args.limits; count = before; body = body }) c.args.line.now c.in-Err.found) (sym c.in-Some.is)
    (row_refused c.args.limits before c.args.number c.in-Some.rows c.args.line.now c.in-Err.found e c.in-Err.ensures)

pub returns-in-Ok-begin : goal.returns-in-Ok-begin
returns-in-Ok-begin c = λ before e.
    subst (λ body. TakesLine (record { limits = c.args.limits; count = before; body = body }) c.args.line.now (record { limits = c.args.limits; count = c.args.number; body = Some c.in-Ok-begin.rows })) (sym c.in-None.is)
    (header_taken c.args.limits before c.args.number c.in-Ok-begin.rows c.args.line.now e (MatchBool-at_false _ _ c.if-is_blank.false c.is_blank.ensures) c.in-Ok-begin.ensures)

pub returns-in-Err-begin : goal.returns-in-Err-begin
returns-in-Err-begin c = λ before e.
    subst (λ body. RefusesLine (record { limits = c.args.limits; count = before; body = body }) c.args.line.now c.in-Err-begin.found) (sym c.in-None.is)
    (header_refused c.args.limits before c.args.number c.args.line.now c.in-Err-begin.found e (MatchBool-at_false _ _ c.if-is_blank.false c.is_blank.ensures) c.in-Err-begin.ensures)
