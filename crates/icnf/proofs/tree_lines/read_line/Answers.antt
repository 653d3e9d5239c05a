use Rattle.std.proofs.Common.{sym, subst}
use Rattle.std.proofs.lemmas.Bool.{MatchBool-at_true, MatchBool-at_false}
use Rattle.std.proofs.lemmas.Result.{err_from_is_err_and}
use Rattle.icnf.specs.inner.Lines.{IsKept, TakesRow}
use Rattle.icnf.proofs.KeptLemmas.{row_taken, row_refused, blank_taken, header_taken, header_refused}
use Rattle.icnf.proofs.tree_lines.read_line.Goals as goal

pub returns-then-is_blank : goal.returns-then-is_blank
returns-then-is_blank c = λ before e s is.
    subst (λ body. TakesRow c.args.limits c.args.formula.now before c.args.line.now c.args.number body s) (sym c.in-None.is)
    (blank_taken c.args.limits c.args.formula.now before c.args.number c.args.line.now e s (subst (IsKept c.args.formula.now s) c.in-None.is is) (MatchBool-at_true _ _ c.if-is_blank.true c.is_blank.ensures))

pub returns-in_ok-read_line-in-Some : goal.returns-in_ok-read_line-in-Some
returns-in_ok-read_line-in-Some c = λ before e s is.
    row_taken c.args.limits c.args.formula.now before c.args.number c.args.line.now e c.in-Some.rows c.read_line.new.self s (subst (IsKept c.args.formula.now s) c.in-Some.is is) c.in_ok-read_line-in-Some.ensures

pub returns-in_err-read_line-in-Some : goal.returns-in_err-read_line-in-Some
returns-in_err-read_line-in-Some c =
    let p = err_from_is_err_and c.from_residual.result c.from_residual.ensures.1 in
    rw (p.1, p.2) (λ before e s is.
    row_refused c.args.limits c.args.formula.now before c.args.number c.args.line.now e c.in-Some.rows s c.in_err-read_line-in-Some.field-0.0 (subst (IsKept c.args.formula.now s) c.in-Some.is is) c.in_err-read_line-in-Some.ensures)

pub returns-in_ok-read_header-in-None : goal.returns-in_ok-read_header-in-None
returns-in_ok-read_header-in-None c = λ before e s is.
    header_taken c.args.limits c.args.formula.now before c.args.number c.args.line.now e s c.in_ok-read_header-in-None.field-0 c.new.result (subst (IsKept c.args.formula.now s) c.in-None.is is) (MatchBool-at_false _ _ c.if-is_blank.false c.is_blank.ensures) c.in_ok-read_header-in-None.ensures c.new.ensures

pub returns-in_err-read_header-in-None : goal.returns-in_err-read_header-in-None
returns-in_err-read_header-in-None c =
    let p = err_from_is_err_and c.from_residual-in_err-read_header-in-None.result c.from_residual-in_err-read_header-in-None.ensures.1 in
    rw (p.1, p.2) (λ before e s is.
    header_refused c.args.limits c.args.formula.now before c.args.number c.args.line.now e s c.in_err-read_header-in-None.field-0.0 (subst (IsKept c.args.formula.now s) c.in-None.is is) (MatchBool-at_false _ _ c.if-is_blank.false c.is_blank.ensures) c.in_err-read_header-in-None.ensures)
