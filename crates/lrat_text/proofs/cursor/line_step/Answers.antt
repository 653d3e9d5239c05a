use Rattle.std.proofs.Common.{Ok, Err}
use Rattle.std.proofs.lemmas.Result.{err_from_is_err_and}
use Rattle.lrat_text.proofs.NextLemmas.{gives_next, next_open}
use Rattle.lrat_text.proofs.cursor.line_step.Goals as goal

pub returns-in_default : goal.returns-in_default
returns-in_default c = next_open c.args.bytes.now c.args.at c.if-at-bytes.false c.in_default.ensures

pub returns : goal.returns
returns c = gives_next c.args.bytes.now c.args.at c.in-Some.line.now c.in-Some.field-0-1.now (Ok c.in_ok-step.step) c.if-at-bytes.false c.in-Some.ensures c.in_ok-step.ensures.exact

pub returns-in_err-step : goal.returns-in_err-step
returns-in_err-step c =
    let p = err_from_is_err_and c.from_residual.result c.from_residual.ensures.1 in
    rw (p.1, p.2) (gives_next c.args.bytes.now c.args.at c.in-Some.line.now c.in-Some.field-0-1.now (Err c.in_err-step.field-0.0) c.if-at-bytes.false c.in-Some.ensures c.in_err-step.ensures.exact)
