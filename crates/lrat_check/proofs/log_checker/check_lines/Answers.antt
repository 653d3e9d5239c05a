use Rattle.std.proofs.lemmas.Result.{err_from_is_err_and}
use Rattle.lrat_check.specs.Logs.{log_end}
use Rattle.lrat_check.proofs.LogTexts.{passed_end, passed_stop}
use Rattle.lrat_check.proofs.log_checker.check_lines.Goals as goal

pub returns : goal.returns
returns c = passed_end log_end c.args.log.now c.args.text.now c.take_lines.new.taker c.in_ok-rest.rest.now c.end.result c.in_ok-rest.ensures.2 c.in_ok-rest.ensures.1 c.end.ensures

pub returns-in_err-rest : goal.returns-in_err-rest
returns-in_err-rest c =
    let p = err_from_is_err_and c.from_residual.result c.from_residual.ensures.1 in
    rw (p.1, p.2) (passed_stop log_end c.args.log.now c.args.text.now c.take_lines.new.taker c.in_err-rest.field-0.0 c.in_err-rest.ensures)
