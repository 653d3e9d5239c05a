use Rattle.std.proofs.Common.{◌∙◌, ap, arith}
use Rattle.lrat_check.specs.Logs.{begun}
use Rattle.lrat_check.proofs.LogTexts.{begun_gives, begun_spells, begun_complete}
use Rattle.lrat_check.proofs.log_checker.check_log.Goals as goal

pub returns-clause-log : goal.returns-clause-log
returns-clause-log c = begun_spells c.args.formula.now c.in_ok-log.log c.args.text.now c.check_lines.result (c.in_ok-log.ensures ∙ ap begun c.as_base.ensures) c.check_lines.ensures

pub returns-clause-complete : goal.returns-clause-complete
returns-clause-complete c = begun_complete c.args.formula.now c.in_ok-log.log c.args.text.now c.check_lines.result (omega (arith, c.vars.ensures.valid.vars)) (c.in_ok-log.ensures ∙ ap begun c.as_base.ensures) c.check_lines.ensures

pub returns-clause-exact : goal.returns-clause-exact
returns-clause-exact c = begun_gives c.args.formula.now c.in_ok-log.log c.args.text.now c.check_lines.result (c.in_ok-log.ensures ∙ ap begun c.as_base.ensures) c.check_lines.ensures
