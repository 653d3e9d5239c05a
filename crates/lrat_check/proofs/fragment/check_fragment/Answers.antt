use Rattle.std.proofs.Common.{arith}
use Rattle.lrat_check.proofs.Fragments.{begun_gives, begun_closes, begun_complete}
use Rattle.lrat_check.proofs.fragment.check_fragment.Goals as goal

pub returns-clause-closes : goal.returns-clause-closes
returns-clause-closes c = begun_closes c.args.base.now c.args.cube.now c.in_ok-log.log c.args.fragment.now c.check_lines.result c.in_ok-log.ensures c.check_lines.ensures

pub returns-clause-complete : goal.returns-clause-complete
returns-clause-complete c = begun_complete c.args.base.now c.args.cube.now c.in_ok-log.log c.args.fragment.now c.check_lines.result (omega (arith, c.vars.ensures.valid.vars)) c.in_ok-log.ensures c.check_lines.ensures

pub returns-clause-exact : goal.returns-clause-exact
returns-clause-exact c = begun_gives c.args.base.now c.args.cube.now c.in_ok-log.log c.args.fragment.now c.check_lines.result c.in_ok-log.ensures c.check_lines.ensures
