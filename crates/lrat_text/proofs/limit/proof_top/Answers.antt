use Rattle.std.proofs.Common.{◌≡◌, ◌*◌, max, arith}
use Rattle.lrat_text.proofs.limit.proof_top.Goals as goal

pub returns-clause-value : goal.returns-clause-value
returns-clause-value c =
    let is : c.max.result ≡ max 2000000 (2 * c.args.formula.now.vars) = omega (arith, c.max.ensures, c.vars.ensures.value) in
    is

pub returns-clause-limit : goal.returns-clause-limit
returns-clause-limit c = omega (arith, c.max.ensures, c.vars.ensures.limit)
