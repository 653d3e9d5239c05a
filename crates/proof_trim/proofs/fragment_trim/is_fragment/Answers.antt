use Rattle.std.proofs.Common.{subst, arith}
use Rattle.std.specs.Result.{OnOk}
use Rattle.lrat_text.specs.Log.{Closes, log_top}
use Rattle.proof_trim.proofs.LineLemmas.{additions_few, steps_few}
use Rattle.proof_trim.proofs.fragment_trim.is_fragment.Goals as goal

pub returns-in-Ok : goal.returns-in-Ok
returns-in-Ok c =
    let closes : Closes c.args.base.now c.args.cube.now c.args.text.now = subst (λ r. OnOk r (Closes c.args.base.now c.args.cube.now c.args.text.now)) c.in-Ok.is c.check_packed_fragment.ensures.closes in
    let lines = steps_few (log_top c.args.base.now) c.args.text.now closes.0 closes.1 in
    let all = c.in_ok-lines.ensures in
    let adds = additions_few closes.0 in
    (closes, record { steps = closes.0; spells = closes.1; count = omega arith })
