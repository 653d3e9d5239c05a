use Rattle.std.proofs.lemmas.Result.{err_from_is_err_and}
use Rattle.proof_join.proofs.RaisingLemmas.{hints_over, groups_over}
use Rattle.proof_join.proofs.renumbered_proof.put_raised.Goals as goal

pub returns-in_err-numbers-in-Add : goal.returns-in_err-numbers-in-Add
returns-in_err-numbers-in-Add c =
    let p = err_from_is_err_and c.from_residual.result c.from_residual.ensures.1 in
    rw (p.1, p.2) (λ high is.
    rw c.in-Add.is (hints_over c.args.raise.above c.args.raise.by high c.args.rewriter.now.out.items c.in_err-numbers-in-Add.field-0.0 c.in-Add.id c.in-Add.lits.now c.in-Add.hints.now c.in-Add.groups.now c.in_err-numbers-in-Add.ensures))

pub returns-in_err-groups-in-Add : goal.returns-in_err-groups-in-Add
returns-in_err-groups-in-Add c =
    let p = err_from_is_err_and c.from_residual-in_err-groups-in-Add.result c.from_residual-in_err-groups-in-Add.ensures.1 in
    rw (p.1, p.2) (λ high is.
    rw c.in-Add.is (groups_over c.args.raise.above c.args.raise.by high c.args.rewriter.now.out.items c.in_err-groups-in-Add.field-0.0 c.in-Add.id c.in-Add.lits.now c.in-Add.hints.now c.in-Add.groups.now c.in_err-groups-in-Add.ensures))
