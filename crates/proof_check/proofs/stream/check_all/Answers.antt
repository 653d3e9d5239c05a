use Rattle.std.proofs.Common.{[], sym}
use Rattle.std.proofs.lemmas.List.{append-nil}
use Rattle.std.proofs.lemmas.Result.{err_from_is_err_and}
use Rattle.proof_check.proofs.StreamLemmas.{finished, stopped}
use Rattle.proof_check.proofs.stream.check_all.Goals as goal

pub returns : goal.returns
returns c =
    finished c.args.formula.now c.feed.new.self c.args.proof.now c.finish.result (c.feed.ensures.history c.args.formula.now [] c.in-Ok.ensures) c.finish.ensures

pub returns-in_err-feed : goal.returns-in_err-feed
returns-in_err-feed c =
    let p = err_from_is_err_and c.from_residual.result c.from_residual.ensures.1 in
    rw (p.1, p.2) (stopped c.args.formula.now c.feed.new.self c.args.proof.now [] c.args.proof.now c.in_err-feed.field-0.0 (sym (append-nil c.args.proof.now))
    (c.feed.ensures.history c.args.formula.now [] c.in-Ok.ensures) c.in_err-feed.ensures.answers)
