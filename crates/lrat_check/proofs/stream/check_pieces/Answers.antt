use Rattle.std.proofs.Common.{◌∙◌, sym, ap, subst, ◌++◌, ◌+◌, take, drop}
use Rattle.std.proofs.lemmas.List.{take_all}
use Rattle.std.proofs.lemmas.Result.{err_from_is_err_and}
use Rattle.lrat_text.specs.Pieces.{joined}
use Rattle.lrat_text.proofs.PieceLemmas.{joined_more, joined_split}
use Rattle.lrat_check.specs.Stream.{HasTaken}
use Rattle.lrat_check.proofs.Streams.{finished, stopped}
use Rattle.lrat_check.proofs.stream.check_pieces.Goals as goal

pub returns-in_err-feed : goal.returns-in_err-feed
returns-in_err-feed c =
    let i = c.loop-piece.piece-index in
    let ps = c.args.pieces.now in
    let p = c.piece-item.result in
    let done = joined (take i ps) in
    let whole = joined_split ps i p c.loop-piece-test.true c.piece-item.is ∙ ap (λ b. (done ++ b) ++ joined (drop (i + 1) ps)) (sym c.deref.ensures.value) in
    let p = err_from_is_err_and c.from_residual.result c.from_residual.ensures.1 in
    rw (p.1, p.2) (stopped c.args.formula.now c.feed.new.self (done ++ c.deref.result.now) (joined (drop (i + 1) ps)) (joined ps) c.in_err-feed.field-0.0 whole
    (c.feed.ensures.taken.history c.args.formula.now done c.loop-piece.invariant) c.in_err-feed.ensures.taken.answers)

pub loop-piece-preserved : goal.loop-piece-preserved
loop-piece-preserved c =
    let i = c.loop-piece.piece-index in
    let ps = c.args.pieces.now in
    let p = c.piece-item.result in
    let done = joined (take i ps) in
    subst (HasTaken c.args.formula.now c.feed.new.self) (ap (λ b. done ++ b) c.deref.ensures.value ∙ sym (joined_more ps i p c.loop-piece-test.true c.piece-item.is))
    (c.feed.ensures.taken.history c.args.formula.now done c.loop-piece.invariant)

pub returns : goal.returns
returns c =
    let i = c.loop-piece.piece-index in
    let ps = c.args.pieces.now in
    finished c.args.formula.now c.loop-piece.stream (joined ps) c.finish.result
    (subst (HasTaken c.args.formula.now c.loop-piece.stream) (ap joined (take_all i ps c.loop-piece-test.false)) c.loop-piece.invariant) c.finish.ensures
