use Rattle.std.proofs.Common.{◌∙◌, sym, ap, subst, ◌++◌, ◌+◌, take, drop}
use Rattle.std.proofs.lemmas.List.{take_all}
use Rattle.std.proofs.lemmas.Result.{err_from_is_err_and}
use Rattle.lrat_text.specs.Pieces.{HasTaken, joined}
use Rattle.lrat_text.proofs.PieceLemmas.{stopped_at, joined_split, ended, stops_before, ends_otherwise}
use Rattle.lrat_text.proofs.step_reader.read_pieces.Goals as goal

pub returns-in_err-feed-clause-steps : goal.returns-in_err-feed-clause-steps
returns-in_err-feed-clause-steps c =
    let i = c.loop-piece.piece-index in
    let ps = c.args.pieces.now in
    let p = c.piece-item.result in
    let inv = c.loop-piece.invariant in
    let whole = joined_split ps i p c.loop-piece-test.true c.piece-item.is ∙ ap (λ b. (joined (take i ps) ++ b) ++ joined (drop (i + 1) ps)) (sym c.deref.ensures.value) in
    let s = stopped_at c.in_err-feed.field-0.0 c.loop-piece.reader c.feed.new.self (joined (take i ps)) c.deref.result.now (joined (drop (i + 1) ps)) (joined ps) c.args.steps.now.items c.loop-piece.steps.items c.feed.new.steps.items inv.new
    inv.steps inv.taken whole c.in_err-feed.ensures.taken c.in_err-feed.ensures.no_memory in
    let p = err_from_is_err_and c.from_residual.result c.from_residual.ensures.1 in
    (s.new, s.steps, rw (p.1, p.2) s.tells)

pub returns-clause-steps : goal.returns-clause-steps
returns-clause-steps c =
    let i = c.loop-piece.piece-index in
    let ps = c.args.pieces.now in
    let inv = c.loop-piece.invariant in (
      inv.new,
      inv.steps,
      ended c.loop-piece.reader (joined ps) inv.new c.finish.result
          (subst (λ b. HasTaken c.loop-piece.reader b inv.new) (ap joined (take_all i ps c.loop-piece-test.false)) inv.taken) c.finish.ensures,
    )

pub returns-in_err-feed-clause-memory : goal.returns-in_err-feed-clause-memory
returns-in_err-feed-clause-memory c none =
    let p = err_from_is_err_and c.from_residual.result c.from_residual.ensures.1 in
    let kept = c.in_err-feed.ensures.no_memory cc in
    stops_before c.args.pieces.now c.loop-piece.piece-index c.loop-piece.reader c.args.steps.now.items c.loop-piece.steps.items c.feed.new.steps.items c.loop-piece.invariant.new
    c.loop-piece-test.true c.loop-piece.invariant.steps kept.1 c.loop-piece.invariant.well c.loop-piece.invariant.taken

pub returns-clause-memory : goal.returns-clause-memory
returns-clause-memory c none = absurd (ends_otherwise c.loop-piece.reader c.loop-piece.invariant.well (sym c.finish.ensures ∙ none))
