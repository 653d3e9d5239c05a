use Rattle.std.proofs.Common.{rules, ◌∙◌, [], append_assoc, refl, sym, subst, ap, ◌++◌, ◌+◌, take, drop}
use Rattle.std.proofs.lemmas.List.{append-nil, take_all}
use Rattle.std.proofs.lemmas.Result.{err_from_is_err_and}
use Rattle.frames.specs.Stream.{HasTaken, Progress, answer_in, joined}
use Rattle.frames.proofs.ReaderLemmas.{joined_more, joined_split, open_stream, stops, stops_at_once, stops_before, well_answered}
use Rattle.frames.proofs.Streams.{splits_none}
use Rattle.frames.proofs.reader.read_pieces.Goals as goal

pub returns-in_err-feed-clause-stream : goal.returns-in_err-feed-clause-stream
returns-in_err-feed-clause-stream c =
    let i = c.loop-piece.piece-index in
    let ps = c.args.pieces.now in
    let p = c.piece-item.result in
    let whole = joined_split ps i p c.loop-piece-test.true c.piece-item.is ∙ ap (λ b. (joined (take i ps) ++ b) ++ joined (drop (i + 1) ps)) (sym c.deref.ensures.value) in
    let s = stops c.in_err-feed.field-0.0 c.loop-piece.reader c.feed.new.self (joined (take i ps)) c.deref.result.now (joined (drop (i + 1) ps)) (joined ps) c.args.frames.now.items c.loop-piece.frames.items c.feed.new.frames.items c.loop-piece.invariant.new
    c.loop-piece.invariant.frames c.loop-piece.invariant.taken whole c.in_err-feed.ensures.taken c.in_err-feed.ensures.no_memory in
    let p = err_from_is_err_and c.from_residual-in_err-feed.result c.from_residual-in_err-feed.ensures.1 in
    (s.new, s.frames, rw (p.1, p.2) s.stream)

pub returns-in_err-feed-clause-memory : goal.returns-in_err-feed-clause-memory
returns-in_err-feed-clause-memory c none =
    let p = err_from_is_err_and c.from_residual-in_err-feed.result c.from_residual-in_err-feed.ensures.1 in
    let kept = c.in_err-feed.ensures.no_memory cc in
    stops_before c.args.pieces.now c.loop-piece.piece-index c.loop-piece.reader c.args.frames.now.items c.loop-piece.frames.items c.feed.new.frames.items c.loop-piece.invariant.new
    c.loop-piece-test.true c.loop-piece.invariant.frames kept.1 c.loop-piece.invariant.well c.loop-piece.invariant.taken

-- if memory for a reader was refused, nothing was read
pub returns-in_err-reader-clause-stream : goal.returns-in_err-reader-clause-stream
returns-in_err-reader-clause-stream c = ([], sym (append-nil c.args.frames.now.items), search rules)

pub returns-in_err-reader-clause-memory : goal.returns-in_err-reader-clause-memory
returns-in_err-reader-clause-memory c none = stops_at_once c.args.pieces.now c.args.frames.now.items

pub loop-piece-init : goal.loop-piece-init
loop-piece-init c = record {
  new = [];
  frames = sym (append-nil c.args.frames.now.items);
  taken = subst (λ (s : Progress). HasTaken s [] []) (sym c.in_ok-reader.ensures) (splits_none [], refl);
  well = ap answer_in c.in_ok-reader.ensures;
}

pub loop-piece-preserved : goal.loop-piece-preserved
loop-piece-preserved c =
    let i = c.loop-piece.piece-index in
    let ps = c.args.pieces.now in
    let so_far = c.loop-piece.invariant in
    let whole = joined_more ps i c.piece-item.result c.loop-piece-test.true c.piece-item.is ∙ ap (λ b. joined (take i ps) ++ b) (sym c.deref.ensures.value) in
    let takes = c.in_ok-feed.ensures.taken (well_answered c.in_ok-feed.field-0) in
    record {
      new = so_far.new ++ takes.appended;
      frames = takes.frames ∙ ap (λ fs. fs ++ takes.appended) so_far.frames ∙ append_assoc c.args.frames.now.items so_far.new takes.appended;
      taken = subst (λ b. HasTaken c.feed.new.self b (so_far.new ++ takes.appended)) (sym whole) (takes.history (joined (take i ps)) so_far.new so_far.taken);
      well = sym takes.answers;
    }

pub returns-clause-stream : goal.returns-clause-stream
returns-clause-stream c =
    let so_far = c.loop-piece.invariant in
    let whole = ap joined (take_all c.loop-piece.piece-index c.args.pieces.now c.loop-piece-test.false) in
    (so_far.new, so_far.frames, open_stream c.loop-piece.reader (joined c.args.pieces.now) so_far.new so_far.well (subst (λ b. HasTaken c.loop-piece.reader b so_far.new) whole so_far.taken))

pub returns-clause-memory : goal.returns-clause-memory
returns-clause-memory c = λ none. absurd (well_answered tt none)
