use Rattle.std.proofs.Common.{◌∷◌, [], ◌++◌, ap, ◌∙◌, append_assoc, subst}
use Rattle.std.specs.Prelude.{MatchOption}
use Rattle.frames.specs.Stream.{Begins, Ends, Open}
use Rattle.frames.proofs.BufferLemmas.{one_more}
use Rattle.frames.proofs.reader.read_whole_frames.Goals as goal

pub loop-frame-preserved : goal.loop-frame-preserved
loop-frame-preserved c =
    let i = c.loop-frame.invariant in
    let rest = c.loop-frame.rest.now in
    let f = c.in-Some.frame in
    let begins = subst (λ o. MatchOption o (Ends rest Open) (λ r. Begins rest r.0 r.1.now)) c.in-Some.is c.in_ok-first.ensures.first in (
      i.0 ++ f ∷ [],
      c.in_ok-push-in-Some.ensures.items ∙ ap (λ x. x ++ f ∷ []) i.1 ∙ append_assoc c.args.frames.now.items i.0 (f ∷ []),
      one_more c.args.piece.now i.0 rest f c.in-Some.after.now i.2 begins,
    )
