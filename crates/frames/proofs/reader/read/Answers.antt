use Rattle.std.proofs.Common.{rules, ◌∙◌, sym, ap, refl, [], ◌∷◌, ◌++◌, append_assoc}
use Rattle.std.proofs.lemmas.List.{append-nil}
use Rattle.std.proofs.lemmas.Result.{err_from_is_err_and, MatchResult-weaker}
use Rattle.frames.specs.Stream.{Fault, Begins}
use Rattle.frames.proofs.BufferLemmas.{front_splits, front_stream}
use Rattle.frames.proofs.reader.read.Goals as goal

pub returns-in_err-continue_frame-clause-frames : goal.returns-in_err-continue_frame-clause-frames
returns-in_err-continue_frame-clause-frames c =
    let p = err_from_is_err_and c.from_residual.result c.from_residual.ensures.1 in
    ([], sym (append-nil c.args.frames.now.items), rw (p.1, p.2) (λ other. (c.args.buffer.now.items ++ c.args.piece.now, search rules, c.in_err-continue_frame.ensures.found other)))

pub returns-in_err-push-in-Some-clause-frames :
    goal.returns-in_err-push-in-Some-clause-frames
returns-in_err-push-in-Some-clause-frames c =
    let p = err_from_is_err_and c.from_residual-in_err-push-in-Some.result c.from_residual-in_err-push-in-Some.ensures.1 in
    ([], c.in_err-push-in-Some.ensures.items ∙ sym (append-nil c.args.frames.now.items), rw (p.1, p.2) (λ other. absurd (other refl)))

pub returns-in_ok-push-in-Some-clause-frames : goal.returns-in_ok-push-in-Some-clause-frames
returns-in_ok-push-in-Some-clause-frames c =
    let f = c.in-Some.frame in
    let a = c.args.buffer.now.items ++ c.args.piece.now in
    let r = c.in-Some.rest.now in
    let begins : Begins a f r = rw c.in-Some.is at c.in_ok-continue_frame.ensures.found in
    let more = c.read_unbuffered-in-Some.ensures.frames in (
      f ∷ more.0,
      more.1 ∙ ap (λ x. x ++ more.0) c.in_ok-push-in-Some.ensures.items ∙ append_assoc c.args.frames.now.items (f ∷ []) more.0,
      MatchResult-weaker c.read_unbuffered-in-Some.result more.2
          (λ x s. (front_splits a f r more.0 c.read_unbuffered-in-Some.new.buffer.items begins s.0, s.1))
          (λ fault s other. front_stream a f r more.0 (Fault fault) begins (s other)),
    )
