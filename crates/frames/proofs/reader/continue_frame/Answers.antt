use Rattle.std.proofs.Common.{sym, subst}
use Rattle.std.proofs.lemmas.Result.{err_from_is_err_and}
use Rattle.frames.specs.Stream.{Ends, Fault, Open, Begins}
use Rattle.frames.proofs.BufferLemmas.{filled_fault, filled_frame, filled_front, filled_open}
use Rattle.frames.proofs.reader.continue_frame.Goals as goal

pub returns-in_err-first-clause-found : goal.returns-in_err-first-clause-found
returns-in_err-first-clause-found c =
    let p = err_from_is_err_and c.from_residual.result c.from_residual.ensures.1 in
    let b2 = c.fill-taken.new.buffer.items in
    let fault = c.in_err-first.field-0.0 in
    rw (p.1, p.2) (λ other. filled_fault c.args.buffer.now.items c.args.piece.now b2 c.fill-taken.result fault c.fill-taken.ensures.fills (subst (λ b. Ends b (Fault fault)) c.deref.ensures.value (c.in_err-first.ensures.first other)))

pub returns-in-Some-clause-found : goal.returns-in-Some-clause-found
returns-in-Some-clause-found c =
    let b2 = c.fill-taken.new.buffer.items in
    let found = rw c.in-Some.is at c.in_ok-first.ensures.first in
    let begins : Begins b2 c.in-Some.frame c.in-Some.field-0-1.now = subst (λ b. Begins b c.in-Some.frame c.in-Some.field-0-1.now) c.deref.ensures.value found in
    subst (Begins _ c.in-Some.frame) (sym c.split_at.ensures.back) (filled_frame c.args.buffer.now.items c.args.piece.now b2 c.fill-taken.result c.in-Some.frame c.in-Some.field-0-1.now c.fill-taken.ensures.fills begins)

pub returns-in_err-first-clause-front : goal.returns-in_err-first-clause-front
returns-in_err-first-clause-front c = filled_front c.args.buffer.now.items c.args.piece.now c.fill-taken.new.buffer.items c.fill-taken.result c.fill-taken.ensures.fills

pub returns-in-None-clause-found : goal.returns-in-None-clause-found
returns-in-None-clause-found c =
    let b2 = c.fill-taken.new.buffer.items in
    let found = rw c.in-None.is at c.in_ok-first.ensures.first in
    let still = subst (λ b. Ends b Open) c.deref.ensures.value found in
    (filled_open c.args.buffer.now.items c.args.piece.now b2 c.fill-taken.result c.fill-taken.ensures.fills still, still)

pub returns-in-None-clause-front : goal.returns-in-None-clause-front
returns-in-None-clause-front c = filled_front c.args.buffer.now.items c.args.piece.now c.fill-taken.new.buffer.items c.fill-taken.result c.fill-taken.ensures.fills

pub returns-in-Some-clause-front : goal.returns-in-Some-clause-front
returns-in-Some-clause-front c = filled_front c.args.buffer.now.items c.args.piece.now c.fill-taken.new.buffer.items c.fill-taken.result c.fill-taken.ensures.fills
