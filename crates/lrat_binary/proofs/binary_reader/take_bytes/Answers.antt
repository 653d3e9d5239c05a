use Rattle.std.proofs.Common.{◌≡◌, ◌∷◌, sym, subst}
use Rattle.std.proofs.lemmas.Result.{err_from_is_err_and}
use Rattle.lrat_binary.specs.StepSink.{HandsOn, FeedStops}
use Rattle.lrat_binary.specs.PartialStep.{state_of}
use Rattle.lrat_binary.proofs.StepSinkLemmas.{breaks_memory, hands_more, hands_on, hands_skip, stops_more, stops_on}
use Rattle.lrat_binary.proofs.binary_reader.take_bytes.Goals as goal

pub loop-byte-preserved : goal.loop-byte-preserved
loop-byte-preserved g c =
    let takes = g.T.TakesSteps.takes in
    let s = c.loop-byte.taker in
    let begun = state_of c.loop-byte.parts in
    let rest = c.loop-byte.rest.now in
    let b = c.in-Some.byte.now in
    let later = c.in-Some.later.now in
    let t = c.take_byte.new.taker in
    let next = state_of c.take_byte.new.parts in
    let e : rest ≡ b ∷ later = c.in-Some.ensures.cases.0 in
    let one : HandsOn takes s begun rest t next later = subst (λ xs. HandsOn takes s begun xs t next later) (sym e) (hands_more takes s begun b later t next c.in_ok-take_byte.ensures.1) in
    let all = hands_on takes c.args.taker.now (state_of c.args.parts.now) c.args.piece.now s begun rest t next later c.loop-byte.invariant.hands one in
    record {
      may = c.in_ok-take_byte.ensures.0;
      hands = hands_skip takes c.args.taker.now (state_of c.args.parts.now) c.args.piece.now t next later (state_of c.take_short.new.self) c.in-Ok.rest.now all c.in-Ok.ensures.skips;
    }

pub returns-in-Err : goal.returns-in-Err
returns-in-Err g c =
    let takes = g.T.TakesSteps.takes in
    let s = c.loop-byte.taker in
    let begun = state_of c.loop-byte.parts in
    let rest = c.loop-byte.rest.now in
    let b = c.in-Some.byte.now in
    let later = c.in-Some.later.now in
    let t = c.take_byte.new.taker in
    let next = state_of c.take_byte.new.parts in
    let e : rest ≡ b ∷ later = c.in-Some.ensures.cases.0 in
    let one : HandsOn takes s begun rest t next later = subst (λ xs. HandsOn takes s begun xs t next later) (sym e) (hands_more takes s begun b later t next c.in_ok-take_byte.ensures.1) in
    breaks_memory takes c.args.taker.now (state_of c.args.parts.now) c.args.piece.now t next later
    (hands_on takes c.args.taker.now (state_of c.args.parts.now) c.args.piece.now s begun rest t next later c.loop-byte.invariant.hands one)

pub returns-in_err-take_byte : goal.returns-in_err-take_byte
returns-in_err-take_byte g c =
    let takes = g.T.TakesSteps.takes in
    let refuses = g.T.TakesSteps.refuses in
    let s = c.loop-byte.taker in
    let begun = state_of c.loop-byte.parts in
    let rest = c.loop-byte.rest.now in
    let b = c.in-Some.byte.now in
    let later = c.in-Some.later.now in
    let t = c.take_byte.new.taker in
    let fault = c.in_err-take_byte.field-0.0 in
    let e : rest ≡ b ∷ later = c.in-Some.ensures.cases.0 in
    let p = err_from_is_err_and c.from_residual.result c.from_residual.ensures.1 in
    rw (p.1, p.2) (stops_on takes refuses c.args.taker.now (state_of c.args.parts.now) c.args.piece.now s begun rest t fault c.loop-byte.invariant.hands
    (subst (λ xs. FeedStops takes refuses s begun xs t fault) (sym e) (stops_more takes refuses s begun b later t fault c.in_err-take_byte.ensures)))
