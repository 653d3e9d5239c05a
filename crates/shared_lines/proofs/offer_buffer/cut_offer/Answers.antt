use Rattle.std.proofs.Common.{◌∙◌, arith, sym}
use Rattle.shared_lines.proofs.ByteLemmas.{same_number}
use Rattle.shared_lines.proofs.FieldLemmas.{early}
use Rattle.shared_lines.proofs.OfferLemmas.{offer_word}
use Rattle.shared_lines.proofs.offer_buffer.cut_offer.Goals as goal

pub returns-in_default-number_of : goal.returns-in_default-number_of
returns-in_default-number_of c = λ time rest small e.
    c.in_default-number_of.ensures time (early time small) (offer_word c.args.line.now c.in-Some.word.now c.in-Some.rest.now time rest small c.in-Some.ensures.0 c.in-Some.ensures.1 e).0

pub returns-then-time-gt-LAST_TIME : goal.returns-then-time-gt-LAST_TIME
returns-then-time-gt-LAST_TIME c = λ time rest small e.
    let w = offer_word c.args.line.now c.in-Some.word.now c.in-Some.rest.now time rest small c.in-Some.ensures.0 c.in-Some.ensures.1 e in
    let same = same_number c.in-Some-number_of.time time c.in-Some-number_of.ensures.1 (early time small) (sym c.in-Some-number_of.ensures.0 ∙ w.0) in
    omega (arith, same, small, c.if-time-gt-LAST_TIME.true)

pub returns-in-None : goal.returns-in-None
returns-in-None c = λ time rest small e. c.in-None.ensures rest (offer_word c.args.line.now c.in-Some.word.now c.in-Some.rest.now time rest small c.in-Some.ensures.0 c.in-Some.ensures.1 e).1
