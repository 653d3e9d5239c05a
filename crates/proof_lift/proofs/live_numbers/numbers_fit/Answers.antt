use Rattle.std.proofs.Common.{ℕ, List, ◌<◌, length, get_or, arith, subst}
use Rattle.std.specs.Prelude.{All}
use Rattle.std.proofs.lemmas.List.{take_all}
use Rattle.std.proofs.lemmas.List.Elements.{All-more}
use Rattle.lrat_text.specs.Grammar.{IsClauseNumber}
use Rattle.proof_lift.proofs.live_numbers.numbers_fit.Goals as goal

pub loop-number-preserved : goal.loop-number-preserved
loop-number-preserved c =
    let below : c.loop-number.number-index < length c.args.numbers.now = omega arith in
    let here : IsClauseNumber (get_or c.args.numbers.now c.loop-number.number-index 0) = (omega (arith, c.if-number-eq0.false), omega (arith, c.if-number-ge-LIMIT.false)) in
    All-more IsClauseNumber c.args.numbers.now c.loop-number.number-index 0 below c.loop-number.invariant here

pub returns : goal.returns
returns c = subst (λ (ns : List ℕ). All IsClauseNumber ns) (take_all c.loop-number.number-index c.args.numbers.now c.loop-number-test.false) c.loop-number.invariant
