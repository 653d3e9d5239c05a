use Rattle.std.proofs.Common.{◌∙◌, ap, arith, get_or, map}
use Rattle.std.proofs.lemmas.List.{take_all}
use Rattle.proof_join.specs.RenumberedSteps.{behind}
use Rattle.log_join.proofs.NumberLemmas.{moved_more, number_over, within_more}
use Rattle.log_join.proofs.numbers.Shift.all.Goals as goal

pub returns-in-None-clause-long : goal.returns-in-None-clause-long
returns-in-None-clause-long c = λ _.
    number_over c.args.self.base c.args.self.begun c.args.numbers.now c.loop-number.number-index c.loop-number-test.true c.in-None.ensures

pub loop-number-preserved : goal.loop-number-preserved
loop-number-preserved c =
    let pushed = c.in_ok-push-in-Some.ensures.items in
    let number = c.in-Some.ensures in record {
      moved = moved_more c.args.self.base c.args.self.begun c.args.numbers.now c.loop-number.number-index c.in-Some.moved c.loop-number.out.items c.push.new.self.items
          c.loop-number-test.true c.loop-number.invariant.moved pushed number.1;
      within = within_more c.args.self.base c.args.self.begun (get_or c.args.numbers.now c.loop-number.number-index 0) c.in-Some.moved c.loop-number.out.items c.push.new.self.items
          c.loop-number.invariant.within pushed number.1 (omega (arith, number.0, number.1)) (c.requires.numbers c.loop-number.number-index 0 c.loop-number-test.true).0;
    }

pub returns-clause-numbers : goal.returns-clause-numbers
returns-clause-numbers c =
    c.loop-number.invariant.moved ∙ ap (map (behind c.args.self.base c.args.self.begun)) (take_all c.loop-number.number-index c.args.numbers.now c.loop-number-test.false)

pub returns-clause-within : goal.returns-clause-within
returns-clause-within c = c.loop-number.invariant.within
