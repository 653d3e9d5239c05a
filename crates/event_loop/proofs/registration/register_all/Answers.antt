use Rattle.std.proofs.Common.{◌∙◌, ◌<◌, length, arith}
use Rattle.std.proofs.lemmas.Result.{err_from_is_err_and}
use Rattle.event_loop.proofs.AccountLemmas.{spends_on, spends_within}
use Rattle.event_loop.proofs.Places.{turned, fresh_at, set_fresh}
use Rattle.event_loop.proofs.RegistrationLemmas.{apart_registered, nobody_left, nobody_left_at_end, nobody_may_register_on}
use Rattle.event_loop.proofs.registration.register_all.Goals as goal

pub returns-then-slots-place : goal.returns-then-slots-place
returns-then-slots-place g c = record {
  formula = c.loop-place.invariant.formula;
  fresh = λ fresh. (c.loop-place.invariant.fresh fresh).0;
  spends = spends_within _ _ _ _ _ c.loop-place.invariant.spends (omega (arith, c.loop-place.auto.place-end));
  each = c.loop-place.invariant.each;
  apart = c.loop-place.invariant.apart;
  registered = nobody_left c.loop-place.slots c.loop-place.place (omega arith) c.loop-place.invariant.registered;
}

pub returns : goal.returns
returns g c = record {
  formula = c.loop-place.invariant.formula;
  fresh = λ fresh. (c.loop-place.invariant.fresh fresh).0;
  spends = spends_within _ _ _ _ _ c.loop-place.invariant.spends (omega (arith, c.loop-place.auto.place-end));
  each = c.loop-place.invariant.each;
  apart = c.loop-place.invariant.apart;
  registered = nobody_left_at_end c.loop-place.slots c.loop-place.place (omega arith) c.loop-place.invariant.registered;
}

pub returns-in_err-register_one : goal.returns-in_err-register_one
returns-in_err-register_one g c =
    let p = err_from_is_err_and c.from_residual.result c.from_residual.ensures.1 in
    let at : c.loop-place.place < length c.loop-place.slots = omega arith in record {
      formula = c.register_one.ensures.formula ∙ c.loop-place.invariant.formula;
      fresh = λ fresh.
          let so_far = c.loop-place.invariant.fresh fresh in
          (c.register_one.ensures.fresh (fresh_at c.loop-place.slots c.loop-place.place c.index-slots-place.result at so_far.1)).0 ∙ so_far.0;
      spends = spends_on _ _ _ _ _ _ _ c.loop-place.invariant.spends c.register_one.ensures.spends (omega (arith, c.loop-place.auto.place-end, c.loop-place-test.true));
      each = turned _ _ _ c.args.slots.now c.loop-place.slots c.loop-place.place c.register_one.new.connection c.index-slots-place.result at c.register_one.ensures.refusals.here c.register_one.ensures.refusals.elsewhere c.loop-place.invariant.each;
      apart = λ apart. apart_registered c.loop-place.slots c.loop-place.place c.register_one.new.connection c.index-slots-place.result c.may_register-may_register.result at c.may_register-may_register.ensures (λ barred. (c.register_one.ensures.barred barred).0) c.register_one.ensures.owner (c.loop-place.invariant.apart apart);
      registered = rw p.1 tt;
    }

pub loop-place-preserved : goal.loop-place-preserved
loop-place-preserved g c =
    let at : c.loop-place.place < length c.loop-place.slots = omega arith in record {
      formula = c.register_one.ensures.formula ∙ c.loop-place.invariant.formula;
      fresh = λ fresh.
          let so_far = c.loop-place.invariant.fresh fresh in
          let turn = c.register_one.ensures.fresh (fresh_at c.loop-place.slots c.loop-place.place c.index-slots-place.result at so_far.1) in
          (turn.0 ∙ so_far.0, set_fresh c.loop-place.slots c.loop-place.place c.register_one.new.connection turn.1 so_far.1);
      spends = spends_on _ _ _ _ _ _ _ c.loop-place.invariant.spends c.register_one.ensures.spends (omega arith);
      each = turned _ _ _ c.args.slots.now c.loop-place.slots c.loop-place.place c.register_one.new.connection c.index-slots-place.result at c.register_one.ensures.refusals.here c.register_one.ensures.refusals.elsewhere c.loop-place.invariant.each;
      apart = λ apart. apart_registered c.loop-place.slots c.loop-place.place c.register_one.new.connection c.index-slots-place.result c.may_register-may_register.result at c.may_register-may_register.ensures (λ barred. (c.register_one.ensures.barred barred).0) c.register_one.ensures.owner (c.loop-place.invariant.apart apart);
      registered = nobody_may_register_on c.loop-place.slots c.loop-place.place c.register_one.new.connection c.index-slots-place.result c.may_register-may_register.result at c.may_register-may_register.ensures (λ barred. (c.register_one.ensures.barred barred).0) c.in_ok-register_one.ensures.waits c.loop-place.invariant.registered;
    }
