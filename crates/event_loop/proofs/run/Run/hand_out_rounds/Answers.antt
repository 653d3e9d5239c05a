use Rattle.std.proofs.Common.{◌∙◌, arith, subst, sym}
use Rattle.std.proofs.lemmas.List.{with_items_is}
use Rattle.std.proofs.lemmas.Result.{err_from_is_err_and}
use Rattle.event_loop.specs.Ending.{HandoutEnded}
use Rattle.event_loop.specs.inner.Registrations.{AreApart}
use Rattle.event_loop.proofs.Places.{each_lent}
use Rattle.event_loop.proofs.Runs.{closes_on, closes_then}
use Rattle.event_loop.proofs.run.Run.hand_out_rounds.Goals as goal

pub returns-then-not-has_link : goal.returns-then-not-has_link
returns-then-not-has_link g c =
    let cleared = with_items_is c.loop.self.slots c.close_inactive.new.slots (omega (arith, c.close_inactive.auto.slots, c.deref_mut.ensures.len)) in
    let each = closes_then _ _ _ _ _ _ _ _ _ c.loop.invariant.2 c.close_inactive.ensures.spends.begun (each_lent _ _ _ _ _ _ c.deref_mut.ensures.value cleared c.close_inactive.ensures.each) in
    record {
      formula = c.close_inactive.ensures.formula ∙ c.loop.invariant.0;
      most = omega (arith, c.close_inactive.ensures.spends.most, c.close_inactive.ensures.spends.arrivals, c.loop.invariant.1);
      each = each;
      apart = λ apart. subst AreApart (sym cleared) (c.close_inactive.ensures.apart (subst AreApart (sym c.deref_mut.ensures.value) (c.loop.invariant.3 apart)));
      rises = omega (arith, c.close_inactive.ensures.spends.rises, c.loop.invariant.5);
      ended = HandoutEnded.nobody (sym c.has_link.ensures ∙ c.if-not-has_link.true);
    }

pub returns-in_err-goes_on : goal.returns-in_err-goes_on
returns-in_err-goes_on g c =
    let p = err_from_is_err_and c.from_residual.result c.from_residual.ensures.1 in
    let cleared = with_items_is c.loop.self.slots c.close_inactive.new.slots (omega (arith, c.close_inactive.auto.slots, c.deref_mut.ensures.len)) in
    let each = closes_then _ _ _ _ _ _ _ _ _ c.loop.invariant.2 c.close_inactive.ensures.spends.begun (each_lent _ _ _ _ _ _ c.deref_mut.ensures.value cleared c.close_inactive.ensures.each) in
    record {
      formula = c.in_err-goes_on.ensures.formula ∙ (c.close_inactive.ensures.formula ∙ c.loop.invariant.0);
      most = omega (arith, c.in_err-goes_on.ensures.most, c.in_err-goes_on.ensures.arrivals, c.close_inactive.ensures.spends.most, c.close_inactive.ensures.spends.arrivals, c.loop.invariant.1);
      each = closes_on _ _ _ _ _ _ _ _ _ each c.in_err-goes_on.ensures.each;
      apart = λ apart. c.in_err-goes_on.ensures.apart (subst AreApart (sym cleared) (c.close_inactive.ensures.apart (subst AreApart (sym c.deref_mut.ensures.value) (c.loop.invariant.3 apart))));
      rises = omega (arith, c.in_err-goes_on.ensures.rises, c.close_inactive.ensures.spends.rises, c.loop.invariant.5);
      ended = rw p.1 tt;
    }

pub returns-then-not-goes_on : goal.returns-then-not-goes_on
returns-then-not-goes_on g c =
    let cleared = with_items_is c.loop.self.slots c.close_inactive.new.slots (omega (arith, c.close_inactive.auto.slots, c.deref_mut.ensures.len)) in
    let each = closes_then _ _ _ _ _ _ _ _ _ c.loop.invariant.2 c.close_inactive.ensures.spends.begun (each_lent _ _ _ _ _ _ c.deref_mut.ensures.value cleared c.close_inactive.ensures.each) in
    record {
      formula = c.in_ok-goes_on.ensures.formula ∙ (c.close_inactive.ensures.formula ∙ c.loop.invariant.0);
      most = omega (arith, c.in_ok-goes_on.ensures.most, c.in_ok-goes_on.ensures.arrivals, c.close_inactive.ensures.spends.most, c.close_inactive.ensures.spends.arrivals, c.loop.invariant.1);
      each = closes_on _ _ _ _ _ _ _ _ _ each c.in_ok-goes_on.ensures.each;
      apart = λ apart. c.in_ok-goes_on.ensures.apart (subst AreApart (sym cleared) (c.close_inactive.ensures.apart (subst AreApart (sym c.deref_mut.ensures.value) (c.loop.invariant.3 apart))));
      rises = omega (arith, c.in_ok-goes_on.ensures.rises, c.close_inactive.ensures.spends.rises, c.loop.invariant.5);
      ended = HandoutEnded.over (c.in_ok-goes_on.ensures.over c.if-not-goes_on.true);
    }

pub returns : goal.returns
returns g c = record {
  formula = c.loop.invariant.0;
  most = omega (arith, c.loop.invariant.1);
  each = c.loop.invariant.2;
  apart = c.loop.invariant.3;
  rises = c.loop.invariant.5;
  ended = HandoutEnded.full (omega (arith, c.loop-test.false, c.loop.invariant.4));
}

pub loop-preserved : goal.loop-preserved
loop-preserved g c =
    let one = c.in_ok-goes_on.ensures.arrived c.if-not-goes_on.false in
    let cleared = with_items_is c.loop.self.slots c.close_inactive.new.slots (omega (arith, c.close_inactive.auto.slots, c.deref_mut.ensures.len)) in
    let each = closes_then _ _ _ _ _ _ _ _ _ c.loop.invariant.2 c.close_inactive.ensures.spends.begun (each_lent _ _ _ _ _ _ c.deref_mut.ensures.value cleared c.close_inactive.ensures.each) in (
      c.in_ok-goes_on.ensures.formula ∙ (c.close_inactive.ensures.formula ∙ c.loop.invariant.0),
      omega (arith, one, c.in_ok-goes_on.ensures.most, c.close_inactive.ensures.spends.most, c.close_inactive.ensures.spends.arrivals, c.loop.invariant.1),
      closes_on _ _ _ _ _ _ _ _ _ each c.in_ok-goes_on.ensures.each,
      λ apart. c.in_ok-goes_on.ensures.apart (subst AreApart (sym cleared) (c.close_inactive.ensures.apart (subst AreApart (sym c.deref_mut.ensures.value) (c.loop.invariant.3 apart)))),
      omega (arith, one, c.close_inactive.ensures.spends.arrivals, c.loop.invariant.4),
      omega (arith, c.in_ok-goes_on.ensures.rises, c.close_inactive.ensures.spends.rises, c.loop.invariant.5),
    )
