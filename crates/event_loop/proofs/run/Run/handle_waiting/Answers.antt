use Rattle.std.proofs.Common.{◌∙◌, List, Option, OnOk, arith, le_refl, subst, sym}
use Rattle.std.specs.Vec.{with_items}
use Rattle.std.proofs.lemmas.List.{with_items_is}
use Rattle.std.proofs.lemmas.Result.{err_from_is_err_and}
use Rattle.event_loop.specs.declared.connection.Connection.{Connection}
use Rattle.event_loop.specs.inner.Deliveries.{IdleHaveNothing}
use Rattle.event_loop.specs.inner.Connections.{AreFresh}
use Rattle.event_loop.specs.inner.Registrations.{AreApart}
use Rattle.event_loop.proofs.AccountLemmas.{spends_on, spends_within}
use Rattle.event_loop.proofs.Places.{each_lent, each_then}
use Rattle.event_loop.proofs.run.Run.handle_waiting.Goals as goal

pub returns-in_err-handle_tick : goal.returns-in_err-handle_tick
returns-in_err-handle_tick g c =
    let p = err_from_is_err_and c.from_residual.result c.from_residual.ensures.1 in record {
      formula = c.handle_tick.ensures.formula;
      spends = spends_within _ _ _ _ _ c.handle_tick.ensures.spends (omega arith);
      each = c.handle_tick.ensures.each;
      fresh = λ fresh. c.handle_tick.ensures.verdict;
      apart = c.handle_tick.ensures.apart;
      told = rw p.1 tt;
    }

pub returns-in_err-register_all : goal.returns-in_err-register_all
returns-in_err-register_all g c =
    let p = err_from_is_err_and c.from_residual-in_err-register_all.result c.from_residual-in_err-register_all.ensures.1 in
    let began = c.deref_mut.ensures.value in
    let sat = with_items_is c.handle_tick.new.self.slots c.register_all.new.slots (omega (arith, c.register_all.auto.slots, c.deref_mut.ensures.len)) in record {
      formula = c.register_all.ensures.formula ∙ c.handle_tick.ensures.formula;
      spends = spends_on _ _ _ _ _ _ _ c.handle_tick.ensures.spends c.register_all.ensures.spends (omega arith);
      each = each_then _ _ _ _ _ _ c.handle_tick.ensures.each (each_lent _ _ _ _ _ _ began sat c.register_all.ensures.each);
      fresh = λ fresh. c.register_all.ensures.fresh (subst AreFresh (sym began) (c.handle_tick.ensures.fresh fresh)) ∙ c.handle_tick.ensures.verdict;
      apart = λ apart. subst AreApart (sym sat) (c.register_all.ensures.apart (subst AreApart (sym began) (c.handle_tick.ensures.apart apart)));
      told = rw p.1 tt;
    }

pub returns : goal.returns
returns g c =
    let began = c.deref_mut.ensures.value in
    let sat = with_items_is c.handle_tick.new.self.slots c.register_all.new.slots (omega (arith, c.register_all.auto.slots, c.deref_mut.ensures.len)) in
    let waited = c.deref_mut-2.ensures.value in
    let told = with_items_is (with_items c.handle_tick.new.self.slots c.register_all.new.slots) c.poll_idle.new.slots (omega (arith, c.poll_idle.auto.slots, c.deref_mut-2.ensures.len)) in
    record {
      formula = c.poll_idle.ensures.formula ∙ (c.register_all.ensures.formula ∙ c.handle_tick.ensures.formula);
      spends =
          let registered = spends_on _ _ _ _ _ _ _ c.handle_tick.ensures.spends c.register_all.ensures.spends (le_refl _) in
          spends_on _ _ _ _ _ _ _ registered c.poll_idle.ensures.spends (omega arith);
      each = each_then _ _ _ _ _ _ c.handle_tick.ensures.each (each_then _ _ _ _ _ _ (each_lent _ _ _ _ _ _ began sat c.register_all.ensures.each) (each_lent _ _ _ _ _ _ waited told c.poll_idle.ensures.each));
      fresh = λ fresh.
          let looked = subst AreFresh (sym began) (c.handle_tick.ensures.fresh fresh) in
          c.poll_idle.ensures.verdict ∙ (c.register_all.ensures.fresh looked ∙ c.handle_tick.ensures.verdict);
      apart = λ apart.
          let looked = subst AreApart (sym began) (c.handle_tick.ensures.apart apart) in
          subst AreApart (sym told) (c.poll_idle.ensures.apart (subst AreApart (sym (waited ∙ sat)) (c.register_all.ensures.apart looked)));
      told = subst (λ (slots : List (Option Connection)). OnOk c.poll_idle.result (IdleHaveNothing slots c.poll_idle.new.dispatcher.coordinator)) (sym told) c.poll_idle.ensures.told;
    }
