use Rattle.std.proofs.Common.{◌∙◌, Bool, ap, arith, subst, sym}
use Rattle.std.proofs.lemmas.List.{with_items_is}
use Rattle.std.proofs.lemmas.Result.{err_from_is_err_and}
use Rattle.event_loop.specs.Ending.{has_link}
use Rattle.event_loop.specs.Run.{formula_of, verdict_of}
use Rattle.event_loop.specs.declared.run.Run.{Run}
use Rattle.event_loop.specs.inner.Connections.{AreFresh}
use Rattle.event_loop.specs.inner.Timeouts.{linked_by}
use Rattle.event_loop.specs.inner.Registrations.{AreApart}
use Rattle.event_loop.proofs.AccountLemmas.{spends_on, spends_uncounted}
use Rattle.event_loop.proofs.Places.{each_lent}
use Rattle.event_loop.proofs.run.Run.handle_tick.Goals as goal

pub returns-in_err-close_all_overdue : goal.returns-in_err-close_all_overdue
returns-in_err-close_all_overdue g c =
    let p = err_from_is_err_and c.from_residual.result c.from_residual.ensures.1 in
    let cleared = with_items_is c.args.self.now.slots c.close_all_overdue.new.slots (omega (arith, c.close_all_overdue.auto.slots, c.deref_mut.ensures.len)) in
    let began = c.deref_mut.ensures.value in record {
      formula = c.close_all_overdue.ensures.formula;
      verdict = c.close_all_overdue.ensures.verdict;
      spends = c.close_all_overdue.ensures.spends;
      each = each_lent _ _ _ _ _ _ began cleared c.close_all_overdue.ensures.each;
      fresh = λ fresh. subst AreFresh (sym cleared) (c.close_all_overdue.ensures.fresh (subst AreFresh (sym began) fresh));
      apart = λ apart. subst AreApart (sym cleared) (c.close_all_overdue.ensures.apart (subst AreApart (sym began) apart));
      linked = rw p.1 tt;
    }

pub returns : goal.returns
returns g c =
    let cleared = with_items_is c.args.self.now.slots c.close_all_overdue.new.slots (omega (arith, c.close_all_overdue.auto.slots, c.deref_mut.ensures.len)) in
    let left = ap (λ (r : Run). r.slots.items) c.note_link.ensures ∙ cleared in
    let began = c.deref_mut.ensures.value in record {
      formula = ap formula_of c.note_link.ensures ∙ c.close_all_overdue.ensures.formula;
      verdict = ap verdict_of c.note_link.ensures ∙ c.close_all_overdue.ensures.verdict;
      spends =
          let shown = spends_uncounted g.A.Arrivals 0 _ _ c.show.ensures.calls c.show.ensures.arrivals c.show.ensures.ended c.show.ensures.links in
          spends_on _ _ _ _ _ _ _ c.close_all_overdue.ensures.spends shown (omega arith);
      each = λ p.
          let shown = c.show.ensures.refusals p in
          let cleared = each_lent _ _ _ _ _ _ began left c.close_all_overdue.ensures.each p in
          omega (arith, shown, cleared);
      fresh = λ fresh. subst AreFresh (sym left) (c.close_all_overdue.ensures.fresh (subst AreFresh (sym began) fresh));
      apart = λ apart. subst AreApart (sym left) (c.close_all_overdue.ensures.apart (subst AreApart (sym began) apart));
      linked = λ other.
          ap (λ (r : Run). r.linked) c.note_link.ensures
          ∙ ap (λ (b : Bool). linked_by c.args.self.now.linked b c.args.self.now.tick) (sym (ap has_link c.note_link.ensures));
    }
