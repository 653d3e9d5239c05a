use Rattle.std.proofs.Common.{◌≡◌, ◌^◌, Some, None, sym, ◌∙◌, ap, subst}
use Rattle.std.specs.FinMap.{get}
use Rattle.std.specs.Option.{is_some}
use Rattle.lrat_check.specs.inner.Store.{clause_at}
use Rattle.lrat_check.specs.inner.LiteralTable.{IsCounted}
use Rattle.lrat_check.proofs.Tables.{counted-remove, some_hold, all_below, remove_none}
use Rattle.lrat_check.proofs.live.remove_counted.Goals as goal
use Rattle.lrat_check.proofs.live.remove_counted.Goals.{After-clause-gone}

there : (c : After-clause-gone) → get c.args.store.now.live c.args.id ≡ Some c.clause-gone.result.now
there c = sym c.in-Some.ensures.old ∙ ap Some (ap (λ ls. clause_at ls c.in-Some.slot) (sym c.in-Some.ensures.literals) ∙ sym c.clause-gone.ensures)

pub uncount-requires-clause-fits : goal.uncount-requires-clause-fits
uncount-requires-clause-fits c = c.requires.fits c.args.id c.clause-gone.result.now (there ((goal.at.uncount-requires-clause-fits c).After-clause-gone))

pub uncount-requires-clause-below : goal.uncount-requires-clause-below
uncount-requires-clause-below c = all_below c.args.store.now.live c.args.counts.now (2 ^ 63) c.requires c.bound_len.ensures

pub uncount-requires-clause-above : goal.uncount-requires-clause-above
uncount-requires-clause-above c =
    some_hold c.args.store.now.live c.args.counts.now c.args.id c.clause-gone.result.now c.requires (there ((goal.at.uncount-requires-clause-above c).After-clause-gone))

pub returns-in-Some : goal.returns-in-Some
returns-in-Some c =
    let now = c.in-Some.ensures.after in
    record {
      live = sym (ap is_some (there ((goal.at.returns-in-Some c).After-clause-gone)));
      after = now;
      counted = subst (λ M. IsCounted M c.uncount.new.counts) (sym now)
          (counted-remove c.args.store.now.live c.args.counts.now c.requires c.args.id c.clause-gone.result.now c.uncount.new.counts
          c.uncount.auto.counts (there ((goal.at.returns-in-Some c).After-clause-gone)) c.uncount.ensures);
    }

pub returns-in-None : goal.returns-in-None
returns-in-None c =
    let none : get c.args.store.now.live c.args.id ≡ None = sym c.in-None.ensures.old in
    let now = c.in-None.ensures.after in
    record {
      live = sym (ap is_some none);
      after = now;
      counted = subst (λ M. IsCounted M c.args.counts.now) (sym (now ∙ remove_none c.args.store.now.live c.args.id none)) c.requires;
    }
