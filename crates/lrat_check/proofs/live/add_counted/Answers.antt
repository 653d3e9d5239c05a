use Rattle.std.proofs.Common.{◌≡◌, ◌^◌, Some, arith, sym, ◌∙◌, ap, subst, option_map}
use Rattle.std.specs.FinMap.{get, remove}
use Rattle.dimacs.specs.logic.ClauseMap.{ClauseMap}
use Rattle.lrat_check.specs.inner.Store.{clause_at}
use Rattle.lrat_check.specs.inner.LiteralTable.{IsCounted, FitsTable}
use Rattle.lrat_check.proofs.Tables.{counted-remove, counted-insert, some_hold, all_below, no_fewer, remove_none, insert_over, one_more_fits}
use Rattle.lrat_check.proofs.Pigeonhole.{gone}
use Rattle.lrat_check.proofs.live.add_counted.Goals as goal
use Rattle.lrat_check.proofs.live.add_counted.Goals.{After-clause-gone, Joined-old, in-Some, in_default}

there : (c : After-clause-gone) → get c.args.store.now.live c.args.id ≡ Some c.clause-gone.result.now
there c = sym c.in_ok-old.ensures.old ∙ ap (option_map (clause_at c.put.new.self.literals)) c.in-Some.is ∙ ap Some (sym c.clause-gone.ensures)

pub uncount-requires-clause-fits : goal.uncount-requires-clause-fits
uncount-requires-clause-fits c = c.requires.counted.fits c.args.id c.clause-gone.result.now (there ((goal.at.uncount-requires-clause-fits c).After-clause-gone))

pub uncount-requires-clause-below : goal.uncount-requires-clause-below
uncount-requires-clause-below c =
    all_below c.args.store.now.live c.args.counts.now (2 ^ 63) c.requires.counted
    (omega (arith, no_fewer c.args.store.now.live c.put.new.self.live c.args.id c.args.lits.now c.in_ok-old.ensures.ok, c.bound_len.ensures))

pub uncount-requires-clause-above : goal.uncount-requires-clause-above
uncount-requires-clause-above c =
    some_hold c.args.store.now.live c.args.counts.now c.args.id c.clause-gone.result.now c.requires.counted (there ((goal.at.uncount-requires-clause-above c).After-clause-gone))

-- the counts without the old clause
settled : (c : Joined-old) → IsCounted (remove c.args.store.now.live c.args.id) c.match-old.counts
settled c = elim c.match-old.branch [
  | in-Some w ↦
      subst (λ x. IsCounted (remove c.args.store.now.live c.args.id) x) (sym w.counts-is)
      (counted-remove c.args.store.now.live c.args.counts.now c.requires.counted c.args.id w.clause-gone.result.now w.uncount.new.counts
      w.uncount.auto.counts
      (sym c.in_ok-old.ensures.old ∙ ap (option_map (clause_at c.put.new.self.literals)) w.in-Some.is ∙ ap Some (sym w.clause-gone.ensures))
      w.uncount.ensures)
  | in_default w ↦
      subst (λ x. IsCounted (remove c.args.store.now.live c.args.id) x) (sym w.counts-is)
      (subst (λ (M : ClauseMap). IsCounted M c.args.counts.now) (sym (remove_none c.args.store.now.live c.args.id
      (sym c.in_ok-old.ensures.old ∙ ap (option_map (clause_at c.put.new.self.literals)) w.in_default.is)))
      c.requires.counted)
]

pub count-requires-clause-below : goal.count-requires-clause-below
count-requires-clause-below c l =
    one_more_fits (remove c.args.store.now.live c.args.id) c.match-old.counts c.args.id c.args.lits.now c.put.new.self.live (2 ^ 63)
    (settled ((goal.at.count-requires-clause-below c).Joined-old)) (gone c.args.store.now.live c.args.id)
    (c.in_ok-old.ensures.ok ∙ insert_over c.args.store.now.live c.args.id c.args.lits.now) c.bound_len.ensures l

pub returns-clause-counted : goal.returns-clause-counted
returns-clause-counted c =
    subst (λ (M : ClauseMap). IsCounted M c.count.new.counts)
    (sym (c.in_ok-old.ensures.ok ∙ insert_over c.args.store.now.live c.args.id c.args.lits.now))
    (counted-insert (remove c.args.store.now.live c.args.id) c.match-old.counts (settled ((goal.at.returns-clause-counted c).Joined-old)) c.args.id c.args.lits.now c.count.new.counts
    c.count.auto.counts (gone c.args.store.now.live c.args.id)
    (subst (λ n. FitsTable n c.args.lits.now) (sym c.match-old.auto.counts) c.requires.fits)
    c.count.ensures)
