use Rattle.std.proofs.Common.{◌≡◌, ◌+◌, ◌*◌, ◌≤◌, ◌∙◌, Some, None, sym, ap, arith, slice_index, slice_index_or, take}
use Rattle.std.proofs.lemmas.List.{length-take}
use Rattle.dimacs.specs.logic.Literal.{index_of}
use Rattle.lrat_check.specs.inner.LiteralTable.{held, one_if_has}
use Rattle.lrat_check.proofs.Held.{held-bound, held-more}
use Rattle.lrat_check.proofs.counts.count_near.Goals.{After-get, in-Some, in_default}
use Rattle.lrat_check.proofs.counts.count_near.Goals as goal

pub count-requires-clause-below : goal.count-requires-clause-below
count-requires-clause-below c l =
    let most : held c.args.literals.now (take c.loop-i.i c.args.near.now) l ≤ c.loop-i.i =
    omega (arith, held-bound c.args.literals.now (take c.loop-i.i c.args.near.now) l, length-take c.loop-i.i c.args.near.now) in
    omega (arith, c.loop-i.invariant l, c.requires.below l, c.loop-i-test.true)

-- the loop reads the slot of this turn
there : (c : After-get) → c.get.result ≡ slice_index_or c.args.near.now c.loop-i.i None
there c = c.get.ensures

pub clause_of-lits-requires : goal.clause_of-lits-requires
clause_of-lits-requires c = c.requires.placed c.loop-i.i c.in-Some.slot (sym (there ((goal.at.clause_of-lits-requires c).After-get)) ∙ c.in-Some.is)

pub loop-i-preserved : goal.loop-i-preserved
loop-i-preserved c = elim c.match-get.branch [
  | in-Some w ↦ λ k. ap (λ xs. slice_index xs (index_of k)) w.counts-is ∙ w.count.ensures k
      ∙ ap (λ n. n + one_if_has w.clause_of-lits.result.now k * 1) (c.loop-i.invariant k)
      ∙ ap (λ C. slice_index c.args.counts.now (index_of k) + held c.args.literals.now (take c.loop-i.i c.args.near.now) k + one_if_has C k * 1) w.clause_of-lits.ensures
      ∙ omega (arith, held-more c.args.literals.now c.args.near.now c.loop-i.i (Some w.in-Some.slot) k (omega (arith, c.loop-i-test.true, c.len-i-end.ensures, c.loop-i.auto.i-end)) (sym (there ((goal.at.loop-i-preserved c).After-get)) ∙ w.in-Some.is))
  | in_default w ↦ λ k. ap (λ xs. slice_index xs (index_of k)) w.counts-is ∙ c.loop-i.invariant k
      ∙ omega (arith, held-more c.args.literals.now c.args.near.now c.loop-i.i None k (omega (arith, c.loop-i-test.true, c.len-i-end.ensures, c.loop-i.auto.i-end)) (sym (there ((goal.at.loop-i-preserved c).After-get)) ∙ w.in_default.is))
]
