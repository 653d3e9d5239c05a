use Rattle.std.proofs.Common.{sym, subst, take, get_or}
use Rattle.std.proofs.lemmas.List.{take_more}
use Rattle.clause_arena.specs.Clauses.{live_of}
use Rattle.cube_solve.specs.inner.Reduction.{AreAllExcept}
use Rattle.cube_solve.proofs.ReductionLemmas.{less_push}
use Rattle.cube_solve.proofs.reduce.delete_clauses.Goals as goal

pub loop-number-preserved : goal.loop-number-preserved
loop-number-preserved g c = record {
  ready = c.delete_clause.ensures.ready;
  state = c.delete_clause.ensures.state;
  less = subst (λ xs. AreAllExcept (live_of c.args.arena.now) xs (live_of c.delete_clause.new.arena)) (sym (take_more c.args.numbers.now c.loop-number.number-index 0 c.loop-number-test.true))
      (less_push (live_of c.args.arena.now) (live_of c.loop-number.arena) (live_of c.delete_clause.new.arena) (take c.loop-number.number-index c.args.numbers.now) (get_or c.args.numbers.now c.loop-number.number-index 0)
      c.loop-number.invariant.less c.delete_clause.ensures.less);
}
