use Rattle.std.proofs.Common.{◌-◌, ◌≤◌}
use Rattle.dimacs.specs.logic.ClauseMap.{ClauseMap}
use Rattle.lrat_check.specs.Logs.{ExtendsBase}
use Rattle.lrat_check.specs.inner.Changes.{NoneNew}
use Rattle.lrat_check.proofs.log.clear_lemmas.Given as goal

abbrev pub invariant-loop-id : goal.invariant-loop-id
invariant-loop-id l = record {
  fewer : NoneNew l.fn.clauses l.clauses;
  rises : l.base ≤ l.fn.top → l.base ≤ l.id;
  behind : (M : ClauseMap) → l.base ≤ l.fn.top → ExtendsBase M l.base l.fn.top l.fn.clauses → ExtendsBase M l.base l.id l.clauses;
}

abbrev pub decreases-loop-id : goal.decreases-loop-id
decreases-loop-id l = l.id - l.base
