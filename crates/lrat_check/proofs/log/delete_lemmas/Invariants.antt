use Rattle.std.proofs.Common.{◌≡◌, ℕ, drop}
use Rattle.dimacs.specs.logic.ClauseMap.{ClauseMap}
use Rattle.lrat_check.specs.StepFaults.{removed}
use Rattle.lrat_check.specs.Logs.{ExtendsBase, log_deletion_fault}
use Rattle.lrat_check.specs.inner.Changes.{NoneNew}
use Rattle.lrat_check.specs.inner.Logs.{IsCutAt}
use Rattle.lrat_check.proofs.log.delete_lemmas.Given as goal

abbrev pub invariant-loop-id : goal.invariant-loop-id
invariant-loop-id l = record {
  fault : log_deletion_fault l.base l.clauses (drop l.id-index l.ids) ≡ log_deletion_fault l.base l.fn.clauses l.fn.ids;
  left : removed l.clauses (drop l.id-index l.ids) ≡ removed l.fn.clauses l.fn.ids;
  fewer : NoneNew l.fn.clauses l.clauses;
  out : l.cut ≡ l.id-index;
  front : IsCutAt l.base l.fn.clauses l.fn.ids l.id-index l.clauses;
  behind : (M : ClauseMap) (top : ℕ) → ExtendsBase M l.base top l.fn.clauses → ExtendsBase M l.base top l.clauses;
}
