use Rattle.std.proofs.Common.{◌-◌, ◌≤◌, length}
use Rattle.dimacs.specs.logic.Cnf.{Cnf}
use Rattle.worker_core.specs.inner.Invariant.{HasTakenPrefix}
use Rattle.worker_core.proofs.proof_checker.ProofChecker.catch_up.Given as goal

abbrev pub invariant-takes : goal.invariant-takes
invariant-takes l = record {
  within : l.checker.taken ≤ length l.bytes;
  behind : (F : Cnf) → HasTakenPrefix F l.fn.self l.bytes → HasTakenPrefix F l.checker l.bytes;
}

abbrev pub decreases-takes : goal.decreases-takes
decreases-takes l = length l.bytes - l.checker.taken
