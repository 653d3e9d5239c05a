use Rattle.std.proofs.Common.{List, ℕ, Option, subst, sym}
use Rattle.dimacs.specs.logic.Cnf.{Cnf}
use Rattle.worker_core.specs.declared.candidate.Candidate.{Candidate}
use Rattle.worker_core.specs.declared.proof_checker.ProofChecker.{ProofChecker}
use Rattle.worker_core.specs.inner.Invariant.{ChecksCandidate, ChecksPrefix}
use Rattle.worker_core.proofs.ProofCheckerLemmas.{all_behind_if}
use Rattle.worker_core.proofs.worker.Worker.catch_up.Goals as goal

pub invariant_of-self : goal.invariant_of-self
invariant_of-self c =
    let F : Cnf = c.self.inside.formula in
    let bytes : List ℕ = c.in-Some.candidate.evidence.bytes in
    let before : ChecksPrefix F c.self.inside.checker bytes = subst (λ (o : Option Candidate). ChecksCandidate F c.self.inside.checker o) c.in-Some.is c.self.invariant.follows in
    let taken : ChecksPrefix F c.take-checker.result bytes = subst (λ (o : Option ProofChecker). ChecksPrefix F o bytes) (sym c.take-checker.ensures.value) before in
    record {
      base_is = c.self.invariant.base_is;
      few = c.self.invariant.few;
      right = c.self.invariant.right;
      work_is = c.self.invariant.work_is;
      candidate_is = c.self.invariant.candidate_is;
      follows = subst (λ (o : Option Candidate). ChecksCandidate F c.caught_up.result o) (sym c.in-Some.is) (all_behind_if F c.caught_up.result bytes (c.caught_up.ensures F taken));
    }
