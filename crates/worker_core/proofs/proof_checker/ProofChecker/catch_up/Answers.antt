use Rattle.std.proofs.Common.{arith}
use Rattle.worker_core.proofs.ProofCheckerLemmas.{all_taken}
use Rattle.worker_core.proofs.proof_checker.ProofChecker.catch_up.Goals as goal

pub takes-preserved : goal.takes-preserved
takes-preserved c = record {
  within = c.in_ok-take_block.ensures.further.1;
  behind = λ F h. c.in_ok-take_block.ensures.behind F (c.takes.invariant.behind F h);
}

pub returns : goal.returns
returns c = (
  omega (arith, c.len.ensures, c.takes-test.false, c.takes.invariant.within),
  λ F h. all_taken F c.takes.checker c.args.bytes.now (omega (arith, c.len.ensures, c.takes-test.false)) (c.takes.invariant.behind F h),
)
