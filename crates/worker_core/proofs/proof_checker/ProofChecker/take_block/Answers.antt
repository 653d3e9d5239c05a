use Rattle.std.proofs.Common.{◌+◌, ◌∙◌, refl, arith}
use Rattle.worker_core.proofs.ProofCheckerLemmas.{one_block}
use Rattle.worker_core.proofs.proof_checker.ProofChecker.take_block.Goals as goal

pub returns-clause-behind : goal.returns-clause-behind
returns-clause-behind c = λ F h.
    one_block F c.args.self.now (record { stream = c.feed.new.self; taken = c.args.self.now.taken + c.min-count.result }) c.args.bytes.now c.deref.result.now c.min-count.result
    (c.deref.ensures.value ∙ c.in_ok-block.ensures) refl (omega (arith, c.min-count.ensures, c.len.ensures, c.requires)) (c.feed.ensures.taken.history F) h
