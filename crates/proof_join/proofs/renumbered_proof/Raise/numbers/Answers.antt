use Rattle.std.proofs.Common.{arith}
use Rattle.proof_join.proofs.RaisingLemmas.{number_over}
use Rattle.proof_join.proofs.renumbered_proof.Raise.numbers.Goals as goal

pub returns-in_default : goal.returns-in_default
returns-in_default c = number_over c.args.self.above c.args.self.by c.args.numbers.now c.loop-number.number-index (omega arith) c.in_default.ensures
