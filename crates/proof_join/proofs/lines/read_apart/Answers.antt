use Rattle.std.proofs.Common.{arith}
use Rattle.proof_join.proofs.ApartLemmas.{read_is_apart}
use Rattle.proof_join.proofs.StepLemmas.{read_same}
use Rattle.proof_join.proofs.lines.read_apart.Goals as goal

pub read_without_literals_within-requires : goal.read_without_literals_within-requires
read_without_literals_within-requires c = let (step, s) = c.requires.spelled in record { spelled = (199999999, omega arith, step, s) }

pub returns-in-Some : goal.returns-in-Some
returns-in-Some c = λ step s. read_is_apart c.args.line.now c.in-Some.literals.now c.read_without_literals_within.new.buffer step (rw c.in-Some.is at (c.in_ok-literals.ensures.found 199999999 step (omega arith) s))

pub returns-in_ok-read_line_within-in-None : goal.returns-in_ok-read_line_within-in-None
returns-in_ok-read_line_within-in-None c = λ step s. read_same 199999999 (omega arith) c.args.line.now c.read_line_within.new.buffer step c.in_ok-read_line_within-in-None.ensures.found s
