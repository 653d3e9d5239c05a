use Rattle.std.proofs.Common.{arith}
use Rattle.std.proofs.lemmas.Result.{IfOk-weaker}
use Rattle.lrat_text.proofs.verbatim.read_without_literals.Goals as goal

pub read_without_literals_within-requires : goal.read_without_literals_within-requires
read_without_literals_within-requires c = let (step, s) = c.requires.spelled in record { spelled = (2000000, omega arith, step, s) }

pub returns-clause-found : goal.returns-clause-found
returns-clause-found c = IfOk-weaker c.read_without_literals_within.result _ _ (λ text h step s. h 2000000 step (omega arith) s) c.read_without_literals_within.ensures.found
