use Rattle.std.proofs.Common.{arith}
use Rattle.command_line.proofs.SolverLemmas.{no_value}
use Rattle.command_line.proofs.solver_words.asked.name_and_value.Goals as goal

pub returns-in-None-clause-value : goal.returns-in-None-clause-value
returns-in-None-clause-value c = no_value c.args.word.now (c.in-None.ensures.byte (omega arith) (λ w o h. h))
