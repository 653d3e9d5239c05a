use Rattle.log_join.proofs.JoinLemmas.{gathered_refutes, gathered_text_refutes}
use Rattle.log_join.proofs.laws.joined_logs_refute.Goals as goal

pub returns-clause-steps : goal.returns-clause-steps
returns-clause-steps c = gathered_refutes

pub returns-clause-text : goal.returns-clause-text
returns-clause-text c = gathered_text_refutes
