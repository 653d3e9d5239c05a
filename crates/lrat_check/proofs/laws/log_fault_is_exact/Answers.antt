use Rattle.lrat_check.proofs.Behind.{begun_stands}
use Rattle.lrat_check.proofs.LogTexts.{checked_log, log_checked}
use Rattle.lrat_check.proofs.Logs.{line_takes, takes_line}
use Rattle.lrat_check.proofs.laws.log_fault_is_exact.Goals as goal

pub returns-clause-line : goal.returns-clause-line
returns-clause-line c = λ old new line. ((λ few e. line_takes old new line few e), (λ h. takes_line old new line h))

pub returns-clause-text : goal.returns-clause-text
returns-clause-text c = λ F text. ((λ e. checked_log F text e), (λ small h. log_checked F text small h))

pub returns-clause-begun : goal.returns-clause-begun
returns-clause-begun c = begun_stands
