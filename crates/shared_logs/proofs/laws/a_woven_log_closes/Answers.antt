use Rattle.shared_logs.proofs.ClosingLemmas.{whole_cells_close, woven_logs_close}
use Rattle.shared_logs.proofs.OrderLemmas.{cells_can_be_woven}
use Rattle.shared_logs.proofs.WovenLemmas.{woven_logs_are_logs}
use Rattle.shared_logs.proofs.laws.a_woven_log_closes.Goals as goal

pub returns-clause-log : goal.returns-clause-log
returns-clause-log c = woven_logs_are_logs

pub returns-clause-part : goal.returns-clause-part
returns-clause-part c = woven_logs_close

pub returns-clause-whole : goal.returns-clause-whole
returns-clause-whole c = whole_cells_close

pub returns-clause-some : goal.returns-clause-some
returns-clause-some c = cells_can_be_woven
