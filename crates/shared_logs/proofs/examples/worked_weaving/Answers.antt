use Rattle.shared_logs.proofs.WeavingExample.{all_lines, ends_at, in_order, is_log, is_woven, not_deleted_early, not_imported_early}
use Rattle.shared_logs.proofs.examples.worked_weaving.Goals as goal

pub returns-clause-order : goal.returns-clause-order
returns-clause-order c = in_order

pub returns-clause-all : goal.returns-clause-all
returns-clause-all c = all_lines

pub returns-clause-woven : goal.returns-clause-woven
returns-clause-woven c = is_woven

pub returns-clause-log : goal.returns-clause-log
returns-clause-log c = is_log

pub returns-clause-refutes : goal.returns-clause-refutes
returns-clause-refutes c = ends_at

pub returns-clause-not_sooner : goal.returns-clause-not_sooner
returns-clause-not_sooner c = not_deleted_early

pub returns-clause-no_order : goal.returns-clause-no_order
returns-clause-no_order c = not_imported_early
