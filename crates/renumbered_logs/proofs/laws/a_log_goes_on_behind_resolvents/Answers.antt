use Rattle.renumbered_logs.proofs.WholeLemmas.{whole_log, whole_fresh, whole_count, whole_live, whole_rises}
use Rattle.renumbered_logs.proofs.laws.a_log_goes_on_behind_resolvents.Goals as goal

pub returns-clause-log : goal.returns-clause-log
returns-clause-log c = λ F all kept numbers gone before a k steps h avoid. whole_log F all kept numbers gone before a k steps h

pub returns-clause-fresh : goal.returns-clause-fresh
returns-clause-fresh c = whole_fresh

pub returns-clause-count : goal.returns-clause-count
returns-clause-count c = λ F all kept numbers gone before a k steps h avoid. whole_count F all kept numbers gone before a k steps

pub returns-clause-live : goal.returns-clause-live
returns-clause-live c = λ F all kept numbers gone before a k steps h avoid. whole_live F all kept numbers gone before a k steps h

pub returns-clause-rises : goal.returns-clause-rises
returns-clause-rises c = whole_rises
