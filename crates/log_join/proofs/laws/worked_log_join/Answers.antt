use Rattle.log_join.proofs.ExampleLemmas.{right, open_left, refused, left_kept, closed, text}
use Rattle.log_join.proofs.laws.worked_log_join.Goals as goal

pub returns-clause-right : goal.returns-clause-right
returns-clause-right c = right

pub returns-clause-open : goal.returns-clause-open
returns-clause-open c = open_left

pub returns-clause-refused : goal.returns-clause-refused
returns-clause-refused c = refused

pub returns-clause-left : goal.returns-clause-left
returns-clause-left c = left_kept

pub returns-clause-closed : goal.returns-clause-closed
returns-clause-closed c = closed

pub returns-clause-text : goal.returns-clause-text
returns-clause-text c = text
