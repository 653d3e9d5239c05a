use Rattle.log_join.proofs.JoinLemmas.{lines_close}
use Rattle.log_join.proofs.laws.joined_lines_close.Goals as goal

pub returns : goal.returns
returns c = lines_close
