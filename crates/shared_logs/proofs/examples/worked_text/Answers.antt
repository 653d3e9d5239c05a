use Rattle.shared_logs.proofs.TextExample.{third_spelled}
use Rattle.shared_logs.proofs.examples.worked_text.Goals as goal

pub returns : goal.returns
returns c = third_spelled
