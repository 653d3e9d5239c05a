use Rattle.std.proofs.Common.{[]}
use Rattle.commands.proofs.ShareLemmas.{nothing_begun}
use Rattle.commands.proofs.share.share_whole.Goals as goal

pub returns-in_err-tree-clause-log : goal.returns-in_err-tree-clause-log
returns-in_err-tree-clause-log g c = λ f. ([], f, nothing_begun c.args.formula.now)
