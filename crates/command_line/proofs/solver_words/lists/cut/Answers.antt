use Rattle.std.proofs.lemmas.Str.Pattern.{split_once_first}
use Rattle.command_line.proofs.SolverLemmas.{cut_parts}
use Rattle.command_line.proofs.solver_words.lists.cut.Goals as goal

pub returns-clause-parts : goal.returns-clause-parts
returns-clause-parts c =
    cut_parts c.args.mark c.args.text.now c.split_once.result
    (split_once_first c.args.mark c.args.text.now c.split_once.result c.split_once.ensures.cases c.requires)
