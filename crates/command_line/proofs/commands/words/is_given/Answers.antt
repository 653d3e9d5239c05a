use Rattle.command_line.proofs.WordLemmas.{read_flag}
use Rattle.command_line.proofs.commands.words.is_given.Goals as goal

pub returns : goal.returns
returns c = read_flag c.args.given.now.rows c.args.name.now c.flag.result c.flag.ensures.none c.flag.ensures.yes c.flag.ensures.no
