use Rattle.std.proofs.Common.{codes}
use Rattle.command_line.proofs.WordLemmas.{read_flag, read_no_flag}
use Rattle.command_line.proofs.commands.run_words.printing_of.Goals as goal

pub returns : goal.returns
returns c =
    let quiet = c.flag.ensures in
    let silent = c.flag-2.ensures in
    record {
      quiet_is = read_flag c.args.given.now.rows (codes "quiet") c.flag.result quiet.none quiet.yes quiet.no;
      witness_is = read_no_flag c.args.given.now.rows (codes "no-witness") c.flag-2.result silent.none silent.yes silent.no;
    }
