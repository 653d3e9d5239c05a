use Rattle.commands.specs.Weave.{ImportFails}
use Rattle.commands.proofs.WeaveLemmas.{noted}
use Rattle.commands.proofs.weave_notes.put_failed.Goals as goal

pub returns : goal.returns
returns c = noted _ _ (ImportFails c.args.name.now c.args.line) c.in_ok-put_line_of.ensures
