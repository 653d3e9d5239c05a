use Rattle.commands.specs.Weave.{Refused}
use Rattle.commands.proofs.WeaveLemmas.{noted}
use Rattle.commands.proofs.weave_notes.put_refused.Goals as goal

pub returns : goal.returns
returns c = noted _ _ (Refused c.args.name.now c.args.line) c.in_ok-put_line_of.ensures
