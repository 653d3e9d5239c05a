use Rattle.commands.specs.Weave.{DoesNotFollow}
use Rattle.commands.proofs.WeaveLemmas.{noted}
use Rattle.commands.proofs.weave_notes.put_wrong.Goals as goal

pub returns : goal.returns
returns c = noted _ _ (DoesNotFollow c.args.name.now c.args.line) c.in_ok-put_line_of.ensures
