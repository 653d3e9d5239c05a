use Rattle.commands.specs.Weave.{Changed}
use Rattle.commands.proofs.WeaveLemmas.{noted}
use Rattle.commands.proofs.weave_notes.put_changed.Goals as goal

pub returns : goal.returns
returns c = noted _ _ Changed c.in_ok-extend_from_slice.ensures.items
