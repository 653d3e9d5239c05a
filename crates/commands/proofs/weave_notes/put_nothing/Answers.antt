use Rattle.commands.specs.Weave.{ClosesNothing}
use Rattle.commands.proofs.WeaveLemmas.{noted}
use Rattle.commands.proofs.weave_notes.put_nothing.Goals as goal

pub returns : goal.returns
returns c = noted _ _ ClosesNothing c.in_ok-extend_from_slice.ensures.items
