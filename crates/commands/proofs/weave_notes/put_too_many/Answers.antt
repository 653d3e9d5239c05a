use Rattle.commands.specs.Weave.{TooMany}
use Rattle.commands.proofs.WeaveLemmas.{noted}
use Rattle.commands.proofs.weave_notes.put_too_many.Goals as goal

pub returns : goal.returns
returns c = noted _ _ TooMany c.in_ok-extend_from_slice.ensures.items
