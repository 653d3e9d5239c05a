use Rattle.std.proofs.Common.{ap, ◌∙◌}
use Rattle.sealed_links.specs.Numbers.{number4}
use Rattle.sealed_links.specs.Records.{told_length}
use Rattle.sealed_links.proofs.incoming.told.Goals as goal

pub returns : goal.returns
unfolding told_length
returns c = c.number_of4.ensures ∙ ap number4 c.copy_from_slice.ensures.after
