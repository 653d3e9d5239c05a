use Rattle.sealed_links.specs.Numbers.{number4}
use Rattle.sealed_links.proofs.numbers.number_of4.Goals as goal

pub returns : goal.returns
unfolding number4
returns c = c.from_le_bytes.ensures
