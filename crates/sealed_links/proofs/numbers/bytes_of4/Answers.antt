use Rattle.sealed_links.specs.Numbers.{bytes4}
use Rattle.sealed_links.proofs.numbers.bytes_of4.Goals as goal

pub returns : goal.returns
unfolding bytes4
returns c = c.to_le_bytes.ensures
