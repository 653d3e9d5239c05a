use Rattle.sealed_links.specs.Numbers.{bytes8}
use Rattle.sealed_links.proofs.numbers.bytes_of8.Goals as goal

pub returns : goal.returns
unfolding bytes8
returns c = c.to_le_bytes.ensures
