use Rattle.sealed_links.specs.Numbers.{number8}
use Rattle.sealed_links.proofs.numbers.number_of8.Goals as goal

pub returns : goal.returns
unfolding number8
returns c = c.from_le_bytes.ensures
