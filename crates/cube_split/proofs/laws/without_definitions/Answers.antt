use Rattle.cube_split.proofs.PlainLemmas.{plain_base}
use Rattle.cube_split.proofs.laws.without_definitions.Goals as goal

pub returns : goal.returns
returns c = plain_base
