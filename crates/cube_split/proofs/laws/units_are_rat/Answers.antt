use Rattle.cube_split.proofs.RatLemmas.{unit_is_rat}
use Rattle.cube_split.proofs.laws.units_are_rat.Goals as goal

pub returns : goal.returns
returns c = unit_is_rat
