use Rattle.cube_split.proofs.PureLemmas.{pure_within}
use Rattle.cube_split.proofs.units.Preamble.own_base.Goals as goal

pub base-requires-clause-units : goal.base-requires-clause-units
base-requires-clause-units c = rw (c.requires.units) (pure_within c.args.formula.now)
