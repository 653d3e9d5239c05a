use Rattle.std.proofs.Common.{Some}
use Rattle.leaves.proofs.SplitLemmas.{sound_of, sound_chosen}
use Rattle.leaves.proofs.leaf_split.variable.Goals as goal

pub returns-in-Some-clause-sound : goal.returns-in-Some-clause-sound
returns-in-Some-clause-sound c = sound_of c.args.formula.now c.args.cube.now (Some c.in-Some.variable) c.named.result c.vars.ensures.valid.within c.named.ensures.some

pub returns-in-None-clause-sound : goal.returns-in-None-clause-sound
returns-in-None-clause-sound c = sound_chosen _ c.args.formula.now c.args.cube.now c.chosen.result c.vars.ensures.valid.within c.chosen.ensures
