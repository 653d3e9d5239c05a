use Rattle.cube_split.proofs.TallyLemmas.{met_listed}
use Rattle.cube_split.proofs.tally.Tally.variables.Goals as goal

pub returns : goal.returns
returns c = rw c.deref.ensures.value (met_listed c.args.self.now.counts.items c.args.self.now.last.items c.args.self.now.met.items c.args.self.now.len c.requires)
