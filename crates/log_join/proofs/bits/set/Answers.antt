use Rattle.log_join.proofs.BitLemmas.{set_here, set_kept}
use Rattle.log_join.proofs.bits.set.Goals as goal

pub returns-clause-here : goal.returns-clause-here
returns-clause-here c = set_here c.args.words.now c.args.place c.requires

pub returns-clause-kept : goal.returns-clause-kept
returns-clause-kept c = set_kept c.args.words.now c.args.place c.requires
