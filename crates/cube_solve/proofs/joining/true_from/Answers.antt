use Rattle.std.proofs.Common.{subst}
use Rattle.watches.specs.Trails.{IsTruth}
use Rattle.cube_solve.proofs.JoiningLemmas.{never_true, true_before}
use Rattle.cube_solve.proofs.joining.true_from.Goals as goal

pub returns-in-True-clause-before : goal.returns-in-True-clause-before
returns-in-True-clause-before c = λ k lt p. true_before c.args.trail.now.entries c.entry_of.result k c.args.literal (c.entries.ensures.valid).apart c.entry_of.ensures.member c.entry_of.ensures.literal lt

pub returns-in-False-clause-before : goal.returns-in-False-clause-before
returns-in-False-clause-before c = λ k lt p. never_true c.args.trail.now.entries k c.args.literal (subst (IsTruth c.args.trail.now.entries c.args.literal) c.in-False.is c.value.ensures).0

pub returns-in-Free-clause-before : goal.returns-in-Free-clause-before
returns-in-Free-clause-before c = λ k lt p. never_true c.args.trail.now.entries k c.args.literal (subst (IsTruth c.args.trail.now.entries c.args.literal) c.in-Free.is c.value.ensures).0
