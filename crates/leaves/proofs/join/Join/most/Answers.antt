use Rattle.std.proofs.Common.{◌∙◌}
use Rattle.leaves.proofs.JoinLemmas.{most_is}
use Rattle.leaves.proofs.join.Join.most.Goals as goal

pub returns-clause-value : goal.returns-clause-value
returns-clause-value c = λ F cubes files bytes written h. c.most.ensures.value ∙ most_is F cubes files bytes written c.args.self.now h
