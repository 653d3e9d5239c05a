use Rattle.dimacs.proofs.ExampleLemmas.{signs, full}
use Rattle.dimacs.proofs.examples.worked_answers.Goals as goal

pub returns-clause-signs : goal.returns-clause-signs
returns-clause-signs c = signs

pub returns-clause-full : goal.returns-clause-full
returns-clause-full c = full
