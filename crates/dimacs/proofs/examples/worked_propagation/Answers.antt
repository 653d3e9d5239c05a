use Rattle.dimacs.proofs.ExampleLemmas.{first, last, none_at_0, none_at_3, lemma}
use Rattle.dimacs.proofs.examples.worked_propagation.Goals as goal

pub returns-clause-first : goal.returns-clause-first
returns-clause-first c = first

pub returns-clause-last : goal.returns-clause-last
returns-clause-last c = last

pub returns-clause-outside : goal.returns-clause-outside
returns-clause-outside c = (none_at_0, none_at_3)

pub returns-clause-lemma : goal.returns-clause-lemma
returns-clause-lemma c = lemma
