use Rattle.cube_split.proofs.ChosenLemmas.{chosen_free, chosen_within}
use Rattle.cube_split.proofs.laws.choices_are_free.Goals as goal

pub returns-clause-free : goal.returns-clause-free
returns-clause-free c = chosen_free

pub returns-clause-within : goal.returns-clause-within
returns-clause-within c = λ F opening cube v limits h. chosen_within F opening cube v limits.within h
