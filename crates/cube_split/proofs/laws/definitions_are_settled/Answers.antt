use Rattle.cube_split.proofs.DefinedLemmas.{all_chosen, few_chosen}
use Rattle.cube_split.proofs.OnceLemmas.{one_choice, one_list}
use Rattle.cube_split.proofs.laws.definitions_are_settled.Goals as goal

pub returns-clause-pairs : goal.returns-clause-pairs
returns-clause-pairs c = one_list

pub returns-clause-variable : goal.returns-clause-variable
returns-clause-variable c = one_choice

pub returns-clause-inside : goal.returns-clause-inside
returns-clause-inside c = all_chosen

pub returns-clause-few : goal.returns-clause-few
returns-clause-few c = few_chosen
