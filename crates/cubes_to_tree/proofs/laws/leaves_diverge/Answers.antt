use Rattle.cubes_to_tree.proofs.LawLemmas.{all_leaves_part}
use Rattle.cubes_to_tree.proofs.laws.leaves_diverge.Goals as goal

pub returns : goal.returns
returns c = λ leaves h. all_leaves_part h
