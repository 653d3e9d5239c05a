use Rattle.proof_join.proofs.ExampleLemmas.{two_lines_raised, with_groups_raised, with_deletions_raised, over_nothing_raised}
use Rattle.proof_join.proofs.examples.worked_renumberings.Goals as goal

pub returns-clause-two_lines : goal.returns-clause-two_lines
returns-clause-two_lines c = two_lines_raised

pub returns-clause-with_groups : goal.returns-clause-with_groups
returns-clause-with_groups c = with_groups_raised

pub returns-clause-with_deletions : goal.returns-clause-with_deletions
returns-clause-with_deletions c = with_deletions_raised

pub returns-clause-over_nothing : goal.returns-clause-over_nothing
returns-clause-over_nothing c = over_nothing_raised
