use Rattle.log_join.proofs.ClosedLemmas.{gathered_cubes}
use Rattle.log_join.proofs.SettlingLemmas.{begins_to_end}
use Rattle.log_join.proofs.laws.joiner_states.Goals as goal

pub returns-clause-begins : goal.returns-clause-begins
returns-clause-begins c = begins_to_end

pub returns-clause-leaves : goal.returns-clause-leaves
returns-clause-leaves c = λ F cubes logs g written b. b.stands.leaves

pub returns-clause-cubes : goal.returns-clause-cubes
returns-clause-cubes c = gathered_cubes
