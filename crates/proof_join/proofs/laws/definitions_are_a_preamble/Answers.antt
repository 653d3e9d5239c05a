use Rattle.proof_join.proofs.DefinitionLemmas.{definitions_lead, definitions_accept, models_too}
use Rattle.proof_join.proofs.CutLemmas.{cut_back}
use Rattle.proof_join.proofs.laws.definitions_are_a_preamble.Goals as goal

pub returns-clause-preamble : goal.returns-clause-preamble
returns-clause-preamble c = definitions_lead

pub returns-clause-accepted : goal.returns-clause-accepted
returns-clause-accepted c = definitions_accept

pub returns-clause-models : goal.returns-clause-models
returns-clause-models c = models_too

pub returns-clause-cut : goal.returns-clause-cut
returns-clause-cut c = cut_back
