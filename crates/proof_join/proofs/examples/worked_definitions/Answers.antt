use Rattle.proof_join.proofs.DefinitionExamples.{counted, counted_negated, lines, lines_negated, joined}
use Rattle.proof_join.proofs.examples.worked_definitions.Goals as goal

pub returns-clause-counts : goal.returns-clause-counts
returns-clause-counts c = counted

pub returns-clause-counts_negated : goal.returns-clause-counts_negated
returns-clause-counts_negated c = counted_negated

pub returns-clause-lines : goal.returns-clause-lines
returns-clause-lines c = lines

pub returns-clause-lines_negated : goal.returns-clause-lines_negated
returns-clause-lines_negated c = lines_negated

pub returns-clause-joined : goal.returns-clause-joined
returns-clause-joined c = joined
