use Rattle.std.proofs.Common.{arith}
use Rattle.lrat_text.proofs.CountingLemmas.{few_additions, few_lemmas_within}
use Rattle.lrat_text.proofs.laws.fresh_logs_are_short.Goals as goal

pub returns-clause-steps : goal.returns-clause-steps
returns-clause-steps c = few_additions

pub returns-clause-text : goal.returns-clause-text
returns-clause-text c = few_lemmas_within 2000000 (omega arith)
