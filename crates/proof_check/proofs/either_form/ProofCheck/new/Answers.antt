use Rattle.dimacs.specs.logic.Limits.{written}
use Rattle.dimacs.proofs.SpellingLemmas.{written_is_large}
use Rattle.proof_check.proofs.either_form.ProofCheck.new.Goals as goal

pub returns-clause-taken : goal.returns-clause-taken
returns-clause-taken c = c.of.ensures.taken written c.args.input.now written_is_large c.read.ensures.exact
