use Rattle.std.proofs.Common.{arith}
use Rattle.dimacs.proofs.LiteralLemmas.{distinct_pair}
use Rattle.crate_tests.proofs.watches_propagators.learn_pair.Goals as goal

pub add_clause-requires-clause-distinct : goal.add_clause-requires-clause-distinct
add_clause-requires-clause-distinct g c = distinct_pair c.args.first c.args.second (λ e. omega arith)
