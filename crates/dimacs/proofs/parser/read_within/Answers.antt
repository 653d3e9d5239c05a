use Rattle.dimacs.proofs.SpellingLemmas.{found_spells_within, spelled_found_within}
use Rattle.dimacs.proofs.parser.read_within.Goals as goal

pub returns-clause-found : goal.returns-clause-found
returns-clause-found c = found_spells_within c.args.limits c.args.bytes.now c.read_text.result c.vars.ensures.valid c.read_text.ensures

pub returns-clause-only : goal.returns-clause-only
returns-clause-only c = spelled_found_within c.args.limits c.args.bytes.now c.read_text.result c.read_text.ensures
