use Rattle.std.proofs.Common.{arith}
use Rattle.lrat_text.proofs.SpellingLemmas.{gives_spells_within, spells_gives_within}
use Rattle.lrat_text.proofs.parser.read_line_within.Goals as goal

pub returns-clause-found : goal.returns-clause-found
returns-clause-found c = gives_spells_within c.args.most c.args.line.now c.read.new.self c.read.result c.read.ensures

pub returns-clause-only : goal.returns-clause-only
returns-clause-only c = spells_gives_within c.args.most c.args.line.now c.read.new.self c.read.result (omega (arith, c.requires)) c.read.ensures
