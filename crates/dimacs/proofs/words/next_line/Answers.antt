use Rattle.std.proofs.Common.{refl}
use Rattle.dimacs.proofs.WordLemmas.{lines_none, lines_first}
use Rattle.dimacs.proofs.words.next_line.Goals as goal

pub returns-in-Some-clause-line : goal.returns-in-Some-clause-line
returns-in-Some-clause-line c = lines_first c.args.text.now _ _ c.in-Some.end c.in-Some.ensures refl refl

pub returns-in-None-clause-line : goal.returns-in-None-clause-line
returns-in-None-clause-line c = lines_none c.args.text.now c.in-None.ensures
