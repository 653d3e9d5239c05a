use Rattle.cube_split.proofs.DefinedLemmas.{none_defined}
use Rattle.cube_split.proofs.frequent_pairs.defined_pairs.Goals as goal

pub returns-then-defs-eq0-clause-defined : goal.returns-then-defs-eq0-clause-defined
returns-then-defs-eq0-clause-defined c = none_defined c.args.formula.now c.args.defs c.new.result.items c.if-defs-eq0.true c.new.ensures.items
