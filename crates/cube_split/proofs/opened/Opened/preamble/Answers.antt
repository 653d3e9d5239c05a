use Rattle.std.proofs.Common.{subst, All}
use Rattle.cube_split.specs.Definitions.{IsPairOf}
use Rattle.cube_split.specs.Pairs.{OpenedFormula}
use Rattle.cube_split.proofs.DefinedLemmas.{all_chosen}
use Rattle.cube_split.proofs.opened.Opened.preamble.Goals as goal

pub returns-clause-inside : goal.returns-clause-inside
returns-clause-inside c =
    subst (λ (o : OpenedFormula). All (IsPairOf o.formula.vars) c.self.inside.preamble.pairs) c.self.view_is
    (all_chosen c.self.inside.formula c.self.inside.defs c.self.inside.preamble.pairs c.self.invariant.1.defined)
