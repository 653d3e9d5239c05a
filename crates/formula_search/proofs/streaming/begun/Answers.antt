use Rattle.std.proofs.Common.{[], nat_eq}
use Rattle.std.specs.List.{IsDistinct}
use Rattle.std.proofs.lemmas.List.Elements.{All-nil}
use Rattle.dimacs.specs.logic.Literal.{IsWithin}
use Rattle.formula_search.proofs.streaming.begun.Goals as goal

none : IsDistinct nat_eq []
unfolding IsDistinct
none = tt

pub returns-in-Ok-clause-under : goal.returns-in-Ok-clause-under
returns-in-Ok-clause-under g c = c.in-Ok.ensures [] none (All-nil (IsWithin c.args.task.base.now.vars))
