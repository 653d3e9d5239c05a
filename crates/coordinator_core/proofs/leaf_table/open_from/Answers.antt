use Rattle.std.proofs.Common.{◌∙◌, sym, arith}
use Rattle.coordinator_core.proofs.Places.{any_default}
use Rattle.coordinator_core.proofs.TableLemmas.{first_is, none_is}
use Rattle.coordinator_core.proofs.leaf_table.open_from.Goals as goal

pub returns-in-Open : goal.returns-in-Open
returns-in-Open c = sym (first_is c.args.states.now c.loop-i.i (omega arith) (any_default c.args.states.now c.loop-i.i _ _ (omega arith) ∙ c.in-Open.is) c.loop-i.invariant)

pub returns : goal.returns
returns c = sym (none_is c.args.states.now c.loop-i.i (omega arith) c.loop-i.invariant)
