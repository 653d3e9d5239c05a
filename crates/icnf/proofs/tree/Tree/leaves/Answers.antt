use Rattle.std.proofs.Common.{arith}
use Rattle.std.proofs.lemmas.List.{length-map}
use Rattle.icnf.specs.Spans.{cube_in}
use Rattle.icnf.proofs.LeavesLemmas.{leaves_some}
use Rattle.icnf.proofs.SpanLemmas.{tree_is}
use Rattle.icnf.proofs.tree.Tree.leaves.Goals as goal

pub returns-clause-above : goal.returns-clause-above
returns-clause-above c = omega (arith, leaves_some c.self.invariant.1, length-map c.self.inside.spans.items (cube_in c.self.inside.literals.items))

pub returns-clause-valid : goal.returns-clause-valid
returns-clause-valid c = tree_is c.self.inside.literals.items c.self.inside.spans.items c.args.self.now c.self.view_is c.self.invariant.0 c.self.invariant.1
