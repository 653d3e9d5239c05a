use Rattle.std.proofs.Common.{take}
use Rattle.commands.specs.inner.Weave.{HasTold}
use Rattle.commands.proofs.weave.put_leaves.Given as goal

abbrev pub invariant-loop-place : goal.invariant-loop-place
invariant-loop-place g l = HasTold l.weaver (take l.place l.tree) l.fn.out.items l.out.items l.status
