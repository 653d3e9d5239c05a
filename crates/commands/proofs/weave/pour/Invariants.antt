use Rattle.std.proofs.Common.{◌≡◌, []}
use Rattle.dimacs.specs.logic.Cnf.{Cnf}
use Rattle.weaving.specs.Woven.{HasWoven}
use Rattle.commands.specs.inner.Weave.{IsPouring}
use Rattle.commands.proofs.weave.pour.Given as goal

abbrev pub invariant-blocks-2 : goal.invariant-blocks-2
invariant-blocks-2 g l =
    ((F : Cnf) → HasWoven F [] l.fn.weaver.text → IsPouring g.D.Drafts.made F l.fn.part l.part l.weaver) × (l.weaver.cube ≡ l.fn.weaver.cube)
