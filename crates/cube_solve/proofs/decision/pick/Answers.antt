use Rattle.std.proofs.Common.{arith}
use Rattle.cube_solve.proofs.AssumptionLemmas.{assuming_all}
use Rattle.cube_solve.proofs.HeldLemmas.{held_all}
use Rattle.cube_solve.proofs.decision.pick.Goals as goal

pub returns-then-level-assumed-clause-next : goal.returns-then-level-assumed-clause-next
returns-then-level-assumed-clause-next c =
    c.decide.ensures.next c.args.cube.now (assuming_all c.args.cube.now c.args.trail.now.entries c.args.assumed c.requires.assumed (omega arith))

pub returns-clause-next : goal.returns-clause-next
returns-clause-next c =
    c.decide-2.ensures.next c.args.cube.now (held_all c.loop-held.held c.args.cube.now c.args.trail.now.entries (let f = c.loop-held-test.false in omega arith) c.loop-held.invariant)
