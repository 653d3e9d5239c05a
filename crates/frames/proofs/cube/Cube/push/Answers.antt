use Rattle.std.proofs.Common.{arith, rules, ◌≡◌, true}
use Rattle.frames.specs.Cubes.{takes}
use Rattle.frames.proofs.CubeLemmas.{cube_more}
use Rattle.frames.proofs.cube.Cube.push.Goals as goal

pub invariant_of-self-2 : goal.invariant_of-self-2
invariant_of-self-2 c = rw c.in_ok-push.ensures.items (cube_more c.self.inside.literals.items c.args.literal c.self.invariant (omega (arith, c.number.ensures.above, c.number.ensures.value, c.var.ensures)) (let t : takes c.args.self.now c.args.literal ≡ true = search rules in rw c.self.view_is t))
