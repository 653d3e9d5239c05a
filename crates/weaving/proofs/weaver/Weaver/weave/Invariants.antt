use Rattle.std.proofs.Common.{◌≡◌}
use Rattle.weaving.specs.Woven.{KeepsWoven}
use Rattle.weaving.proofs.weaver.Weaver.weave.Given as goal

abbrev pub invariant-lines : goal.invariant-lines
invariant-lines g l = KeepsWoven l.fn.self.text l.self.text × (l.self.cube ≡ l.fn.self.cube)
