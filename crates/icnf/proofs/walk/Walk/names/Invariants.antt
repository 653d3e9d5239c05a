use Rattle.std.proofs.Common.{◌≡◌, false, take}
use Rattle.icnf.specs.Walk.{names}
use Rattle.icnf.proofs.walk.Walk.names.Given as goal

abbrev pub invariant-loop-place : goal.invariant-loop-place
invariant-loop-place l = names (take l.place-index l.place-items) l.var ≡ false
