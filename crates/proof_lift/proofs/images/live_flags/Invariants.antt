use Rattle.std.proofs.Common.{◌≡◌, ◌∷◌, true, false, replicate}
use Rattle.proof_lift.proofs.images.live_flags.Given as goal

abbrev pub invariant-loop-i : goal.invariant-loop-i
invariant-loop-i l = l.live.items ≡ false ∷ replicate l._i true
