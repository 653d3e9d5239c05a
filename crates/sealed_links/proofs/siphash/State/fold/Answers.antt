use Rattle.std.proofs.Common.{refl}
use Rattle.sealed_links.specs.SipHash.{folded}
use Rattle.sealed_links.proofs.siphash.State.fold.Goals as goal

pub returns : goal.returns
unfolding folded
returns c = refl
