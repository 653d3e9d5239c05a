use Rattle.std.proofs.Common.{refl}
use Rattle.sealed_links.specs.SipHash.{started}
use Rattle.sealed_links.proofs.siphash.State.start.Goals as goal

pub returns : goal.returns
unfolding started
returns c = refl
