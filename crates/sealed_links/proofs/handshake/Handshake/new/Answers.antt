use Rattle.std.proofs.Common.{refl}
use Rattle.sealed_links.specs.Handshakes.{heard_of}
use Rattle.sealed_links.proofs.handshake.Handshake.new.Goals as goal

pub returns-clause-heard : goal.returns-clause-heard
unfolding heard_of
returns-clause-heard c = refl
