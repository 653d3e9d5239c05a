use Rattle.sealed_links.specs.SipHash.{compressed}
use Rattle.sealed_links.proofs.siphash.State.compress.Goals as goal

pub returns : goal.returns
unfolding compressed
returns c = simp (c.round-2.ensures, c.round.ensures)
