use Rattle.sealed_links.specs.SipHash.{finished}
use Rattle.sealed_links.proofs.siphash.State.finish.Goals as goal

pub returns : goal.returns
unfolding finished
returns c = simp (c.joined.ensures, c.fold.ensures, c.mix-2.ensures, c.fold-first.ensures, c.mix.ensures)
