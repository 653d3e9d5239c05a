use Rattle.std.proofs.Common.{ap, ◌∙◌}
use Rattle.sealed_links.specs.SipHash.{mixed, rounded}
use Rattle.sealed_links.proofs.siphash.State.mix.Goals as goal

pub returns : goal.returns
unfolding mixed
returns c = c.round-4.ensures ∙ ap rounded (c.round-3.ensures ∙ ap rounded (c.round-2.ensures ∙ ap rounded c.round.ensures))
