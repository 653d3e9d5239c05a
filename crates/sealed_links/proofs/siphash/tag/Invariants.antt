use Rattle.std.proofs.Common.{◌≡◌}
use Rattle.sealed_links.specs.SipHash.{absorbed, started}
use Rattle.sealed_links.proofs.siphash.tag.Given as goal

-- the state after the first i words
abbrev pub invariant-loop-i : goal.invariant-loop-i
invariant-loop-i l = l.state ≡ absorbed (started l.key) l.i l.text
