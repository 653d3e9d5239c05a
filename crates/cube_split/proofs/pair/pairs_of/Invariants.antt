use Rattle.std.proofs.Common.{◌≡◌, map, take}
use Rattle.cube_split.specs.inner.Ranks.{pair_ranked}
use Rattle.cube_split.proofs.pair.pairs_of.Given as goal

-- the pairs of the ranks so far
abbrev pub invariant-loop-rank : goal.invariant-loop-rank
invariant-loop-rank l = l.pairs.items ≡ map pair_ranked (take l.rank-index l.ranks)
