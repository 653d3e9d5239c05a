use Rattle.std.proofs.Common.{◌≡◌, ℕ, ◌<◌, ◌≤◌, ◌++◌, List, drop}
use Rattle.cube_split.specs.inner.Ranks.{AreLowest, ranks_from}
use Rattle.cube_split.proofs.frequent_pairs.best_ranks.Given as goal

-- the lowest of the ranks so far; after these stand those of the run that has begun and of the keys that are left
abbrev pub invariant-loop-key : goal.invariant-loop-key
invariant-loop-key l = record {
  count : l.count ≤ l.key-index;
  small : l.last < 72057594037927936;
  seen : (seen : List ℕ) × AreLowest l.limit seen l.best.items × (seen ++ ranks_from l.last l.count (drop l.key-index l.keys) ≡ ranks_from 0 0 l.keys);
}
