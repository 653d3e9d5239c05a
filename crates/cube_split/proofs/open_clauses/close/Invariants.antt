use Rattle.std.proofs.Common.{◌≡◌, ℕ, ◌<◌, length, get_or}
use Rattle.cube_split.specs.inner.OpenClauses.{open_count}
use Rattle.cube_split.specs.inner.Places.{clause_of}
use Rattle.cube_split.proofs.TurnLemmas.{IsTurning}
use Rattle.cube_split.proofs.open_clauses.close.Given as goal

-- the places from here on were walked, and the counts are those of the open clauses
abbrev pub invariant-loop-at : goal.invariant-loop-at
invariant-loop-at l = record {
  turning : IsTurning (length l.fn.closed) l.places.places.items l.places.starts.items l.fn.literal 0 l.level l.fn.closed l.closed l.at;
  size : length l.counts ≡ length l.fn.counts;
  counted : (w : ℕ) → w < length l.fn.counts → get_or l.counts w 0 ≡ open_count (length l.fn.closed) (clause_of l.places.places.items l.places.starts.items) l.closed w;
}

abbrev pub decreases-loop-at : goal.decreases-loop-at
decreases-loop-at l = l.at
