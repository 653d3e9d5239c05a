use Rattle.std.proofs.Common.{◌≡◌, ◌+◌, ◌<◌, ◌^◌, ◌++◌, flat_map, take}
use Rattle.std.specs.List.{All}
use Rattle.leaves.specs.Notes.{missing_line}
use Rattle.leaves.proofs.notes.put_missing.Given as goal

abbrev pub invariant-loop-place : goal.invariant-loop-place
invariant-loop-place l = record {
  out : All (λ p. p + 1 < 2 ^ 64) l.places → l.out.items ≡ l.fn.out.items ++ flat_map missing_line (take l.place-index l.places);
}
