use Rattle.std.proofs.Common.{◌≡◌, ◌+◌, ◌<◌, ◌^◌, drop, sum_by}
use Rattle.clause_arena.specs.declared.reference.Ref.{Ref}
use Rattle.clause_arena.proofs.compaction.room_for.Given as goal

abbrev pub invariant-loop-at : goal.invariant-loop-at
invariant-loop-at l = sum_by (λ (at : Ref). at.len) l.refs < 2 ^ 64 → l.room + sum_by (λ (at : Ref). at.len) (drop l.at-index l.refs) ≡ sum_by (λ (at : Ref). at.len) l.refs
