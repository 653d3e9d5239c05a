use Rattle.std.proofs.Common.{◌≡◌, ℕ, drop, IsSome}
use Rattle.std.specs.FinMap.{get}
use Rattle.clause_arena.specs.inner.Relocation.{moved_by}
use Rattle.clause_arena.proofs.index.Index.move_all.Given as goal

abbrev pub invariant-loop-to : goal.invariant-loop-to
invariant-loop-to l = (moved_by l.self (drop l.to-index l.moves) ≡ moved_by l.initial.self l.moves) × ((q : ℕ) → IsSome (get l.initial.self q) → IsSome (get l.self q))
