use Rattle.std.proofs.Common.{◌≡◌, ◌++◌, drop, take, vec_len}
use Rattle.clause_arena.specs.inner.Relocation.{relocated, moves_from}
use Rattle.clause_arena.proofs.compaction.relocate_all.Given as goal

abbrev pub invariant-loop-at : goal.invariant-loop-at
invariant-loop-at l =
    (l.fresh.items ++ relocated l.literals (drop l.at-index l.refs) ≡ relocated l.literals l.refs)
    × (l.moved.items ++ moves_from (vec_len l.fresh) (drop l.at-index l.refs) ≡ l.initial.moved.items ++ moves_from 0 l.refs)
    × (take (vec_len l.initial.moved) l.moved.items ≡ l.initial.moved.items)
