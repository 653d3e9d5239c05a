use Rattle.std.proofs.Common.{◌≡◌, ◌+◌, ◌++◌, map, drop}
use Rattle.clause_arena.specs.inner.Relocation.{ref_of}
use Rattle.clause_arena.specs.inner.Slots.{near_entries}
use Rattle.clause_arena.proofs.blocks.list_cells.Given as goal

abbrev pub invariant-loop-i : goal.invariant-loop-i
invariant-loop-i l =
    l.refs.items ++ map ref_of (near_entries (l.first + l.i) (drop l.i l.cells)) ≡ l.initial.refs.items ++ map ref_of (near_entries l.first l.cells)
