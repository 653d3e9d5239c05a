use Rattle.std.proofs.Common.{◌≡◌, ◌++◌, map}
use Rattle.clause_arena.specs.inner.Relocation.{ref_of}
use Rattle.clause_arena.proofs.slot_map.SlotMap.list_far.Given as goal

abbrev pub invariant-loop-number : goal.invariant-loop-number
invariant-loop-number l = l.refs.items ++ map ref_of l.number-iterator ≡ l.initial.refs.items ++ map ref_of l.self.far.entries
