use Rattle.std.proofs.Common.{◌≡◌, ◌+◌, ◌-◌, ◌*◌, ◌++◌, ℕ, length, map}
use Rattle.clause_arena.specs.inner.Relocation.{ref_of}
use Rattle.clause_arena.specs.inner.Slots.{near_entries}
use Rattle.clause_arena.specs.inner.Blocks.{slot_at, slots_from, IsBlocks}
use Rattle.clause_arena.proofs.blocks.Blocks.list.Given as goal

abbrev pub invariant-loop-block : goal.invariant-loop-block
invariant-loop-block l =
    let old = map (λ b. b.items) l.initial.self-inside.blocks.items in
    let new = map (λ b. b.items) l.self-inside.blocks.items in
    record {
      listed : l.refs.items ++ map ref_of (near_entries (l.first + 64 * l.block) (slots_from old (64 * l.block) (64 * (length old - l.block)))) ≡ l.initial.refs.items ++ map ref_of (near_entries l.first (slots_from old 0 (64 * length old)));
      same : (q : ℕ) → slot_at new q ≡ slot_at old q;
      len : l.self-inside.len ≡ l.initial.self-inside.len;
      blocks : length l.self-inside.blocks.items ≡ length l.initial.self-inside.blocks.items;
      is : IsBlocks l.initial.self-inside.len new;
    }
