use Rattle.std.proofs.Common.{◌≡◌, ◌<◌, ℕ, None, option_map, slice_index_or, vec_len}
use Rattle.lrat_check.specs.inner.Store.{clause_at, ArePlaced, Keeps}
use Rattle.lrat_check.proofs.compaction.copy_slots.Given as goal

abbrev pub invariant-loop-i : goal.invariant-loop-i
invariant-loop-i l = record {
  len : vec_len l.copies ≡ l.i;
  clauses : (p : ℕ) → p < l.i → option_map (clause_at l.out.items) (slice_index_or l.copies.items p None) ≡ option_map (clause_at l.literals) (slice_index_or l.slots p None);
  placed : ArePlaced l.out.items l.copies.items;
  kept : Keeps l.initial.out.items l.out.items;
}
