use Rattle.std.proofs.Common.{◌∙◌, ap, arith, subst, None, option_map, slice_index_or}
use Rattle.lrat_check.specs.inner.Store.{AreCopied, clause_at}
use Rattle.lrat_check.specs.inner.Blocks.{places_of}
use Rattle.lrat_check.proofs.BlocksLemmas.{copied_cells, copied_block}
use Rattle.lrat_check.proofs.block.Block.copied.Goals as goal
use Rattle.lrat_check.proofs.block.Block.copied.Goals.{In_ok-copy_slots}

copied : (c : In_ok-copy_slots) → AreCopied c.args.literals.now c.self.inside.cells.items c.copy_slots.new.out.items c.copy_slots.new.copies.items
copied c = record {
  len = omega (arith, c.in_ok-copy_slots.ensures.length, c.deref.ensures.len);
  clauses = λ p. c.in_ok-copy_slots.ensures.clauses p ∙ ap (λ xs. option_map (clause_at c.args.literals.now) (slice_index_or xs p None)) c.deref.ensures.value;
  placed = c.in_ok-copy_slots.ensures.placed;
}

pub invariant_of-result : goal.invariant_of-result
invariant_of-result c =
    copied_block c.args.literals.now c.copy_slots.new.out.items c.self.inside.live _ _
    (copied_cells c.args.literals.now c.copy_slots.new.out.items c.self.inside.cells.items c.copy_slots.new.copies.items (copied c)) c.self.invariant

pub returns-clause-copied : goal.returns-clause-copied
returns-clause-copied c =
    subst (λ xs. AreCopied c.args.literals.now xs c.copy_slots.new.out.items (places_of c.copy_slots.new.copies.items)) c.self.view_is
    (copied_cells c.args.literals.now c.copy_slots.new.out.items c.self.inside.cells.items c.copy_slots.new.copies.items (copied c))
