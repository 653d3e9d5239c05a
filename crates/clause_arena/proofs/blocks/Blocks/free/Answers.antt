use Rattle.std.proofs.Common.{◌∙◌, ap, arith, None, length, get_or}
use Rattle.clause_arena.proofs.BlocksLemmas.{has_block, has_short, changed_blocks, changed}
use Rattle.clause_arena.proofs.blocks.Blocks.free.Goals as goal

pub index_mut-requires : goal.index_mut-requires
index_mut-requires c = omega (arith, has_block (λ b. b.items) _ _ c.args.place _ c.self.invariant c.self.view_is c.requires)

pub invariant_of-self : goal.invariant_of-self
invariant_of-self c =
    let short = has_short (λ b. b.items) _ _ c.args.place _ c.self.invariant c.self.view_is c.requires c.index_mut.result.now in
    changed_blocks (λ b. b.items) _ _ c.args.place _ c.self.invariant c.self.view_is c.requires c.free_cell.new.block c.index_mut.result.now
    (λ k ne. c.free_cell.ensures.others k ne ∙ ap (λ b. get_or b.items k None) c.index_mut.ensures.value)
    (omega (arith, c.free_cell.ensures.len, ap (λ b. length b.items) c.index_mut.ensures.value, short))

pub returns : goal.returns
returns c =
    changed (λ b. b.items) _ _ c.args.place _ c.self.invariant c.self.view_is c.requires c.free_cell.new.block c.index_mut.result.now
    (λ k ne. c.free_cell.ensures.others k ne ∙ ap (λ b. get_or b.items k None) c.index_mut.ensures.value) None c.free_cell.ensures.here
