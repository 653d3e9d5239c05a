use Rattle.std.proofs.Common.{◌∙◌, ap, arith, Some, None, length, get_or}
use Rattle.std.proofs.lemmas.Result.{on_ok_weaker, on_err_weaker}
use Rattle.clause_arena.proofs.BlocksLemmas.{has_block, has_short, changed_blocks, changed, unchanged}
use Rattle.clause_arena.proofs.blocks.Blocks.set.Goals as goal

pub index_mut-requires : goal.index_mut-requires
index_mut-requires c = omega (arith, has_block (λ b. b.items) _ _ c.args.place _ c.self.invariant c.self.view_is c.requires.here)

pub set_cell-requires-clause-short : goal.set_cell-requires-clause-short
set_cell-requires-clause-short c =
    omega (arith, ap (λ b. length b.items) c.index_mut.ensures.value, has_short (λ b. b.items) _ _ c.args.place _ c.self.invariant c.self.view_is c.requires.here c.index_mut.result.now)

pub invariant_of-self : goal.invariant_of-self
invariant_of-self c =
    changed_blocks (λ b. b.items) _ _ c.args.place _ c.self.invariant c.self.view_is c.requires.here c.set_cell.new.block c.index_mut.result.now
    (λ k ne. c.set_cell.ensures.others k ne ∙ ap (λ b. get_or b.items k None) c.index_mut.ensures.value) c.set_cell.ensures.short

pub returns-clause-ok : goal.returns-clause-ok
returns-clause-ok c = on_ok_weaker c.set_cell.result
    (λ here. changed (λ b. b.items) _ _ c.args.place _ c.self.invariant c.self.view_is c.requires.here c.set_cell.new.block c.index_mut.result.now
    (λ k ne. c.set_cell.ensures.others k ne ∙ ap (λ b. get_or b.items k None) c.index_mut.ensures.value) (Some c.args.slot) here)
    c.set_cell.ensures.here

pub returns-clause-err : goal.returns-clause-err
returns-clause-err c = on_err_weaker c.set_cell.result
    (λ same. unchanged (λ b. b.items) _ _ c.args.place _ c.self.invariant c.self.view_is c.requires.here c.set_cell.new.block c.index_mut.result.now
    (same ∙ ap (λ b. b.items) c.index_mut.ensures.value))
    c.set_cell.ensures.err
