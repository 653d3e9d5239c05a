use Rattle.std.proofs.Common.{◌∙◌, ◌/◌, ◌%◌, ap, arith, None, set, []}
use Rattle.std.proofs.lemmas.List.{get_or_default}
use Rattle.lrat_check.proofs.BlocksLemmas.{has_block, set_block}
use Rattle.lrat_check.proofs.blocks.Blocks.free.Goals as goal

pub index_mut-requires : goal.index_mut-requires
index_mut-requires c = omega (arith, c.self.inside.blocks.ok, has_block c.self.inside.blocks.items c.self.invariant.0 c.args.place _ c.self.view_is c.requires)

pub returns : goal.returns
returns c =
    set_block c.self.inside.blocks.items c.self.invariant.0 c.args.place _ c.self.view_is c.requires c.free_cell.new.block None
    (c.free_cell.ensures.freed ∙ ap (λ b. set b (c.args.place % 1024) None) (c.index_mut.ensures.value ∙ get_or_default c.self.inside.blocks.items (c.args.place / 1024) c.index_mut.result.now []
    (has_block c.self.inside.blocks.items c.self.invariant.0 c.args.place _ c.self.view_is c.requires)))
