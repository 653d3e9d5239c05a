use Rattle.std.proofs.Common.{◌∙◌, ◌/◌, ◌%◌, ap, arith, Some, set, []}
use Rattle.std.proofs.lemmas.List.{get_or_default}
use Rattle.std.proofs.lemmas.Result.{on_ok_weaker}
use Rattle.lrat_check.proofs.BlocksLemmas.{has_block, set_block}
use Rattle.lrat_check.proofs.blocks.Blocks.set.Goals as goal

pub index_mut-requires : goal.index_mut-requires
index_mut-requires c = omega (arith, c.self.inside.blocks.ok, has_block c.self.inside.blocks.items c.self.invariant.0 c.args.place _ c.self.view_is c.requires.here)

pub returns-clause-ok : goal.returns-clause-ok
returns-clause-ok c = on_ok_weaker c.set_cell.result
    (λ e. set_block c.self.inside.blocks.items c.self.invariant.0 c.args.place _ c.self.view_is c.requires.here c.set_cell.new.block (Some c.args.slot)
    (e ∙ ap (λ b. set b (c.args.place % 1024) (Some c.args.slot)) (c.index_mut.ensures.value ∙ get_or_default c.self.inside.blocks.items (c.args.place / 1024) c.index_mut.result.now []
    (has_block c.self.inside.blocks.items c.self.invariant.0 c.args.place _ c.self.view_is c.requires.here))))
    c.set_cell.ensures.ok
