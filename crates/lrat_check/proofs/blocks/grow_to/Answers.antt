use Rattle.std.proofs.Common.{◌∙◌, None, ap, arith, length, length-append, get_or}
use Rattle.lrat_check.specs.inner.Blocks.{free_block}
use Rattle.lrat_check.proofs.BlocksLemmas.{length-free_block, free_behind}
use Rattle.lrat_check.proofs.blocks.grow_to.Goals as goal

pub returns-in_ok-push_block-clause-longer : goal.returns-in_ok-push_block-clause-longer
returns-in_ok-push_block-clause-longer c =
    omega (arith, c.requires, ap length c.in_ok-push_block.ensures.ok, length-append c.args.blocks.now free_block, length-free_block)

pub returns-in_ok-push_block-clause-same : goal.returns-in_ok-push_block-clause-same
returns-in_ok-push_block-clause-same c q = ap (λ xs. get_or xs q None) c.in_ok-push_block.ensures.ok ∙ free_behind c.args.blocks.now q
