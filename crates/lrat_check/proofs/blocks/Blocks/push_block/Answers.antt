use Rattle.std.proofs.Common.{◌∙◌, ◌++◌, ◌∷◌, [], ap}
use Rattle.lrat_check.specs.inner.Blocks.{free_block, joined}
use Rattle.lrat_check.proofs.BlocksLemmas.{joined-push}
use Rattle.lrat_check.proofs.blocks.Blocks.push_block.Goals as goal

pub returns-clause-ok : goal.returns-clause-ok
returns-clause-ok c =
    ap joined (c.in_ok-push.ensures.items ∙ ap (λ b. c.self.inside.blocks.items ++ b ∷ []) c.new-block.ensures)
    ∙ joined-push c.self.inside.blocks.items free_block
    ∙ ap (λ xs. xs ++ free_block) c.self.view_is
