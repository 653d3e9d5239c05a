use Rattle.std.proofs.Common.{◌∙◌, ◌-◌, ◌++◌, ap, None, take, replicate, get_or, get_or-set_other}
use Rattle.clause_arena.proofs.BlocksLemmas.{made_whole}
use Rattle.clause_arena.proofs.blocks.set_cell.Goals as goal

pub returns-clause-others : goal.returns-clause-others
returns-clause-others c k ne =
    let cells = c.args.block.now in
    get_or-set_other c.resize.new.self.items c.args.cell k c.of.result None ne
    ∙ ap (λ xs. get_or xs k None) c.in_ok-resize.ensures.items
    ∙ ap (λ o. get_or (take 64 cells.items ++ replicate (64 - cells.len) o) k None) c.free.ensures
    ∙ ap (λ n. get_or (take 64 cells.items ++ replicate (64 - n) None) k None) cells.ok.0
    ∙ made_whole cells.items k c.requires.short
