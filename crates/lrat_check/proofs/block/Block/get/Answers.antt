use Rattle.std.proofs.Common.{◌∙◌, ap, arith, None, get_or}
use Rattle.lrat_check.proofs.BlocksLemmas.{at_place}
use Rattle.lrat_check.proofs.block.Block.get.Goals as goal

pub returns-in-None : goal.returns-in-None
returns-in-None c =
    c.in-None.ensures.lookup.4 (omega arith) None
    ∙ ap (λ xs. get_or xs c.args.place None) c.deref.ensures.value
    ∙ at_place c.self.inside.cells.items c.args.place
    ∙ ap (λ xs. get_or xs c.args.place None) c.self.view_is
