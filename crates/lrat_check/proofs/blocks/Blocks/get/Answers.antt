use Rattle.std.proofs.Common.{◌/◌, ◌%◌, ◌∙◌, ap, arith, None, [], get_or}
use Rattle.lrat_check.proofs.BlocksLemmas.{get_block}
use Rattle.lrat_check.proofs.blocks.Blocks.get.Goals as goal

pub returns-in-Some : goal.returns-in-Some
returns-in-Some c =
    c.get-in-Some.ensures
    ∙ ap (λ b. get_or b (c.args.place % 1024) None) (c.in-Some.ensures.lookup.4 (omega arith) [] ∙ ap (λ bs. get_or bs (c.args.place / 1024) []) c.deref.ensures.value)
    ∙ get_block c.self.inside.blocks.items c.self.invariant.0 c.args.place
    ∙ ap (λ xs. get_or xs c.args.place None) c.self.view_is

pub returns-in-None : goal.returns-in-None
returns-in-None c =
    ap (λ b. get_or b (c.args.place % 1024) None) (c.in-None.ensures.lookup.4 (omega arith) [] ∙ ap (λ bs. get_or bs (c.args.place / 1024) []) c.deref.ensures.value)
    ∙ get_block c.self.inside.blocks.items c.self.invariant.0 c.args.place
    ∙ ap (λ xs. get_or xs c.args.place None) c.self.view_is
