use Rattle.std.proofs.Common.{◌%◌, ◌∙◌, ap, arith, None, get_or}
use Rattle.clause_arena.proofs.BlocksLemmas.{has_block, stands}
use Rattle.clause_arena.proofs.blocks.Blocks.get.Goals as goal

pub index-requires : goal.index-requires
index-requires c = omega (arith, has_block (λ b. b.items) _ _ c.args.place _ c.self.invariant c.self.view_is c.requires)

pub returns-in-Some : goal.returns-in-Some
returns-in-Some c =
    c.slot.ensures ∙ c.in-Some.ensures.lookup.4 (omega arith) None
    ∙ ap (λ xs. get_or xs (c.args.place % 64) None) (c.deref.ensures.value ∙ ap (λ b. b.items) c.index.ensures)
    ∙ stands (λ b. b.items) _ _ c.args.place _ c.self.invariant c.self.view_is c.requires c.index.result.now

pub returns-in-None : goal.returns-in-None
returns-in-None c =
    c.in-None.ensures.lookup.4 (omega arith) None
    ∙ ap (λ xs. get_or xs (c.args.place % 64) None) (c.deref.ensures.value ∙ ap (λ b. b.items) c.index.ensures)
    ∙ stands (λ b. b.items) _ _ c.args.place _ c.self.invariant c.self.view_is c.requires c.index.result.now
