use Rattle.std.proofs.Common.{◌∙◌, ap, subst, sym}
use Rattle.clause_arena.specs.Contents.{contents}
use Rattle.clause_arena.specs.inner.Contents.{IsArena}
use Rattle.clause_arena.proofs.ContentLemmas.{contents-empty, arena-empty}
use Rattle.clause_arena.proofs.arena.Arena.new.Goals as goal

pub invariant_of-result : goal.invariant_of-result
invariant_of-result c = subst (λ index. IsArena c.new.result.items index) (sym c.new-2.ensures) (arena-empty c.new.result.items)

pub returns : goal.returns
returns c = ap (contents c.new.result.items) c.new-2.ensures ∙ contents-empty c.new.result.items
