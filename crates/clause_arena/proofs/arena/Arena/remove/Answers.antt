use Rattle.std.proofs.Common.{◌∙◌, ap, subst, sym}
use Rattle.std.specs.FinMap.{remove}
use Rattle.clause_arena.specs.Contents.{contents}
use Rattle.clause_arena.specs.inner.Contents.{IsArena}
use Rattle.clause_arena.proofs.ContentLemmas.{arena-remove, contents-remove}
use Rattle.clause_arena.proofs.arena.Arena.remove.Goals as goal

pub invariant_of-self : goal.invariant_of-self
invariant_of-self c =
    subst (λ index. IsArena c.self.inside.literals.items index) (sym c.remove.ensures)
    (arena-remove c.self.inside.literals.items c.self.inside.index c.args.at.number c.self.invariant)

pub returns : goal.returns
returns c =
    ap (contents c.self.inside.literals.items) c.remove.ensures
    ∙ contents-remove c.self.inside.literals.items c.self.inside.index c.args.at.number
    ∙ ap (λ m. remove m c.args.at.number) c.self.view_is
