use Rattle.std.proofs.Common.{◌∙◌, ap, subst, sym, length}
use Rattle.std.specs.List.{IsDistinct}
use Rattle.dimacs.specs.logic.Literal.{same}
use Rattle.clause_arena.specs.Contents.{clause_at}
use Rattle.clause_arena.specs.inner.Contents.{slot_of, IsPlaced}
use Rattle.clause_arena.proofs.ContentLemmas.{here, placed_here, distinct_here, length_here}
use Rattle.clause_arena.proofs.arena.Arena.clause.Goals as goal

pub literals_at-requires : goal.literals_at-requires
literals_at-requires c =
    subst (λ ws. IsPlaced ws (slot_of c.args.at)) (sym c.deref.ensures.value)
    (placed_here c.self.inside.literals.items c.self.inside.index c.args.self.now c.self.view_is c.self.invariant c.args.at c.requires.live)

pub returns-clause-literals : goal.returns-clause-literals
returns-clause-literals c = λ C h.
    c.literals_at.ensures ∙ ap (λ ws. clause_at ws (slot_of c.args.at)) c.deref.ensures.value
    ∙ (here c.self.inside.literals.items c.self.inside.index c.args.self.now c.self.view_is c.self.invariant c.args.at C h).literals

pub returns-clause-len : goal.returns-clause-len
returns-clause-len c =
    ap length (c.literals_at.ensures ∙ ap (λ ws. clause_at ws (slot_of c.args.at)) c.deref.ensures.value)
    ∙ length_here c.self.inside.literals.items c.self.inside.index c.args.self.now c.self.view_is c.self.invariant c.args.at c.requires.live

pub returns-clause-distinct : goal.returns-clause-distinct
returns-clause-distinct c =
    subst (λ C. IsDistinct same C) (sym (c.literals_at.ensures ∙ ap (λ ws. clause_at ws (slot_of c.args.at)) c.deref.ensures.value))
    (distinct_here c.self.inside.literals.items c.self.inside.index c.args.self.now c.self.view_is c.self.invariant c.args.at c.requires.live)
