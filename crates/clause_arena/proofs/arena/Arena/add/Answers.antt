use Rattle.std.proofs.Common.{◌≡◌, ◌∙◌, ap, subst, sym, refl, length, arith, ◌++◌}
use Rattle.std.specs.FinMap.{insert}
use Rattle.clause_arena.specs.declared.slot.Slot.{Slot}
use Rattle.clause_arena.specs.Contents.{contents}
use Rattle.clause_arena.specs.inner.Contents.{IsArena}
use Rattle.clause_arena.proofs.ContentLemmas.{arena-add, contents-add}
use Rattle.clause_arena.proofs.arena.Arena.add.Goals as goal

pub invariant_of-self-in-Ok : goal.invariant_of-self-in-Ok
invariant_of-self-in-Ok c =
    let new : Slot = c.in-Some.slot in
    let here : new.place ≡ length c.self.inside.literals.items = omega (arith, c.in-Some.ensures.place) in
    let long : new.len ≡ length c.args.literals.now = omega (arith, c.in-Some.ensures.len) in
    subst (λ ws. IsArena ws c.insert.new.self) (sym c.in_ok-extend_from_slice.ensures.items)
    (subst (λ index. IsArena (c.self.inside.literals.items ++ c.args.literals.now) index) (sym c.in-Ok.ensures.ok)
    (arena-add c.self.inside.literals.items c.args.literals.now c.self.inside.index c.self.invariant c.args.number new here long c.requires.distinct))

pub returns-in-Ok-clause-ok : goal.returns-in-Ok-clause-ok
returns-in-Ok-clause-ok c =
    let new : Slot = c.in-Some.slot in
    let here : new.place ≡ length c.self.inside.literals.items = omega (arith, c.in-Some.ensures.place) in
    let long : new.len ≡ length c.args.literals.now = omega (arith, c.in-Some.ensures.len) in (
      refl,
      long,
      ap (λ ws. contents ws c.insert.new.self) c.in_ok-extend_from_slice.ensures.items
          ∙ ap (contents (c.self.inside.literals.items ++ c.args.literals.now)) c.in-Ok.ensures.ok
          ∙ contents-add c.self.inside.literals.items c.args.literals.now c.self.inside.index c.self.invariant c.args.number new here long
          ∙ ap (λ m. insert m c.args.number (new.place, c.args.literals.now)) c.self.view_is,
    )
