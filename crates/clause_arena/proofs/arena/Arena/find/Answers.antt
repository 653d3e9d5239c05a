use Rattle.std.proofs.Common.{sym, refl}
use Rattle.clause_arena.proofs.ContentLemmas.{found_here, not_found}
use Rattle.clause_arena.proofs.arena.Arena.find.Goals as goal

pub returns-in-Some-clause-some : goal.returns-in-Some-clause-some
returns-in-Some-clause-some c = (
  refl,
  found_here c.self.inside.literals.items c.self.inside.index c.args.self.now c.self.view_is c.self.invariant
      (record { number = c.args.number; place = c.in-Some.slot.place; len = c.in-Some.slot.len }) (sym c.in-Some.ensures),
)

pub returns-in-None-clause-none : goal.returns-in-None-clause-none
returns-in-None-clause-none c = not_found c.self.inside.literals.items c.self.inside.index c.args.self.now c.args.number c.self.view_is (sym c.in-None.ensures)
