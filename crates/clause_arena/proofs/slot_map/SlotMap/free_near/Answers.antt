use Rattle.std.proofs.Common.{◌∙◌, ap, refl, None, subst, sym}
use Rattle.clause_arena.specs.inner.Slots.{slots_of, IsApart}
use Rattle.clause_arena.proofs.SlotLemmas.{with_near, apart-set, near-remove}
use Rattle.clause_arena.proofs.slot_map.SlotMap.free_near.Goals as goal

pub returns-clause-after : goal.returns-clause-after
returns-clause-after c =
    ap (λ xs. slots_of (with_near c.args.self.now xs)) c.free.ensures
    ∙ near-remove c.args.self.now c.args.place c.requires.apart c.requires.here None refl

pub returns-clause-apart : goal.returns-clause-apart
returns-clause-apart c =
    subst (λ xs. IsApart (with_near c.args.self.now xs)) (sym c.free.ensures) (apart-set c.args.self.now c.args.place c.requires.apart c.requires.here None)
