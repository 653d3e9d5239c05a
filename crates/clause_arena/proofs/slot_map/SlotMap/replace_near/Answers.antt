use Rattle.std.proofs.Common.{◌∙◌, ap, refl, Some, subst, sym}
use Rattle.clause_arena.specs.inner.Slots.{slots_of, IsApart}
use Rattle.clause_arena.proofs.SlotLemmas.{with_near, apart-set, near-insert}
use Rattle.clause_arena.proofs.slot_map.SlotMap.replace_near.Goals as goal

pub returns-clause-after : goal.returns-clause-after
returns-clause-after c =
    ap (λ xs. slots_of (with_near c.args.self.now xs)) c.replace.ensures
    ∙ near-insert c.args.self.now c.args.place c.requires.apart c.requires.here (Some c.args.slot) c.args.slot refl

pub returns-clause-apart : goal.returns-clause-apart
returns-clause-apart c =
    subst (λ xs. IsApart (with_near c.args.self.now xs)) (sym c.replace.ensures) (apart-set c.args.self.now c.args.place c.requires.apart c.requires.here (Some c.args.slot))
