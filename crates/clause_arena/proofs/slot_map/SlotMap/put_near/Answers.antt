use Rattle.std.proofs.Common.{◌∙◌, ap, refl, Some}
use Rattle.std.proofs.lemmas.Result.{on_ok_weaker}
use Rattle.clause_arena.specs.inner.Slots.{slots_of}
use Rattle.clause_arena.proofs.SlotLemmas.{with_near, near-insert}
use Rattle.clause_arena.proofs.slot_map.SlotMap.put_near.Goals as goal

pub returns-clause-ok : goal.returns-clause-ok
returns-clause-ok c = on_ok_weaker c.set.result
    (λ e. ap (λ xs. slots_of (with_near c.args.self.now xs)) e
    ∙ near-insert c.args.self.now c.args.place c.requires.apart c.requires.here (Some c.args.slot) c.args.slot refl)
    c.set.ensures.ok
