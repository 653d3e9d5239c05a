use Rattle.std.proofs.Common.{refl, Some}
use Rattle.clause_arena.proofs.SlotLemmas.{far-insert}
use Rattle.clause_arena.proofs.slot_map.SlotMap.replace_far.Goals as goal

pub returns-in-Some-clause-after : goal.returns-in-Some-clause-after
returns-in-Some-clause-after c =
    far-insert c.args.self.now (c.get_mut.follows.lender c.args.slot) c.args.number c.requires.beyond (Some c.args.slot)
    ((c.get_mut.follows.holds c.args.slot).3 c.requires.live).0 c.args.slot refl
