use Rattle.std.proofs.Common.{refl, None}
use Rattle.clause_arena.proofs.SlotLemmas.{far-remove, apart-far}
use Rattle.clause_arena.proofs.slot_map.SlotMap.take_far.Goals as goal

pub returns-clause-after : goal.returns-clause-after
returns-clause-after c = far-remove c.args.self.now c.remove.new.self c.args.number c.requires.beyond None c.remove.ensures.updates.0 refl

pub returns-clause-apart : goal.returns-clause-apart
returns-clause-apart c = apart-far c.args.self.now c.remove.new.self c.args.number c.requires.beyond None c.remove.ensures.updates.0 c.requires.apart
