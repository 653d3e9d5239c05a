use Rattle.std.proofs.Common.{refl, Some}
use Rattle.clause_arena.proofs.SlotLemmas.{far-insert, apart-far}
use Rattle.clause_arena.proofs.slot_map.SlotMap.put_far.Goals as goal

pub returns-clause-ok : goal.returns-clause-ok
returns-clause-ok c = far-insert c.args.self.now c.insert.new.self c.args.number c.requires.beyond (Some c.args.slot) c.in_ok-insert.ensures.updates.0 c.args.slot refl

pub returns-clause-apart : goal.returns-clause-apart
returns-clause-apart c = apart-far c.args.self.now c.insert.new.self c.args.number c.requires.beyond (Some c.args.slot) c.in_ok-insert.ensures.updates.0 c.requires.apart
