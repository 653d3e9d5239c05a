use Rattle.std.proofs.Common.{◌∙◌, sym, arith}
use Rattle.clause_arena.proofs.SlotLemmas.{get_near, get_far}
use Rattle.clause_arena.proofs.slot_map.SlotMap.find.Goals as goal

pub returns-then-place-len : goal.returns-then-place-len
returns-then-place-len c = c.get.ensures ∙ sym (get_near c.args.self.now c.args.number c.requires (omega (arith, c.len.ensures, c.if-place-len.true)))

pub returns-else-place-len : goal.returns-else-place-len
returns-else-place-len c = c.find_far.ensures ∙ sym (get_far c.args.self.now c.args.number (omega (arith, c.len.ensures, c.if-place-len.false)))
