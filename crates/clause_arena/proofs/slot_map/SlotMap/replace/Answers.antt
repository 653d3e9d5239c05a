use Rattle.std.proofs.Common.{subst, IsSome, arith}
use Rattle.clause_arena.proofs.SlotLemmas.{get_near, get_far}
use Rattle.clause_arena.proofs.slot_map.SlotMap.replace.Goals as goal

pub replace_near-requires-clause-live : goal.replace_near-requires-clause-live
replace_near-requires-clause-live c =
    subst (λ o. IsSome o) (get_near c.args.self.now c.args.number c.requires.apart (omega (arith, c.len.ensures, c.if-place-len.true))) c.requires.live

pub replace_far-requires-clause-live : goal.replace_far-requires-clause-live
replace_far-requires-clause-live c =
    subst (λ o. IsSome o) (get_far c.args.self.now c.args.number (omega (arith, c.len.ensures, c.if-place-len.false))) c.requires.live
