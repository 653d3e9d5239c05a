use Rattle.std.proofs.Common.{inl, inr}
use Rattle.sessions.proofs.proof_side.ProofSide.give.Goals as goal

pub returns-in-Ok-clause-gives : goal.returns-in-Ok-clause-gives
returns-in-Ok-clause-gives c = λ high. elim c.next_line.ensures.moves [
  | inl broken ↦ inl broken
  | inr is ↦ inr (_, c.in-Ok.ensures.took, c.in-Ok.ensures.tally, is)
]
