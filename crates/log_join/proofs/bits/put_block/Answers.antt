use Rattle.std.proofs.Common.{inl, inr, arith}
use Rattle.log_join.proofs.BitLemmas.{has_beside, has_put}
use Rattle.log_join.proofs.bits.put_block.Goals as goal

pub returns-clause-here : goal.returns-clause-here
returns-clause-here c = has_put c.loop-i.words c.args.part.now c.args.block (λ j low. c.loop-i.invariant.here j (omega arith))

pub returns-clause-others : goal.returns-clause-others
returns-clause-others c = has_beside c.args.words.now c.loop-i.words c.args.block (λ j far. c.loop-i.invariant.others j (elim far [
  | inl before ↦ inl before
  | inr behind ↦ inr (omega arith)
]))
