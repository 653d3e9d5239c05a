use Rattle.std.proofs.Common.{sym, subst}
use Rattle.lrat_check.specs.inner.Blocks.{places_of, IsBlock}
use Rattle.lrat_check.proofs.BlocksLemmas.{is_free_block}
use Rattle.lrat_check.proofs.block.Block.new.Goals as goal

pub invariant_of-result : goal.invariant_of-result
invariant_of-result c = subst (λ xs. IsBlock 0 (places_of xs)) (sym c.new.ensures.items) is_free_block
