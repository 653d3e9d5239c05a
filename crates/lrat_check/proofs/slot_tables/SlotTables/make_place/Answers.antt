use Rattle.std.proofs.Common.{◌∙◌, ap, subst, sym, arith, length, length-append}
use Rattle.lrat_check.specs.inner.Blocks.{free_block}
use Rattle.lrat_check.specs.inner.Store.{tables_of, live_of, IsStore}
use Rattle.lrat_check.proofs.Slots.{with_near}
use Rattle.lrat_check.proofs.BlocksLemmas.{length-free_block, live_of-free, store-free}
use Rattle.lrat_check.proofs.slot_tables.SlotTables.make_place.Goals as goal

pub loop-self-smaller : goal.loop-self-smaller
loop-self-smaller c =
    omega (
      arith,
      c.len.ensures,
      c.loop-self-test.true,
      ap length c.in_ok-push_block.ensures.ok,
      length-append c.loop-self.self.near free_block,
      length-free_block,
    )

pub loop-self-preserved : goal.loop-self-preserved
loop-self-preserved c =
    let t = tables_of c.loop-self.self in
    let i = c.loop-self.invariant in
    let more = c.in_ok-push_block.ensures.ok in
    record {
      literals = i.literals;
      far = i.far;
      same = ap (λ xs. live_of (with_near t xs)) more ∙ live_of-free t ∙ i.same;
      store = subst (λ xs. IsStore (with_near t xs)) (sym more) (store-free t (i.far ∙ c.requires.all_near) i.store);
    }
