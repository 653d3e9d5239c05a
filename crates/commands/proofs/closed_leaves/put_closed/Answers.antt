use Rattle.std.specs.Prelude.{if◌then◌else◌}
use Rattle.std.proofs.Common.{◌≡◌, ◌≤◌, ◌+◌, ◌∙◌, ℕ, refl, sym, subst, arith}
use Rattle.commands.specs.inner.Receipts.{IsAt}
use Rattle.commands.proofs.ClosedLemmas.{passed_low, told_all, told_next, told_none}
use Rattle.commands.proofs.closed_leaves.put_closed.Goals as goal

pub loop-place-init : goal.loop-place-init
loop-place-init c = record { low = omega arith; told = λ leaves e n. told_none c.args.missing.now leaves c.args.out.now.items e }

pub position_after-at-requires : goal.position_after-at-requires
position_after-at-requires c = let low = c.loop-place.invariant.low in let here = c.loop-place-test.true in let few = c.requires in omega (arith, low, here, few)

pub loop-place-preserved : goal.loop-place-preserved
loop-place-preserved c = record {
  low = passed_low c.is_next-is_open.result c.loop-place.at c.loop-place.place c.position_after-at.result c.position_after-at.ensures c.loop-place.invariant.low;
  told = λ leaves e n.
      let here = c.loop-place-test.true in
      subst (λ (m : ℕ). IsAt c.args.missing.now leaves c.args.out.now.items (c.loop-place.place + 1) m c.put_if_closed.new.out.items) (sym c.position_after-at.ensures)
      (told_next c.args.missing.now leaves c.args.out.now.items c.loop-place.place c.loop-place.at c.loop-place.out.items c.put_if_closed.new.out.items c.is_next-is_open.result
      (c.loop-place.invariant.told leaves e n) (omega (arith, here, n)) c.is_next-is_open.ensures c.in_ok-put_if_closed.ensures);
}

pub returns : goal.returns
returns c = λ leaves e n.
    let past = c.loop-place-test.false in
    let upto = c.loop-place.auto.place-end in
    told_all c.args.missing.now leaves c.args.out.now.items c.loop-place.place c.loop-place.at c.loop-place.out.items (c.loop-place.invariant.told leaves e n) (omega (arith, past, upto, n))
