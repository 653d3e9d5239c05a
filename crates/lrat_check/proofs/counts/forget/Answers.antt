use Rattle.std.proofs.Common.{◌+◌, ◌-◌, ◌<◌, ◌≤◌, ◌^◌, ◌∙◌, sym, ap, subst, length, slice_index, set, take, arith, rules}
use Rattle.dimacs.specs.logic.Literal.{Literal, index_of}
use Rattle.dimacs.proofs.Members.{Contains-has}
use Rattle.lrat_check.specs.inner.LiteralTable.{AreRaised}
use Rattle.lrat_check.proofs.Counting.{place_below, lowered_first, raised_again}
use Rattle.lrat_check.proofs.counts.forget.Goals.{then-counts-place-ge-MET, else-counts-place-ge-MET}
use Rattle.lrat_check.proofs.counts.forget.Goals as goal

pub loop-l-preserved : goal.loop-l-preserved
loop-l-preserved c =
    let l : Literal = c.l-item.result in
    let below : c.loop-l.l-index < length c.args.lits.now = omega arith in
    let room : index_of l < length c.loop-l.counts = omega (arith, place_below c.args.lits.now c.loop-l.l-index l (length c.args.counts.now) below c.l-item.is c.requires.fits, c.loop-l.auto.counts) in
    let met : 2 ^ 63 ≤ slice_index c.args.counts.now (index_of l) = c.requires.met l (Contains-has c.args.lits.now l (c.loop-l.l-index, below, sym c.l-item.is)) in
    let fits : slice_index c.args.counts.now (index_of l) < 2 ^ 64 = search rules in
    let at = c.index-place.ensures.value in
    let was = ap (λ p. slice_index c.loop-l.counts p) at in
    elim c.if-counts-place-ge-MET.branch [
      | then-counts-place-ge-MET w ↦
          subst (λ xs. AreRaised (take (c.loop-l.l-index + 1) c.args.lits.now) (2 ^ 63) xs c.args.counts.now)
          (sym (w.counts-is ∙ ap (λ p. set c.loop-l.counts p (slice_index c.loop-l.counts p - 2 ^ 63)) at))
          (lowered_first c.args.lits.now c.loop-l.l-index l below c.l-item.is (2 ^ 63) c.loop-l.counts c.args.counts.now c.loop-l.invariant room (omega arith) (omega arith))
      | else-counts-place-ge-MET w ↦
          subst (λ xs. AreRaised (take (c.loop-l.l-index + 1) c.args.lits.now) (2 ^ 63) xs c.args.counts.now) (sym w.counts-is)
          (raised_again c.args.lits.now c.loop-l.l-index l below c.l-item.is (2 ^ 63) c.loop-l.counts c.args.counts.now c.loop-l.invariant (omega arith))
    ]
