use Rattle.std.proofs.Common.{arith, ◌≡◌, ◌+◌, ◌*◌, ◌∙◌, Bool, List, length, ap, refl}
use Rattle.std.specs.Vec.{with_items}
use Rattle.std.proofs.lemmas.List.{with_items_is}
use Rattle.dimacs.specs.logic.Literal.{has}
use Rattle.cube_split.specs.inner.Marks.{AreMarked}
use Rattle.cube_split.specs.inner.WalkInvariant.{from_start}
use Rattle.cube_split.specs.declared.pair.Pair.{Pair}
use Rattle.cube_split.proofs.WalkLemmas.{begins}
use Rattle.cube_split.proofs.walk.Walk.begin.Goals as goal

pub returns : goal.returns
returns c =
    let F = c.args.formula.now in
    let o = c.args.preamble.now in
    let rows = c.vars-vars.result + length c.pairs-pairs.result.now + 1 in
    let vars : c.vars-vars.result ≡ F.vars = c.vars-vars.ensures.value in
    let pairs : c.pairs-pairs.result.now ≡ o.pairs = c.pairs-pairs.ensures.value in
    let few : length c.pairs-pairs.result.now ≡ length o.pairs = ap (λ (ps : List Pair). length ps) pairs in
    let items : (with_items c.in_ok-marks.marks c.mark_held.new.marks).items ≡ c.mark_held.new.marks = with_items_is c.in_ok-marks.marks c.mark_held.new.marks (omega (arith, c.mark_held.auto.marks, c.deref_mut.ensures.len)) in
    let units : AreMarked c.deref_mut.result.now (has o.units) = rw (c.deref_mut.ensures.value, ← c.units.ensures.value) c.in_ok-marks.ensures.marked in
    let held : AreMarked c.mark_held.new.marks (has (from_start F o)) = rw (← vars, ← pairs) (c.mark_held.ensures o.units units) in
    let marked : AreMarked (with_items c.in_ok-marks.marks c.mark_held.new.marks).items (has (from_start F o)) = rw items held in
    let lent : AreMarked c.deref.result.now (has (from_start F o)) = rw c.deref.ensures.value marked in
    let lent_again : AreMarked c.deref-2.result.now (has (from_start F o)) = rw c.deref-2.ensures.value marked in
    let size : length (with_items c.in_ok-marks.marks c.mark_held.new.marks).items ≡ 2 * rows =
    ap (λ (bs : List Bool). length bs) items ∙ c.mark_held.auto.marks ∙ ap (λ (bs : List Bool). length bs) c.deref_mut.ensures.value ∙ c.in_ok-marks.ensures.size in
    begins F o rows _ c.vars-vars.ensures.valid (omega (arith, c.pairs-pairs.ensures.limit, few)) (omega (arith, vars, few)) c.in_ok-places.ensures.placed c.in_ok-places.ensures.chained c.in_ok-places.ensures.within c.in_ok-places.ensures.size
    marked size (c.in_ok-closed.ensures (has (from_start F o)) lent)
    (rw c.into_parts-variables.ensures.counts (λ w b. c.in_ok-tally.ensures.counted (has (from_start F o)) lent_again w b)) (rw c.into_parts-variables.ensures.counts c.in_ok-tally.ensures.size)
    (rw c.into_parts-variables.ensures.counts c.into_parts-variables.ensures.listed) refl
