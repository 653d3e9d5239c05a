use Rattle.std.proofs.Common.{arith, ◌≡◌, ◌-◌, ◌<◌, ◌∙◌, refl, sym, ap, subst, length, get_or, set, map}
use Rattle.std.proofs.lemmas.List.{get_or_default}
use Rattle.cube_split.specs.inner.Places.{nowhere, place_at, clause_of}
use Rattle.cube_split.specs.declared.places.Place.{Place}
use Rattle.cube_split.proofs.OpenLemmas.{close_some, close_counted}
use Rattle.cube_split.proofs.TurnLemmas.{IsTurning, turning_set, turning_end}
use Rattle.cube_split.proofs.open_clauses.close.Goals as goal

pub withdraw-requires-clause-counted : goal.withdraw-requires-clause-counted
withdraw-requires-clause-counted c = λ w h.
    let here : c.index-place.result.now ≡ place_at c.args.places.now.places.items (c.loop-at.at - 1) = c.index-place.ensures ∙ get_or_default c.args.places.now.places.items (c.loop-at.at - 1) c.index-place.result.now nowhere (omega (arith, c.loop-at.invariant.turning.below, c.loop-at-test.true)) in
    let below : c.index-place.result.now.clause < length c.args.closed.now = rw here (c.requires.indexed.owned (c.loop-at.at - 1) (omega (arith, c.loop-at.invariant.turning.below, c.loop-at-test.true))) in
    let clause : map (λ (e : Place). e.literal) c.clause_places.result.now ≡ clause_of c.args.places.now.places.items c.args.places.now.starts.items c.index-place.result.now.clause = ap (map (λ (e : Place). e.literal)) c.clause_places.ensures in
    close_some (length c.args.closed.now) (clause_of c.args.places.now.places.items c.args.places.now.starts.items) c.loop-at.closed c.loop-at.counts (map (λ (e : Place). e.literal) c.clause_places.result.now) c.index-place.result.now.clause w clause below (omega (arith, c.loop-at.invariant.turning.size)) c.if-closed-clause-eq0.true (c.loop-at.invariant.counted w (omega (arith, c.loop-at.invariant.size)))

pub loop-at-preserved-then-closed-clause-eq0 : goal.loop-at-preserved-then-closed-clause-eq0
loop-at-preserved-then-closed-clause-eq0 c =
    let here : c.index-place.result.now ≡ place_at c.args.places.now.places.items (c.loop-at.at - 1) = c.index-place.ensures ∙ get_or_default c.args.places.now.places.items (c.loop-at.at - 1) c.index-place.result.now nowhere (omega (arith, c.loop-at.invariant.turning.below, c.loop-at-test.true)) in
    let some : 0 < c.loop-at.at = c.loop-at-test.true in
    let below : c.index-place.result.now.clause < length c.args.closed.now = rw here (c.requires.indexed.owned (c.loop-at.at - 1) (omega (arith, c.loop-at.invariant.turning.below))) in
    let stands : get_or c.loop-at.closed (place_at c.args.places.now.places.items (c.loop-at.at - 1)).clause 0 ≡ 0 = rw (← here) c.if-closed-clause-eq0.true in
    let clause : map (λ (e : Place). e.literal) c.clause_places.result.now ≡ clause_of c.args.places.now.places.items c.args.places.now.starts.items c.index-place.result.now.clause = ap (map (λ (e : Place). e.literal)) c.clause_places.ensures in
    record {
      turning = subst (λ (e : Place). IsTurning (length c.args.closed.now) c.args.places.now.places.items c.args.places.now.starts.items c.args.literal 0 c.args.level c.args.closed.now (set c.loop-at.closed e.clause c.args.level) e.before) (sym here)
          (turning_set (length c.args.closed.now) c.args.places.now.places.items c.args.places.now.starts.items c.args.places.now.latest.items c.args.literal 0 c.args.level c.args.closed.now c.loop-at.closed c.loop-at.at c.requires.indexed refl (λ e. absurd (omega (arith, c.requires.level))) some stands c.loop-at.invariant.turning);
      size = omega arith;
      counted = λ w h. close_counted (length c.args.closed.now) (clause_of c.args.places.now.places.items c.args.places.now.starts.items) c.loop-at.closed c.loop-at.counts c.withdraw.new.counts (map (λ (e : Place). e.literal) c.clause_places.result.now) c.index-place.result.now.clause c.args.level w clause below (omega (arith, c.loop-at.invariant.turning.size)) c.if-closed-clause-eq0.true c.requires.level (c.loop-at.invariant.counted w h) (c.withdraw.ensures w (omega (arith, c.loop-at.invariant.size)));
    }

pub returns-clause-turned : goal.returns-clause-turned
returns-clause-turned c = turning_end (length c.args.closed.now) c.args.places.now.places.items c.args.places.now.starts.items c.args.places.now.latest.items c.args.literal 0 c.args.level c.args.closed.now c.loop-at.closed c.loop-at.at c.requires.indexed (omega arith) c.loop-at.invariant.turning
