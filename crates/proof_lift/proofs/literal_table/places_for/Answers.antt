use Rattle.std.proofs.Common.{◌+◌, ◌*◌, ◌<◌, ◌≤◌, length, take, arith, subst}
use Rattle.std.proofs.lemmas.List.Elements.{All-more, All-weaker}
use Rattle.std.proofs.lemmas.List.{take_all}
use Rattle.dimacs.specs.logic.Literal.{var_of}
use Rattle.proof_lift.proofs.literal_table.places_for.Goals as goal
use Rattle.proof_lift.proofs.literal_table.places_for.Goals.{then-places-needed, else-places-needed}

pub loop-l-preserved : goal.loop-l-preserved
loop-l-preserved c =
    let below : c.loop-l.l-index < length c.args.lits.now = omega arith in
    let wider : (c.loop-l.places ≤ c.if-places-needed.places) × (2 * var_of c.l-item.result + 1 < c.if-places-needed.places) = elim c.if-places-needed.branch [
      | then-places-needed w ↦ (omega (arith, w.places-is, w.if-places-needed.true), omega (arith, w.places-is, c.number.ensures.value, c.var.ensures))
      | else-places-needed w ↦ (omega (arith, w.places-is), omega (arith, w.places-is, w.if-places-needed.false, c.number.ensures.value, c.var.ensures))
    ] in
    All-more (λ l. 2 * var_of l + 1 < c.if-places-needed.places) c.args.lits.now c.loop-l.l-index c.l-item.result below
    (All-weaker (λ l. 2 * var_of l + 1 < c.loop-l.places) (λ l. 2 * var_of l + 1 < c.if-places-needed.places) (λ l h. omega (arith, wider.0)) (take c.loop-l.l-index c.args.lits.now) c.loop-l.invariant)
    (subst (λ l. 2 * var_of l + 1 < c.if-places-needed.places) c.l-item.is wider.1)

pub returns : goal.returns
returns c = let past : length c.args.lits.now ≤ c.loop-l.l-index = c.loop-l-test.false in rw take_all at c.loop-l.invariant
