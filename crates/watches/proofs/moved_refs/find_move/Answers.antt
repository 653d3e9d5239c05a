use Rattle.std.proofs.Common.{length, ◌+◌, ◌-◌, ◌/◌, sym, ◌∙◌, arith}
use Rattle.std.proofs.lemmas.Bool.{eqb-false}
use Rattle.watches.proofs.ScanLemmas.{none}
use Rattle.watches.proofs.MovedRefsLemmas.{before_all, below_middle, above_middle, found_move}
use Rattle.watches.proofs.moved_refs.find_move.Goals as goal

pub returns-then-here-number-clause-moved : goal.returns-then-here-number-clause-moved
returns-then-here-number-clause-moved c =
    let b = c.loop-low.invariant.in_range in
    found_move c.args.moves.now (c.loop-low.low + (c.loop-low.high - c.loop-low.low) / 2) c.args.number (none, none) (omega arith) (sym c.number-here.ensures ∙ c.if-here-number.true)

pub loop-low-preserved-then-here-number-2 : goal.loop-low-preserved-then-here-number-2
loop-low-preserved-then-here-number-2 c =
    let b = c.loop-low.invariant.in_range in
    record {
      in_range = b;
      below = below_middle c.args.moves.now (c.loop-low.low + (c.loop-low.high - c.loop-low.low) / 2) c.args.number (none, none) (omega arith) (omega (arith, c.number-here.ensures));
      above = c.loop-low.invariant.above;
    }

pub loop-low-preserved : goal.loop-low-preserved
loop-low-preserved c =
    let b = c.loop-low.invariant.in_range in
    record {
      in_range = omega arith;
      below = c.loop-low.invariant.below;
      above = above_middle c.args.moves.now (c.loop-low.low + (c.loop-low.high - c.loop-low.low) / 2) c.args.number (none, none) (omega arith) (omega (arith, c.number-here.ensures));
    }

pub returns-then-number-clause-unmoved : goal.returns-then-number-clause-unmoved
returns-then-number-clause-unmoved c =
    let some = eqb-false (length c.args.moves.now) 0 (sym c.if-is_empty.ensures) in
    before_all c.args.moves.now c.args.number (none, none) (omega (arith, some)) (omega (arith, c.if-number.true, c.number.ensures))
