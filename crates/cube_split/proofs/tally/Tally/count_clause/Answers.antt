use Rattle.std.proofs.Common.{arith, ◌<◌, sym, subst, length, take}
use Rattle.std.proofs.lemmas.List.{take_all}
use Rattle.dimacs.specs.logic.Literal.{Literal, var_of}
use Rattle.cube_split.proofs.CountLemmas.{count_none, count_fits, count_met, count_last}
use Rattle.cube_split.proofs.tally.Tally.count_clause.Goals as goal

pub loop-literal-init : goal.loop-literal-init
loop-literal-init c = record { tally = c.requires.tally; counted = count_none c.args.self.now.counts.items c.args.self.now.last.items c.args.number c.requires.tally.rows }

pub meet-requires-clause-fits : goal.meet-requires-clause-fits
meet-requires-clause-fits c =
    let inside : var_of c.literal-item.result < length c.args.self.now.counts.items = subst (λ (x : Literal). var_of x < length c.args.self.now.counts.items) (sym c.literal-item.is) (c.requires.within c.loop-literal.literal-index c.literal-item.result c.loop-literal-test.true) in
    let below : c.var.result < length c.args.self.now.counts.items = omega (arith, c.var.ensures) in
    λ ne. count_fits c.args.self.now.counts.items c.args.self.now.last.items c.loop-literal.self.counts.items c.loop-literal.self.last.items c.args.number (take c.loop-literal.literal-index c.args.clause.now) c.var.result c.loop-literal.invariant.counted below (c.requires.counted c.var.result below) ne

pub loop-literal-preserved : goal.loop-literal-preserved
loop-literal-preserved c =
    let inside : var_of c.literal-item.result < length c.args.self.now.counts.items = subst (λ (x : Literal). var_of x < length c.args.self.now.counts.items) (sym c.literal-item.is) (c.requires.within c.loop-literal.literal-index c.literal-item.result c.loop-literal-test.true) in
    let below : c.var.result < length c.args.self.now.counts.items = omega (arith, c.var.ensures) in
    record {
      tally = c.meet.ensures.tally;
      counted = count_met c.args.self.now.counts.items c.args.self.now.last.items c.loop-literal.self.counts.items c.loop-literal.self.last.items c.meet.new.self.counts.items c.meet.new.self.last.items c.args.number c.args.clause.now c.loop-literal.literal-index c.literal-item.result c.var.result
          c.loop-literal-test.true c.literal-item.is c.var.ensures below (c.requires.earlier c.var.result below) c.meet.ensures.size (omega (arith, c.meet.ensures.tally.rows, c.meet.ensures.size, c.loop-literal.invariant.tally.rows)) c.meet.ensures.count c.meet.ensures.last c.meet.ensures.others c.loop-literal.invariant.counted;
    }

pub returns-clause-counts : goal.returns-clause-counts
returns-clause-counts c =
    let all = take_all c.loop-literal.literal-index c.args.clause.now c.loop-literal-test.false in
    (rw all at c.loop-literal.invariant.counted).counted

pub returns-clause-last : goal.returns-clause-last
returns-clause-last c = λ w below. count_last c.args.self.now.counts.items c.args.self.now.last.items c.loop-literal.self.counts.items c.loop-literal.self.last.items c.args.number (take c.loop-literal.literal-index c.args.clause.now) w c.loop-literal.invariant.counted below (c.requires.earlier w below)
