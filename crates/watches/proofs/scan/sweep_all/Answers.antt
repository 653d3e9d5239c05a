use Rattle.std.proofs.Common.{arith}
use Rattle.watches.specs.inner.ScanLaws.{here_pushed}
use Rattle.watches.proofs.ScanLemmas.{among, Grows-trans}
use Rattle.watches.proofs.scan.sweep_all.Goals as goal

pub sweep-requires : goal.sweep-requires
sweep-requires c = here_pushed c.args.arena.now c.args.trail.now c.loop-number.trail c.args.clauses.now c.requires c.loop-number.invariant.vars

pub returns-in-Some-clause-trail : goal.returns-in-Some-clause-trail
returns-in-Some-clause-trail c = Grows-trans (among c.args.clauses.now c.args.arena.now) c.args.trail.now c.loop-number.trail c.sweep.new.trail c.loop-number.invariant c.sweep.ensures.trail

pub loop-number-preserved : goal.loop-number-preserved
loop-number-preserved c = Grows-trans (among c.args.clauses.now c.args.arena.now) c.args.trail.now c.loop-number.trail c.sweep.new.trail c.loop-number.invariant c.sweep.ensures.trail

pub returns-then-len-before-clause-quiet : goal.returns-then-len-before-clause-quiet
returns-then-len-before-clause-quiet c = c.in-None.ensures.quiet (omega arith)
