use Rattle.cube_split.proofs.HeldLemmas.{unmarked_more}
use Rattle.std.proofs.Common.{not, ◌&&◌, take}
use Rattle.dimacs.specs.logic.Literal.{has}
use Rattle.cube_split.specs.inner.Marks.{literals_of}
use Rattle.cube_split.proofs.definitions.unmark_pairs.Goals as goal

pub loop-pair-preserved : goal.loop-pair-preserved
loop-pair-preserved c = λ test h.
    unmarked_more c.unmark.new.marks test c.args.pairs.now c.loop-pair.pair-index c.pair-item.result c.loop-pair-test.true c.pair-item.is
    (c.unmark.ensures (λ x. test x && not (has (literals_of (take c.loop-pair.pair-index c.args.pairs.now)) x)) (c.loop-pair.invariant test h))
