use Rattle.std.proofs.Common.{arith}
use Rattle.cube_split.proofs.HeldLemmas.{defined_by, plain_by}
use Rattle.cube_split.proofs.chooser.choose_marked.Goals as goal

pub returns-in-Some-clause-choice : goal.returns-in-Some-clause-choice
returns-in-Some-clause-choice c = λ S marked.
    defined_by c.args.formula.now c.args.pairs.now S c.args.marks.now c.vars-vars.result c.in-Some.defined c.vars-vars.ensures.value c.requires.pairs marked (omega (arith, c.requires.room, c.requires.size)) c.in-Some.ensures.some

pub returns-clause-choice : goal.returns-clause-choice
returns-clause-choice c = λ S marked.
    plain_by c.args.formula.now c.args.pairs.now S c.args.marks.now c.vars-vars.result c.choose_counted.result c.vars-vars.ensures.value c.requires.pairs marked (omega (arith, c.requires.room, c.requires.size))
    c.in_default.ensures.none (c.choose_counted.ensures.choice S marked)
