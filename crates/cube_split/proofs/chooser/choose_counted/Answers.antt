use Rattle.std.proofs.Common.{arith}
use Rattle.dimacs.specs.logic.Literal.{has}
use Rattle.cube_split.proofs.ChoiceLemmas.{AreTables, choice_is}
use Rattle.cube_split.proofs.chooser.choose_counted.Goals as goal

pub returns-clause-choice : goal.returns-clause-choice
returns-clause-choice c = λ S marked.
    let tables : AreTables c.args.formula.now S c.args.marks.now c.count_clauses.new.self.counts.items = record {
      within = c.vars.ensures.valid.within;
      size = omega (arith, c.requires.size, c.count_clauses.ensures.size);
      room = omega (arith, c.requires.vars, c.count_clauses.ensures.size);
      marked = marked;
      counted = λ w h. c.count_clauses.ensures.counts (has S) marked w (omega (arith, c.count_clauses.ensures.size));
    } in
    choice_is c.args.formula.now S c.args.marks.now c.count_clauses.new.self.counts.items c.greatest-choice.result tables
    (rw (← c.deref.ensures.value) c.greatest-choice.ensures.some) (rw (← c.deref.ensures.value) c.greatest-choice.ensures.none)
