use Rattle.std.proofs.Common.{ℕ, ◌+◌, ◌++◌, ◌||◌, ◌&&◌, List, false, not, subst}
use Rattle.dimacs.specs.logic.Literal.{Literal, has}
use Rattle.cube_split.specs.ChoiceWithDefinitions.{held_by}
use Rattle.cube_split.specs.inner.Marks.{AreMarked}
use Rattle.cube_split.proofs.ChoiceLemmas.{marked_both}
use Rattle.cube_split.proofs.HeldLemmas.{all_unmarked, plain_choice}
use Rattle.cube_split.proofs.chooser.choose_in.Goals as goal

pub returns-clause-choice : goal.returns-clause-choice
returns-clause-choice c =
    let units = c.args.units.now in
    let cube = c.args.cube.now in
    let S : List Literal = units ++ cube in
    let all : List Literal = S ++ held_by S (c.args.formula.now.vars + 1) c.args.pairs.now in
    let both : AreMarked c.mark-2.new.marks (has S) = marked_both c.mark-2.new.marks units cube (c.mark-2.ensures (λ l. false || has units l) (c.mark.ensures (λ l. false) c.requires.unmarked)) in
    let marked : AreMarked c.mark_held.new.marks (has all) =
    subst (λ (n : ℕ). AreMarked c.mark_held.new.marks (has (S ++ held_by S (n + 1) c.args.pairs.now))) c.vars-vars.ensures.value (c.mark_held.ensures S both) in
    c.choose_marked-choice.ensures.choice all marked

pub returns-clause-plain : goal.returns-clause-plain
returns-clause-plain c = λ none.
    let units = c.args.units.now in
    let cube = c.args.cube.now in
    let S : List Literal = units ++ cube in
    let all : List Literal = S ++ held_by S (c.args.formula.now.vars + 1) c.args.pairs.now in
    let both : AreMarked c.mark-2.new.marks (has S) = marked_both c.mark-2.new.marks units cube (c.mark-2.ensures (λ l. false || has units l) (c.mark.ensures (λ l. false) c.requires.unmarked)) in
    let marked : AreMarked c.mark_held.new.marks (has all) =
    subst (λ (n : ℕ). AreMarked c.mark_held.new.marks (has (S ++ held_by S (n + 1) c.args.pairs.now))) c.vars-vars.ensures.value (c.mark_held.ensures S both) in
    plain_choice c.args.formula.now units c.args.pairs.now cube c.choose_marked-choice.result none (c.choose_marked-choice.ensures.choice all marked)

pub returns-clause-unmarked : goal.returns-clause-unmarked
returns-clause-unmarked c =
    let units = c.args.units.now in
    let cube = c.args.cube.now in
    let S : List Literal = units ++ cube in
    let all : List Literal = S ++ held_by S (c.args.formula.now.vars + 1) c.args.pairs.now in
    let both : AreMarked c.mark-2.new.marks (has S) = marked_both c.mark-2.new.marks units cube (c.mark-2.ensures (λ l. false || has units l) (c.mark.ensures (λ l. false) c.requires.unmarked)) in
    let marked : AreMarked c.mark_held.new.marks (has all) =
    subst (λ (n : ℕ). AreMarked c.mark_held.new.marks (has (S ++ held_by S (n + 1) c.args.pairs.now))) c.vars-vars.ensures.value (c.mark_held.ensures S both) in
    all_unmarked c.unmark_pairs.new.marks units cube (c.args.formula.now.vars + 1) c.args.pairs.now
    (c.unmark_pairs.ensures (λ l. (has all l && not (has units l)) && not (has cube l)) (c.unmark-2.ensures (λ l. has all l && not (has units l)) (c.unmark.ensures (has all) marked)))
