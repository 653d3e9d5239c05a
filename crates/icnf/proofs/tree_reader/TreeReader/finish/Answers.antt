use Rattle.std.proofs.Common.{◌∷◌, [], ap, subst, sym, ◌∙◌}
use Rattle.dimacs.specs.logic.Cnf.{IsFormula}
use Rattle.dimacs.specs.logic.Limits.{AreNoMore, Limits, large}
use Rattle.icnf.specs.Pieces.{HasReadWithin, TellsTree, progress_of, read_behind}
use Rattle.icnf.specs.Parser.{parse_within}
use Rattle.icnf.proofs.PieceLemmas.{ends_failed, ends_within, told_only, told_spells, told_within}
use Rattle.icnf.proofs.tree_reader.TreeReader.finish.Goals as goal

pub returns-in-Some-clause-exact : goal.returns-in-Some-clause-exact
returns-in-Some-clause-exact c = λ L F bytes has.
    let l = c.self.inside.lines in
    ends_failed L F bytes c.in-Some.fault (subst (λ p. HasReadWithin L F p bytes) (sym c.self.view_is ∙ ap (λ o. progress_of o l.limits l.formula l.count l.body c.self.inside.begun) c.in-Some.is) has)

pub returns-in-Some-clause-only : goal.returns-in-Some-clause-only
returns-in-Some-clause-only c = λ L F bytes has expected tells. told_only F (parse_within L bytes) _ expected (returns-in-Some-clause-exact c L F bytes has) tells

pub returns-in-None-clause-exact : goal.returns-in-None-clause-exact
returns-in-None-clause-exact c = λ L F bytes has.
    let l = c.self.inside.lines in
    let begun = c.self.inside.begun in
    ends_within L F bytes l begun c.finish.result c.as_slice.ensures.open
    (subst (λ p. HasReadWithin L F p bytes) (sym c.self.view_is ∙ ap (λ o. progress_of o l.limits l.formula l.count l.body begun) c.in-None.is) has)
    (λ s is. subst (λ line. TellsTree l.formula (read_behind l.limits l.count s (line ∷ [])) c.finish.result) c.as_slice.ensures.value (c.finish.ensures s is))

pub returns-in-None-clause-only : goal.returns-in-None-clause-only
returns-in-None-clause-only c = λ L F bytes has expected tells. told_only F (parse_within L bytes) c.finish.result expected (returns-in-None-clause-exact c L F bytes has) tells

pub returns-in-None-clause-found : goal.returns-in-None-clause-found
returns-in-None-clause-found c = λ L F bytes has.
    let l = c.self.inside.lines in
    let now = subst (λ p. HasReadWithin L F p bytes) (sym c.self.view_is ∙ ap (λ o. progress_of o l.limits l.formula l.count l.body c.self.inside.begun) c.in-None.is) has in
    told_spells L F bytes c.finish.result (subst (λ (M : Limits). AreNoMore M large) now.0 c.vars-2.ensures.valid) (returns-in-None-clause-exact c L F bytes has)

pub returns-in-None-clause-within : goal.returns-in-None-clause-within
returns-in-None-clause-within c = λ L F bytes has.
    let l = c.self.inside.lines in
    let now = subst (λ p. HasReadWithin L F p bytes) (sym c.self.view_is ∙ ap (λ o. progress_of o l.limits l.formula l.count l.body c.self.inside.begun) c.in-None.is) has in
    told_within L F bytes c.finish.result (subst (λ (M : Limits). AreNoMore M large) now.0 c.vars-2.ensures.valid) (subst IsFormula now.1 c.vars.ensures.valid) (returns-in-None-clause-exact c L F bytes has)
