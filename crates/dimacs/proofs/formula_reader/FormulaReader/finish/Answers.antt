use Rattle.std.proofs.Common.{ap, subst, sym, ◌∙◌, ◌∷◌, []}
use Rattle.dimacs.specs.inner.Pieces.{IsProgress}
use Rattle.dimacs.specs.text.Pieces.{HasReadWithin, progress_of, read_on}
use Rattle.dimacs.specs.text.Parser.{GivesFormula}
use Rattle.dimacs.proofs.PieceLemmas.{ends_within, ends_failed}
use Rattle.dimacs.proofs.formula_reader.FormulaReader.finish.Goals as goal

pub returns-in-Some : goal.returns-in-Some
returns-in-Some c = λ L bytes has.
    ends_failed L bytes c.in-Some.fault (subst (λ p. HasReadWithin L p bytes) (sym c.self.view_is ∙ ap (λ o. progress_of o c.self.inside.lines c.self.inside.begun.items) c.in-Some.is) has)

pub returns-in-None : goal.returns-in-None
returns-in-None c = λ L bytes has.
    let begun = c.self.inside.begun.items in
    let s = c.self.inside.lines in
    ends_within L s begun bytes c.finish.result (subst (λ o. IsProgress o begun) c.in-None.is c.self.invariant)
    (subst (λ p. HasReadWithin L p bytes) (sym c.self.view_is ∙ ap (λ o. progress_of o s begun) c.in-None.is) has)
    (subst (λ line. GivesFormula c.finish.result (read_on s (line ∷ []))) c.deref.ensures.value c.finish.ensures)
