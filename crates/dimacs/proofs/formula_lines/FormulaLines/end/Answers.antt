use Rattle.std.proofs.Common.{[], None, Err, ap, subst, sym, ◌∙◌}
use Rattle.dimacs.specs.text.Pieces.{read_on}
use Rattle.dimacs.specs.text.Parser.{GivesFormula}
use Rattle.dimacs.proofs.PieceLemmas.{body_ends, front_ends, lines_read}
use Rattle.dimacs.proofs.formula_lines.FormulaLines.end.Goals as goal

pub returns-in-Some : goal.returns-in-Some
returns-in-Some c =
    subst (λ s. GivesFormula c.finish.result (read_on s [])) (ap (lines_read c.self.inside.limits c.self.inside.count) (sym c.in-Some.is) ∙ c.self.view_is) (body_ends c.self.inside.limits c.self.inside.count c.in-Some.body c.finish.result c.finish.ensures)

pub returns-in-None : goal.returns-in-None
returns-in-None c =
    subst (λ s. GivesFormula (Err c.no_header.result) (read_on s [])) (ap (lines_read c.self.inside.limits c.self.inside.count) (sym c.in-None.is) ∙ c.self.view_is)
    (subst (λ f. GivesFormula (Err f) (read_on (lines_read c.self.inside.limits c.self.inside.count None) [])) (sym c.no_header.ensures) (front_ends c.self.inside.limits c.self.inside.count))
