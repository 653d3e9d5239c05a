use Rattle.std.proofs.Common.{[], Err, ap, subst, ◌∙◌}
use Rattle.std.proofs.lemmas.Result.{err_from_is_err_and}
use Rattle.dimacs.specs.text.Rows.{Fails}
use Rattle.answers.specs.Pieces.{GivesNamed, LinesRead, read_on}
use Rattle.answers.specs.Parse.{no_memory}
use Rattle.answers.proofs.PieceLemmas.{given_err, text_ends, text_refused}
use Rattle.answers.proofs.lines.AnswerLines.finish.Goals as goal

pub returns-in_err-end : goal.returns-in_err-end
returns-in_err-end c =
    let p = err_from_is_err_and c.from_residual-in_err-end.result c.from_residual-in_err-end.ensures.1 in
    given_err c.from_residual-in_err-end.result _ c.in_err-end.field-0.0 (p.1 ∙ ap Err p.2)
    (subst (λ (s : LinesRead). Fails no_memory c.in_err-end.field-0.0 (read_on s [])) c.self.view_is
    (text_refused c.self.inside.count c.in_ok-number.number c.self.inside.values c.self.inside.line c.in_ok-number.ensures.number c.end.ensures.open c.in_err-end.field-0.0 c.in_err-end.ensures.read))

pub returns : goal.returns
returns c =
    subst (λ (s : LinesRead). GivesNamed c.finish.result (read_on s [])) c.self.view_is
    (text_ends c.self.inside.count c.in_ok-number.number c.self.inside.values c.self.inside.line c.in_ok-number.ensures.number c.end.ensures.open c.end.new.values c.finish.result c.in_ok-end.ensures.read c.finish.ensures)
