use Rattle.std.proofs.Common.{◌∷◌, [], List, ℕ, Err, ap, sym, subst, ◌∙◌}
use Rattle.std.proofs.lemmas.Result.{err_from_is_err_and}
use Rattle.answers.specs.Pieces.{LinesRead}
use Rattle.answers.specs.inner.Lines.{Leads, Refuses}
use Rattle.answers.proofs.LineLemmas.{at_err}
use Rattle.answers.proofs.PieceLemmas.{end_leads, end_refuses}
use Rattle.answers.proofs.lines.AnswerLines.end_line.Goals as goal

pub returns-in_err-end : goal.returns-in_err-end
returns-in_err-end c =
    let p = err_from_is_err_and c.from_residual-in_err-end.result c.from_residual-in_err-end.ensures.1 in
    at_err c.from_residual-in_err-end.result _ _ c.in_err-end.field-0.0 (p.1 ∙ ap Err p.2)
    (subst (λ (s : LinesRead). Refuses s (10 ∷ []) c.in_err-end.field-0.0) c.self.view_is
    (end_refuses c.self.inside.count c.in_ok-number.number c.self.inside.values c.self.inside.line c.in_ok-number.ensures.number c.end.ensures.open c.in_err-end.field-0.0 c.in_err-end.ensures.read))

pub returns : goal.returns
returns c =
    subst (λ (b : List ℕ). Leads c.args.self.now (10 ∷ []) (record { count = c.in_ok-number.number; naming = c.end.new.values; begun = b })) (sym c.in_ok-end.ensures.next)
    (subst (λ (s : LinesRead). Leads s (10 ∷ []) (record { count = c.in_ok-number.number; naming = c.end.new.values; begun = [] })) c.self.view_is
    (end_leads c.self.inside.count c.in_ok-number.number c.self.inside.values c.self.inside.line c.in_ok-number.ensures.number c.end.ensures.open c.end.new.values c.in_ok-end.ensures.read))
