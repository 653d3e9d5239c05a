use Rattle.std.proofs.Common.{ap, subst, sym, ◌∙◌}
use Rattle.answers.specs.Pieces.{HasRead, progress_of}
use Rattle.answers.proofs.PieceLemmas.{ends_failed}
use Rattle.answers.proofs.reader.AnswerReader.finish.Goals as goal

pub returns-in-Some : goal.returns-in-Some
returns-in-Some c = λ bytes has.
    ends_failed bytes c.in-Some.fault (subst (λ p. HasRead p bytes) (sym c.self.view_is ∙ ap (λ o. progress_of o c.self.inside.lines) c.in-Some.is) has)
