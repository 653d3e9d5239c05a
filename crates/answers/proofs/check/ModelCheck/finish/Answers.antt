use Rattle.std.proofs.Common.{IfOk, subst, sym}
use Rattle.answers.specs.Pieces.{HasRead}
use Rattle.answers.specs.Parse.{answer_of}
use Rattle.answers.specs.Reports.{Checking, IsReport}
use Rattle.answers.proofs.ReportLemmas.{if_report}
use Rattle.answers.proofs.check.ModelCheck.finish.Goals as goal

pub returns : goal.returns
returns c = λ bytes has.
    if_report c.args.self.formula bytes c.reported.result
    (subst (λ (s : Checking). IfOk c.reported.result (IsReport s.formula (answer_of bytes))) c.self.view_is
    (c.reported.ensures (answer_of bytes) (c.finish.ensures bytes (subst (λ (s : Checking). HasRead s.progress bytes) (sym c.self.view_is) has))))
