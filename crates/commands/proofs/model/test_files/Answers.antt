use Rattle.std.proofs.Common.{ℕ, List, [], Result, Ok, Err, inr, subst}
use Rattle.std.proofs.lemmas.Result.{IfOk-weaker}
use Rattle.commands.specs.Known.{HoldsOf}
use Rattle.commands.specs.Model.{TellsAnswer, TestsAnswer}
use Rattle.commands.specs.inner.Model.{IsTesting}
use Rattle.commands.proofs.ModelLemmas.{input_refused}
use Rattle.commands.proofs.OfLemmas.{of_ok, of_opened}
use Rattle.commands.proofs.model.test_files.Goals as goal
use Rattle.dimacs.specs.logic.Cnf.{Cnf}
use Rattle.dimacs.specs.text.Parser.{GivesFormula, parse_within}
use Rattle.dimacs.specs.declared.fault.DimacsFault.{DimacsFault}

pub returns-in-Ok-clause-report : goal.returns-in-Ok-clause-report
returns-in-Ok-clause-report g c =
    let answer = g.D.Disk.holds c.args.disk.now c.args.answer.now in
    let Reads : Result Cnf DimacsFault → List ℕ → Type 0 = λ found text. GivesFormula found (parse_within c.args.limits text) in
    let P : Result Cnf DimacsFault → Type 0 = λ found. HoldsOf (g.D.Disk.holds c.args.disk.now c.args.input.now) (Reads found) in
    let F = c.in-Ok.formula in
    let begun : IsTesting F [] c.of.result = record { formula = c.of.ensures.formula; read = c.of.ensures.read } in
    of_ok (Reads (Ok F)) (λ text r. TestsAnswer c.args.limits text answer r) _ c.test_answer.result
    (subst P c.in-Ok.is (of_opened (Reads c.in_ok-found.found) _ _ c.in_ok-text.ensures.bytes c.in_ok-found.ensures.found))
    (λ text gives. IfOk-weaker c.test_answer.result (TellsAnswer F answer) (λ r. TestsAnswer c.args.limits text answer r) (λ r h. inr (F, gives, h)) (c.test_answer.ensures.tells F begun))

pub returns-clause-report : goal.returns-clause-report
returns-clause-report g c =
    let answer = g.D.Disk.holds c.args.disk.now c.args.answer.now in
    let Reads : Result Cnf DimacsFault → List ℕ → Type 0 = λ found text. GivesFormula found (parse_within c.args.limits text) in
    let P : Result Cnf DimacsFault → Type 0 = λ found. HoldsOf (g.D.Disk.holds c.args.disk.now c.args.input.now) (Reads found) in
    input_refused c.args.limits _ answer c.in-Err.fault c.refused_input.result
    (subst P c.in-Err.is (of_opened (Reads c.in_ok-found.found) _ _ c.in_ok-text.ensures.bytes c.in_ok-found.ensures.found))
    c.refused_input.ensures.text c.refused_input.ensures.memory
