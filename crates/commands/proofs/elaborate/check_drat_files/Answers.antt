use Rattle.std.proofs.Common.{ℕ, List, Result, Ok, inr, subst}
use Rattle.std.proofs.lemmas.Result.{IfOk-weaker}
use Rattle.commands.specs.Elaborate.{Elaborates, TellsElaboration}
use Rattle.commands.specs.Known.{HoldsOf}
use Rattle.commands.proofs.ElaborateLemmas.{input_refused}
use Rattle.commands.proofs.OfLemmas.{of_ok, of_opened}
use Rattle.commands.proofs.elaborate.check_drat_files.Goals as goal
use Rattle.dimacs.specs.logic.Cnf.{Cnf}
use Rattle.dimacs.specs.text.Parser.{GivesFormula, parse_within}
use Rattle.dimacs.specs.declared.fault.DimacsFault.{DimacsFault}

pub returns-in-Ok-clause-tells : goal.returns-in-Ok-clause-tells
returns-in-Ok-clause-tells g c =
    let Reads : Result Cnf DimacsFault → List ℕ → Type 0 = λ found text. GivesFormula found (parse_within c.args.limits text) in
    let P : Result Cnf DimacsFault → Type 0 = λ found. HoldsOf (g.D.Disk.holds c.args.disk.now c.args.input.now) (Reads found) in
    let F = c.in-Ok.formula in
    of_ok (Reads (Ok F)) (λ text r. Elaborates c.args.limits text r) _ c.elaborated.result
    (subst P c.in-Ok.is (of_opened (Reads c.in_ok-found.found) _ _ c.in_ok-text.ensures.bytes c.in_ok-found.ensures.found))
    (λ text gives. IfOk-weaker c.elaborated.result (TellsElaboration F) (λ r. Elaborates c.args.limits text r) (λ r h. inr (F, gives, h)) c.elaborated.ensures.tells)

pub returns-clause-tells : goal.returns-clause-tells
returns-clause-tells g c =
    let Reads : Result Cnf DimacsFault → List ℕ → Type 0 = λ found text. GivesFormula found (parse_within c.args.limits text) in
    let P : Result Cnf DimacsFault → Type 0 = λ found. HoldsOf (g.D.Disk.holds c.args.disk.now c.args.input.now) (Reads found) in
    input_refused c.args.limits _ c.in-Err.fault c.refused_input.result
    (subst P c.in-Err.is (of_opened (Reads c.in_ok-found.found) _ _ c.in_ok-text.ensures.bytes c.in_ok-found.ensures.found))
    c.refused_input.ensures.text c.refused_input.ensures.memory
