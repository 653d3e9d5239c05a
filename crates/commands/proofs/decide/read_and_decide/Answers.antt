use Rattle.std.proofs.Common.{ℕ, List, Result, Ok, inr, subst}
use Rattle.std.proofs.lemmas.Result.{IfOk-weaker}
use Rattle.commands.specs.Decide.{DecidesInput}
use Rattle.commands.specs.Join.{IsStored}
use Rattle.commands.specs.Known.{HoldsOf}
use Rattle.commands.proofs.DecideLemmas.{fault_told}
use Rattle.commands.proofs.OfLemmas.{of_ok, of_opened}
use Rattle.commands.proofs.decide.read_and_decide.Goals as goal
use Rattle.dimacs.specs.logic.Cnf.{Cnf}
use Rattle.dimacs.specs.text.Parser.{GivesFormula, parse_within}
use Rattle.dimacs.specs.declared.fault.DimacsFault.{DimacsFault}
use Rattle.formula_search.specs.Decisions.{DecidesTo}

pub returns-in-Ok-clause-tells : goal.returns-in-Ok-clause-tells
returns-in-Ok-clause-tells g c =
    let L = c.args.limits in
    let d = c.args.files.now in
    let Reads : Result Cnf DimacsFault → List ℕ → Type 0 = λ found text. GivesFormula found (parse_within L text) in
    let P : Result Cnf DimacsFault → Type 0 = λ found. HoldsOf (g.D.Disk.holds c.args.disk.now d.input.now) (Reads found) in
    let F = c.in-Ok.formula in
    let has = IsStored g.D.Drafts.kept c.args.disk.now c.told_apart.new.disk d.proof in
    of_ok (Reads (Ok F)) (λ text r. DecidesInput L d has text r) _ c.told_apart.result
    (subst P c.in-Ok.is (of_opened (Reads c.in_ok-found.found) _ _ c.in_ok-text.ensures.bytes c.in_ok-found.ensures.found))
    (λ text gives. IfOk-weaker c.told_apart.result (DecidesTo F d.asked has) (λ r. DecidesInput L d has text r) (λ r h. inr (F, gives, h)) c.told_apart.ensures.tells)

pub returns-clause-tells : goal.returns-clause-tells
returns-clause-tells g c =
    let L = c.args.limits in
    let d = c.args.files.now in
    let Reads : Result Cnf DimacsFault → List ℕ → Type 0 = λ found text. GivesFormula found (parse_within L text) in
    let P : Result Cnf DimacsFault → Type 0 = λ found. HoldsOf (g.D.Disk.holds c.args.disk.now d.input.now) (Reads found) in
    fault_told L d _ _ c.in-Err.fault c.in_ok-report-in-Err.report c.hushed.result
    (subst P c.in-Err.is (of_opened (Reads c.in_ok-found.found) _ _ c.in_ok-text.ensures.bytes c.in_ok-found.ensures.found))
    c.in_ok-report-in-Err.ensures.text c.in_ok-report-in-Err.ensures.memory c.hushed.ensures
