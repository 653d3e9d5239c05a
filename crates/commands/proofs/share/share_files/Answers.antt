use Rattle.std.proofs.Common.{◌∷◌, [], ℕ, List, Result, subst}
use Rattle.commands.specs.Known.{HoldsOf}
use Rattle.commands.specs.Share.{Shares}
use Rattle.commands.proofs.OfLemmas.{of_opened}
use Rattle.commands.proofs.ShareLemmas.{log_of_read, of_fault, of_read}
use Rattle.commands.proofs.share.share_files.Goals as goal
use Rattle.dimacs.specs.logic.Cnf.{Cnf}
use Rattle.dimacs.specs.text.Parser.{GivesFormula, parse_within}
use Rattle.dimacs.specs.declared.fault.DimacsFault.{DimacsFault}

pub returns-in_err-told-in-Ok-clause-log : goal.returns-in_err-told-in-Ok-clause-log
returns-in_err-told-in-Ok-clause-log g c = λ f.
    let x = c.share_whole.ensures.log f in
    let Reads : Result Cnf DimacsFault → List ℕ → Type 0 = λ found text. GivesFormula found (parse_within c.args.limits text) in
    let P : Result Cnf DimacsFault → Type 0 = λ found. HoldsOf (g.D.Disk.holds c.args.disk.now c.args.files.now.input.now) (Reads found) in
    let reads = subst P c.in-Ok.is (of_opened (Reads c.in_ok-found.found) _ _ c.in_ok-text.ensures.bytes c.in_ok-found.ensures.found) in
    (x.0, x.1, log_of_read c.args.limits c.in-Ok.formula _ x.0 reads x.2)

pub returns-in-Ok-clause-log : goal.returns-in-Ok-clause-log
returns-in-Ok-clause-log g c = λ f.
    let x = c.share_whole.ensures.log f in
    let Reads : Result Cnf DimacsFault → List ℕ → Type 0 = λ found text. GivesFormula found (parse_within c.args.limits text) in
    let P : Result Cnf DimacsFault → Type 0 = λ found. HoldsOf (g.D.Disk.holds c.args.disk.now c.args.files.now.input.now) (Reads found) in
    let reads = subst P c.in-Ok.is (of_opened (Reads c.in_ok-found.found) _ _ c.in_ok-text.ensures.bytes c.in_ok-found.ensures.found) in
    (x.0, x.1, log_of_read c.args.limits c.in-Ok.formula _ x.0 reads x.2)

pub returns-in-Ok-clause-shares : goal.returns-in-Ok-clause-shares
returns-in-Ok-clause-shares g c =
    let files = c.args.files.now in
    let Reads : Result Cnf DimacsFault → List ℕ → Type 0 = λ found text. GivesFormula found (parse_within c.args.limits text) in
    let P : Result Cnf DimacsFault → Type 0 = λ found. HoldsOf (g.D.Disk.holds c.args.disk.now files.input.now) (Reads found) in
    let reads = subst P c.in-Ok.is (of_opened (Reads c.in_ok-found.found) _ _ c.in_ok-text.ensures.bytes c.in_ok-found.ensures.found) in
    let Told : Cnf → Type 0 = λ F. g.F.Folder.has_logged c.args.folder.now [] → g.T.Teller.has_told c.args.teller.now []
    → Shares (g.F.Folder.has_logged c.share_whole.new.folder) (g.T.Teller.has_told c.share_whole.new.teller) F ([] ∷ []) files.asked.quiet files.witness c.in_ok-told-in-Ok.told in
    of_read c.args.limits files.asked.quiet Told c.in-Ok.formula _ c.in_ok-told-in-Ok.told reads c.in_ok-told-in-Ok.ensures.shares

pub returns-clause-shares : goal.returns-clause-shares
returns-clause-shares g c =
    let files = c.args.files.now in
    let Reads : Result Cnf DimacsFault → List ℕ → Type 0 = λ found text. GivesFormula found (parse_within c.args.limits text) in
    let P : Result Cnf DimacsFault → Type 0 = λ found. HoldsOf (g.D.Disk.holds c.args.disk.now files.input.now) (Reads found) in
    let reads = subst P c.in-Err.is (of_opened (Reads c.in_ok-found.found) _ _ c.in_ok-text.ensures.bytes c.in_ok-found.ensures.found) in
    let Told : Cnf → Type 0 = λ F. g.F.Folder.has_logged c.args.folder.now [] → g.T.Teller.has_told c.args.teller.now []
    → Shares (g.F.Folder.has_logged c.args.folder.now) (g.T.Teller.has_told c.args.teller.now) F ([] ∷ []) files.asked.quiet files.witness c.hushed.result in
    of_fault c.args.limits files.asked.quiet Told _ c.in-Err.fault c.in_ok-report-in-Err.report c.hushed.result reads c.in_ok-report-in-Err.ensures.text c.in_ok-report-in-Err.ensures.memory c.hushed.ensures
