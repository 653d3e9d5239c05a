use Rattle.std.proofs.Common.{◌≡◌, ◌∷◌, [], false, ℕ, List, Result, subst}
use Rattle.commands.specs.Known.{HoldsOf}
use Rattle.commands.specs.Weave.{Weaves}
use Rattle.commands.specs.Written.{Keeps}
use Rattle.commands.proofs.OfLemmas.{of_opened}
use Rattle.commands.proofs.WeaveLemmas.{of_input, of_input_fault}
use Rattle.commands.proofs.weave.weave_files.Goals as goal
use Rattle.dimacs.specs.logic.Cnf.{Cnf}
use Rattle.dimacs.specs.text.Parser.{GivesFormula, parse_within}
use Rattle.dimacs.specs.declared.fault.DimacsFault.{DimacsFault}

pub returns-in-Ok-clause-weaves : goal.returns-in-Ok-clause-weaves
returns-in-Ok-clause-weaves g c =
    let files = c.args.files.now in
    let old = c.args.disk.now in
    let new = c.weave_whole.new.disk in
    let Reads : Result Cnf DimacsFault → List ℕ → Type 0 = λ found text. GivesFormula found (parse_within c.args.limits text) in
    let P : Result Cnf DimacsFault → Type 0 = λ found. HoldsOf (g.D.Disk.holds old files.input.now) (Reads found) in
    let reads = subst P c.in-Ok.is (of_opened (Reads c.in_ok-found.found) _ _ c.in_ok-text.ensures.bytes c.in_ok-found.ensures.found) in
    of_input c.args.limits (λ F. Weaves (Keeps g.D.Drafts.kept old new files.log.binary files.log.path.now) (new ≡ old) F ([] ∷ []) false c.in_ok-report-in-Ok.report) c.in-Ok.formula _ c.in_ok-report-in-Ok.report reads
    c.in_ok-report-in-Ok.ensures.weaves

pub returns-clause-weaves : goal.returns-clause-weaves
returns-clause-weaves g c =
    let files = c.args.files.now in
    let old = c.args.disk.now in
    let Reads : Result Cnf DimacsFault → List ℕ → Type 0 = λ found text. GivesFormula found (parse_within c.args.limits text) in
    let P : Result Cnf DimacsFault → Type 0 = λ found. HoldsOf (g.D.Disk.holds old files.input.now) (Reads found) in
    let reads = subst P c.in-Err.is (of_opened (Reads c.in_ok-found.found) _ _ c.in_ok-text.ensures.bytes c.in_ok-found.ensures.found) in
    of_input_fault c.args.limits (λ F. Weaves (Keeps g.D.Drafts.kept old old files.log.binary files.log.path.now) (old ≡ old) F ([] ∷ []) false c.in_ok-refused-in-Err.refused) _ c.in-Err.fault
    c.in_ok-refused-in-Err.refused reads c.in_ok-refused-in-Err.ensures.text c.in_ok-refused-in-Err.ensures.memory
