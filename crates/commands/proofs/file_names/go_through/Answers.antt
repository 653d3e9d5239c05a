use Rattle.std.proofs.Common.{◌≡◌, ◌∙◌, ◌++◌, ◌∷◌, ap, refl, sym, subst, [], ℕ, List, Bool, Option, Some, None, map}
use Rattle.std.specs.Prelude.{◌≢◌, IfOk, Result, codes}
use Rattle.std.proofs.lemmas.Result.{IfOk-weaker, on_ok_weaker}
use Rattle.dimacs.specs.logic.Cnf.{Cnf}
use Rattle.icnf.specs.Leaves.{Cube}
use Rattle.commands.specs.Known.{HoldsOf}
use Rattle.commands.specs.FormulaTree.{OfQuietTree}
use Rattle.commands.specs.Names.{AreTaken, Gone, OfListed, OfNames, lists, names_of, none_gone}
use Rattle.commands.specs.Join.{IsStored, Joins, OneStops, Stops, Takes}
use Rattle.commands.specs.declared.drafts.Target.{Target}
use Rattle.commands.specs.declared.join_run.JoinOptions.{JoinOptions}
use Rattle.commands.specs.inner.Join.{Goes, HasPart, IsAt, IsListed, IsListing, IsSettled}
use Rattle.reports.specs.declared.refusal.Refusal.{Refusal}
use Rattle.reports.specs.declared.report.Report.{Report}
use Rattle.commands.proofs.file_names.go_through.Goals as goal

pub returns-then-is_list-clause-goes : goal.returns-then-is_list-clause-goes
returns-then-is_list-clause-goes g c = λ F cubes at.
    let run = c.args.run in
    let new = c.take_listed.result.run in
    let holds : List ℕ → Option (List ℕ) = g.D.Disk.holds run.joined.disk.now in
    let names = map (λ n. n.now) c.args.names.now in
    let T = Takes g.D.Disk.holds g.D.Drafts.apart run.joined.disk.now run.sheet.options F cubes in
    let S = Stops g.D.Disk.holds g.D.Drafts.apart run.joined.disk.now run.sheet.options F cubes in
    let Then : Gone → Type 0 = λ t. IsAt g.D.Drafts.made F cubes t [] t.count new.joined.join new.joined.part new.sheet in
    let P : Bool → Type 0 = λ b. IfOk c.take_listed.result.found (λ found. OfListed b holds names (λ all. Goes Then (AreTaken T all none_gone) (OneStops T S all none_gone) found)) in
    subst P (sym c.if-is_list.true ∙ c.is_list.ensures) (c.take_listed.ensures.goes F cubes at)

pub returns-clause-goes : goal.returns-clause-goes
returns-clause-goes g c = λ F cubes at.
    let run = c.args.run in
    let new = c.take_all-found.new.run in
    let holds : List ℕ → Option (List ℕ) = g.D.Disk.holds run.joined.disk.now in
    let names = map (λ n. n.now) c.args.names.now in
    let T = Takes g.D.Disk.holds g.D.Drafts.apart run.joined.disk.now run.sheet.options F cubes in
    let S = Stops g.D.Disk.holds g.D.Drafts.apart run.joined.disk.now run.sheet.options F cubes in
    let Then : Gone → Type 0 = λ t. IsAt g.D.Drafts.made F cubes t [] t.count new.joined.join new.joined.part new.sheet in
    let P : Bool → Type 0 = λ b. IfOk c.take_all-found.result (λ found. OfListed b holds names (λ all. Goes Then (AreTaken T all none_gone) (OneStops T S all none_gone) found)) in
    subst P (sym c.if-is_list.false ∙ c.is_list.ensures) (c.take_all-found.ensures.goes F cubes none_gone at)

pub returns-then-is_list-clause-options : goal.returns-then-is_list-clause-options
returns-then-is_list-clause-options g c = λ F cubes at. c.take_listed.ensures.options F cubes at

pub returns-clause-options : goal.returns-clause-options
returns-clause-options g c = λ F cubes at. on_ok_weaker c.take_all-found.result (λ same. same.1) c.take_all-found.ensures.same
