use Rattle.std.proofs.Common.{◌≡◌, ◌∙◌, ◌++◌, ◌∷◌, ap, refl, sym, subst, [], ℕ, List, Bool, Option, Some, None, map}
use Rattle.std.specs.Prelude.{◌≢◌, IfOk, Result, codes}
use Rattle.std.proofs.lemmas.Result.{IfOk-weaker, on_ok_weaker}
use Rattle.dimacs.specs.logic.Cnf.{Cnf}
use Rattle.icnf.specs.Leaves.{Cube}
use Rattle.commands.specs.Known.{HoldsOf}
use Rattle.commands.specs.FormulaTree.{OfQuietTree}
use Rattle.commands.specs.Names.{AreTaken, Gone, OfListed, OfNames, lists, names_of, none_gone}
use Rattle.commands.specs.Join.{IsStored, Joins, OneStops, Stops, Takes}
use Rattle.commands.specs.declared.drafts.Target.{Target}
use Rattle.commands.specs.declared.join_run.JoinOptions.{JoinOptions}
use Rattle.commands.specs.inner.Join.{Goes, HasPart, IsAt, IsListed, IsListing, IsSettled}
use Rattle.reports.specs.declared.refusal.Refusal.{Refusal}
use Rattle.reports.specs.declared.report.Report.{Report}
use Rattle.commands.proofs.ListedLemmas.{listed_begun}
use Rattle.commands.proofs.OfLemmas.{of_opened_ok}
use Rattle.commands.proofs.file_names.take_listed.Goals as goal

pub returns-clause-goes : goal.returns-clause-goes
returns-clause-goes g c = λ F cubes at.
    let run = c.args.run in
    let disk = run.joined.disk.now in
    let options = run.sheet.options in
    let new = c.take_list-found.new.listing.run in
    let T = Takes g.D.Disk.holds g.D.Drafts.apart disk options F cubes in
    let S = Stops g.D.Disk.holds g.D.Drafts.apart disk options F cubes in
    let At : Gone → Type 0 = λ t. IsAt g.D.Drafts.made F cubes t [] t.count run.joined.join run.joined.part run.sheet in
    let Then : Gone → Type 0 = λ t. IsAt g.D.Drafts.made F cubes t [] t.count new.joined.join new.joined.part new.sheet in
    let P : List ℕ → Type 0 = λ begun. IsListed At T S [] begun None in
    of_opened_ok (λ list found. Goes Then (AreTaken T (names_of list) none_gone) (OneStops T S (names_of list) none_gone) found) _ _ c.take_list-found.result c.in-Ok.ensures.bytes
    (c.take_list-found.ensures.goes disk options F cubes (record { disk_is = refl; options_is = refl; listed = subst P (sym c.new-begun.ensures.items) (listed_begun At T S at) }))

pub returns-clause-options : goal.returns-clause-options
returns-clause-options g c = λ F cubes at.
    let run = c.args.run in
    let disk = run.joined.disk.now in
    let options = run.sheet.options in
    let T = Takes g.D.Disk.holds g.D.Drafts.apart disk options F cubes in
    let S = Stops g.D.Disk.holds g.D.Drafts.apart disk options F cubes in
    let At : Gone → Type 0 = λ t. IsAt g.D.Drafts.made F cubes t [] t.count run.joined.join run.joined.part run.sheet in
    let P : List ℕ → Type 0 = λ begun. IsListed At T S [] begun None in
    c.take_list-found.ensures.options disk options F cubes (record { disk_is = refl; options_is = refl; listed = subst P (sym c.new-begun.ensures.items) (listed_begun At T S at) })
