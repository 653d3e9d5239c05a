use Rattle.std.proofs.Common.{◌≡◌, ◌∙◌, ◌++◌, ◌∷◌, ap, refl, sym, subst, [], ℕ, List, Bool, Option, Some, None, length, eqb}
use Rattle.std.specs.Prelude.{IfOk, codes}
use Rattle.std.proofs.lemmas.Result.{IfOk-weaker}
use Rattle.dimacs.specs.logic.Cnf.{Cnf}
use Rattle.icnf.specs.Leaves.{Cube}
use Rattle.commands.specs.Known.{HoldsOf}
use Rattle.commands.specs.Names.{AreTaken, Gone, OfListed, OfNames, names_of, none_gone}
use Rattle.commands.specs.Join.{Joins, OneStops, Stops, Takes}
use Rattle.commands.specs.declared.join_run.JoinOptions.{JoinOptions}
use Rattle.commands.specs.inner.Join.{Goes, IsAt, IsListed, IsListing}
use Rattle.reports.specs.declared.report.Report.{Report}
use Rattle.std.proofs.lemmas.Result.{on_ok_weaker}
use Rattle.commands.proofs.JoinLemmas.{of_some}
use Rattle.commands.proofs.OfLemmas.{of_ok}
use Rattle.commands.proofs.file_names.take_list.Goals as goal

pub returns-clause-goes : goal.returns-clause-goes
returns-clause-goes g c = λ disk options F cubes h.
    let new = c.join_last_name.new.listing in
    let T = Takes g.D.Disk.holds g.D.Drafts.apart disk options F cubes in
    let S = Stops g.D.Disk.holds g.D.Drafts.apart disk options F cubes in
    let Then : Gone → Type 0 = λ t. IsAt g.D.Drafts.made F cubes t [] t.count new.run.joined.join new.run.joined.part new.run.sheet in
    of_ok _ (λ list found. Goes Then (AreTaken T (names_of list) none_gone) (OneStops T S (names_of list) none_gone) found) _ c.join_last_name.result c.in_ok-feed_all.ensures.fed
    (λ list took. c.join_last_name.ensures.goes disk options F cubes list (took disk options F cubes [] h))

pub returns-clause-options : goal.returns-clause-options
returns-clause-options g c = λ disk options F cubes h.
    let old = c.args.listing.now in
    let mid = c.feed_all.new.taker in
    let P : List ℕ → Type 0 = λ bytes. (disk : g.row.D.Denot) (options : JoinOptions) (F : Cnf) (cubes : List Cube) (list : List ℕ)
    → IsListing g.D.Drafts.made g.D.Disk.holds g.D.Drafts.apart disk options F cubes list old.run.joined.disk.now old.run.joined.join old.run.joined.part old.run.sheet old.begun.items old.found
    → IsListing g.D.Drafts.made g.D.Disk.holds g.D.Drafts.apart disk options F cubes (list ++ bytes) mid.run.joined.disk.now mid.run.joined.join mid.run.joined.part mid.run.sheet mid.begun.items mid.found in
    let some = of_some P (g.D.Source.Read.remaining c.args.names.now.source) c.in_ok-feed_all.ensures.fed in
    let listed = some.1 disk options F cubes [] h in
    on_ok_weaker c.join_last_name.result (λ same. same.1 ∙ listed.options_is) c.join_last_name.ensures.same
