use Rattle.std.proofs.Common.{◌≡◌, ◌∙◌, ◌++◌, ◌∷◌, ap, refl, sym, subst, [], ℕ, List, Bool, Option, Some, None, map}
use Rattle.std.specs.Prelude.{◌≢◌, IfOk, Result, codes}
use Rattle.std.proofs.lemmas.Result.{IfOk-weaker, on_ok_weaker}
use Rattle.dimacs.specs.logic.Cnf.{Cnf}
use Rattle.icnf.specs.Leaves.{Cube}
use Rattle.commands.specs.Known.{HoldsOf}
use Rattle.commands.specs.FormulaTree.{OfQuietTree}
use Rattle.commands.specs.Names.{AreTaken, Gone, OfListed, OfNames, lists, names_of, none_gone}
use Rattle.commands.specs.Join.{IsStored, Joins, OneStops, Stops, Takes}
use Rattle.commands.specs.declared.drafts.Target.{Target}
use Rattle.commands.specs.declared.join_run.JoinOptions.{JoinOptions}
use Rattle.commands.specs.inner.Join.{Goes, HasPart, IsAt, IsListed, IsListing, IsSettled}
use Rattle.reports.specs.declared.refusal.Refusal.{Refusal}
use Rattle.reports.specs.declared.report.Report.{Report}
use Rattle.commands.proofs.KnownLemmas.{if_ok_as, ok_on}
use Rattle.commands.proofs.join.join_names.Goals as goal

pub returns-clause-joins : goal.returns-clause-joins
returns-clause-joins g c = λ F cubes holds begins.
    let made = g.D.Drafts.made in
    let disk = c.args.disk.now in
    let o = c.args.options in
    let names = map (λ n. n.now) c.args.names.now in
    let through = c.go_through.result in
    let outcome = c.concluded.result in
    let known : List ℕ → Option (List ℕ) = g.D.Disk.holds disk in
    let T = Takes g.D.Disk.holds g.D.Drafts.apart disk o F cubes in
    let S = Stops g.D.Disk.holds g.D.Drafts.apart disk o F cubes in
    let at : IsAt made F cubes none_gone [] 0 c.args.join c.args.part _ = record { stands = record { written = []; holds = holds; part_is = begins }; noted = c.new.ensures.items; counted = refl } in
    let same = on_ok_weaker outcome.found (λ ok. ok_on through.found (through.run.sheet.options ≡ o) ok (c.go_through.ensures.options F cubes at)) c.concluded.ensures.found in
    if_ok_as outcome.found (λ p r. OfNames known names (λ all. Joins T S (λ proof. HasPart made p.proof proof outcome.part) (Unit {0}) F cubes all r)) through.run.sheet.options o same
    (c.concluded.ensures.joins disk o F cubes known names (c.go_through.ensures.goes F cubes at))
