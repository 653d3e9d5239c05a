use Rattle.std.proofs.Common.{◌≡◌, ◌∙◌, ◌++◌, ◌∷◌, ap, refl, sym, subst, [], ℕ, List, Bool, Option, Some, None, map}
use Rattle.std.specs.Prelude.{◌≢◌, IfOk, Result, codes}
use Rattle.std.proofs.lemmas.Result.{IfOk-weaker, on_ok_weaker}
use Rattle.dimacs.specs.logic.Cnf.{Cnf}
use Rattle.icnf.specs.Leaves.{Cube}
use Rattle.commands.specs.Known.{HoldsOf}
use Rattle.commands.specs.FormulaTree.{OfQuietTree}
use Rattle.commands.specs.Names.{AreTaken, Gone, OfListed, OfNames, lists, names_of, none_gone}
use Rattle.commands.specs.Join.{IsStored, Joins, OneStops, Stops, Takes}
use Rattle.commands.specs.declared.drafts.Target.{Target}
use Rattle.commands.specs.declared.join_run.JoinOptions.{JoinOptions}
use Rattle.commands.specs.inner.Join.{Goes, HasPart, IsAt, IsListed, IsListing, IsSettled}
use Rattle.reports.specs.declared.refusal.Refusal.{Refusal}
use Rattle.reports.specs.declared.report.Report.{Report}
use Rattle.commands.proofs.JoinLemmas.{of_hushed, of_quiet_tree}
use Rattle.commands.proofs.join.join_files.Goals as goal

pub returns-in-With-clause-joins : goal.returns-in-With-clause-joins
returns-in-With-clause-joins g c =
    let files = c.args.files.now in
    let o = files.options in
    let old = c.args.disk.now in
    let new = c.gather.new.disk in
    let s = c.in-With.split in
    let names = map (λ n. n.now) c.args.names.now in
    let holds : List ℕ → Option (List ℕ) = g.D.Disk.holds old in
    let Told : Report → Cnf → List Cube → Type 0 = λ r F tree. OfNames holds names
    (λ all. Joins (Takes g.D.Disk.holds g.D.Drafts.apart old o F tree) (Stops g.D.Disk.holds g.D.Drafts.apart old o F tree) (IsStored g.D.Drafts.kept old new o.proof) (new ≡ old) F tree all r) in
    IfOk-weaker c.gather.result (λ r. Told r s.formula s.tree) (λ r. HoldsOf (holds files.input.now) (λ text. HoldsOf (holds files.cubes.now) (λ lines. OfQuietTree c.args.limits o.quiet text lines (Told r) r)))
    (λ r h. of_quiet_tree c.args.limits o.quiet (Told r) r (holds files.input.now) (holds files.cubes.now) c.in_ok-begun.begun s c.in-With.is h c.in_ok-begun.ensures.begins) c.gather.ensures.joins

pub returns-in-Refused-clause-joins : goal.returns-in-Refused-clause-joins
returns-in-Refused-clause-joins g c =
    let files = c.args.files.now in
    let o = files.options in
    let old = c.args.disk.now in
    let names = map (λ n. n.now) c.args.names.now in
    let holds : List ℕ → Option (List ℕ) = g.D.Disk.holds old in
    let r = c.hushed.result in
    let Told : Cnf → List Cube → Type 0 = λ F tree. OfNames holds names
    (λ all. Joins (Takes g.D.Disk.holds g.D.Drafts.apart old o F tree) (Stops g.D.Disk.holds g.D.Drafts.apart old o F tree) (IsStored g.D.Drafts.kept old old o.proof) (old ≡ old) F tree all r) in
    of_hushed c.args.limits o.quiet Told c.in-Refused.report r (holds files.input.now) (holds files.cubes.now) c.in_ok-begun.begun c.in-Refused.is c.hushed.ensures c.in_ok-begun.ensures.begins
