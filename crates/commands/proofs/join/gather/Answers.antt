use Rattle.std.proofs.Common.{◌≡◌, ◌∙◌, ◌++◌, ◌∷◌, ap, refl, sym, subst, [], ℕ, List, Bool, Option, Some, None, map}
use Rattle.std.specs.Prelude.{◌≢◌, IfOk, Result, codes}
use Rattle.std.proofs.lemmas.Result.{IfOk-weaker, on_ok_weaker}
use Rattle.dimacs.specs.logic.Cnf.{Cnf}
use Rattle.icnf.specs.Leaves.{Cube}
use Rattle.commands.specs.Known.{HoldsOf}
use Rattle.commands.specs.FormulaTree.{OfQuietTree}
use Rattle.commands.specs.Names.{AreTaken, Gone, OfListed, OfNames, lists, names_of, none_gone}
use Rattle.commands.specs.Join.{IsStored, Joins, OneStops, Stops, Takes}
use Rattle.commands.specs.declared.drafts.Target.{Target}
use Rattle.commands.specs.declared.join_run.JoinOptions.{JoinOptions}
use Rattle.commands.specs.inner.Join.{Goes, HasPart, IsAt, IsListed, IsListing, IsSettled}
use Rattle.reports.specs.declared.refusal.Refusal.{Refusal}
use Rattle.reports.specs.declared.report.Report.{Report}
use Rattle.commands.proofs.JoinLemmas.{of_names, settled_joins}
use Rattle.commands.proofs.KnownLemmas.{if_ok_at}
use Rattle.commands.proofs.join.gather.Goals as goal

pub returns-clause-joins : goal.returns-clause-joins
returns-clause-joins g c =
    let made = g.D.Drafts.made in
    let kept = g.D.Drafts.kept in
    let old = c.args.disk.now in
    let new = c.keep_if_closed.new.disk in
    let F = c.args.split.formula in
    let cubes = c.args.split.tree in
    let o = c.args.files.now.options in
    let outcome = c.join_names-outcome.result in
    let names = map (λ n. n.now) c.args.names.now in
    let holds : List ℕ → Option (List ℕ) = g.D.Disk.holds old in
    let T = Takes g.D.Disk.holds g.D.Drafts.apart old o F cubes in
    let S = Stops g.D.Disk.holds g.D.Drafts.apart old o F cubes in
    let P : Report → List (List ℕ) → Type 0 = λ r all. Joins T S (λ proof. HasPart made o.proof proof outcome.part) (Unit {0}) F cubes all r in
    let Q : Report → List (List ℕ) → Type 0 = λ r all. Joins T S (IsStored kept old new o.proof) (new ≡ old) F cubes all r in
    let joined = c.join_names-outcome.ensures.joins F cubes c.in_ok-join.ensures.holds c.in_ok-part.ensures.begins in
    IfOk-weaker c.keep_if_closed.result (IsSettled made kept old new outcome.part outcome.found) (λ r. OfNames holds names (Q r))
    (λ r settled. of_names holds names (P r) (Q r) (λ all j. settled_joins made kept old new outcome.part outcome.found g.D.Disk.holds g.D.Drafts.apart o F cubes all r settled j)
    (if_ok_at outcome.found r (λ r. OfNames holds names (P r)) settled.0 joined)) c.keep_if_closed.ensures.settled
