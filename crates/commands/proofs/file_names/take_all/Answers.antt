use Rattle.std.proofs.Common.{◌≡◌, ◌∙◌, ◌++◌, ◌∷◌, ap, refl, sym, subst, [], ℕ, List, Bool, Option, Some, None, map}
use Rattle.std.specs.Prelude.{◌≢◌, IfOk, Result, codes}
use Rattle.std.proofs.lemmas.Result.{IfOk-weaker, on_ok_weaker}
use Rattle.dimacs.specs.logic.Cnf.{Cnf}
use Rattle.icnf.specs.Leaves.{Cube}
use Rattle.commands.specs.Known.{HoldsOf}
use Rattle.commands.specs.FormulaTree.{OfQuietTree}
use Rattle.commands.specs.Names.{AreTaken, Gone, OfListed, OfNames, lists, names_of, none_gone}
use Rattle.commands.specs.Join.{IsStored, Joins, OneStops, Stops, Takes}
use Rattle.commands.specs.declared.drafts.Target.{Target}
use Rattle.commands.specs.declared.join_run.JoinOptions.{JoinOptions}
use Rattle.commands.specs.inner.Join.{Goes, HasPart, IsAt, IsListed, IsListing, IsSettled}
use Rattle.reports.specs.declared.refusal.Refusal.{Refusal}
use Rattle.reports.specs.declared.report.Report.{Report}
use Rattle.commands.proofs.file_names.take_all.Goals as goal
use Rattle.std.specs.Borrow.{Bor}
use Rattle.std.proofs.Common.{arith, get_or, take}
use Rattle.commands.proofs.ListedLemmas.{stops_at, taken_at}
use Rattle.std.proofs.lemmas.List.{take_all}

pub returns-in-Some-clause-goes : goal.returns-in-Some-clause-goes
returns-in-Some-clause-goes g c = λ F cubes s at.
    let k = c.loop-i.invariant.goes F cubes s at in
    let a = c.args.run.now in
    let b = c.loop-i.run in
    let new = c.join_file.new.run in
    let names = c.args.names.now in
    let item : Bor (List ℕ) = record { ref_ptr = (0, 0); now = [] } in
    let name = (get_or names c.loop-i.i item).now in
    let At : Gone → Type 0 = λ t. IsAt g.D.Drafts.made F cubes t [] t.count new.joined.join new.joined.part new.sheet in
    let T : g.row.D.Denot → JoinOptions → List ℕ → Gone → Gone → Type 0 = λ d o. Takes g.D.Disk.holds g.D.Drafts.apart d o F cubes in
    let S : g.row.D.Denot → JoinOptions → List ℕ → Gone → Report → Type 0 = λ d o. Stops g.D.Disk.holds g.D.Drafts.apart d o F cubes in
    let R : g.row.D.Denot → JoinOptions → Option Report → Type 0 = λ d o found. Goes At (T d o name k.0) (S d o name k.0) found in
    let RD : g.row.D.Denot → Type 0 = λ d. R d b.sheet.options c.in_ok-report.field-0 in
    let RO : JoinOptions → Type 0 = λ o. R a.joined.disk.now o c.in_ok-report.field-0 in
    let RF : Option Report → Type 0 = R a.joined.disk.now a.sheet.options in
    let now = ap (λ d. d.now) c.loop-i.invariant.disk in
    let goes = subst RO c.loop-i.invariant.options (subst RD now (c.in_ok-report.ensures.goes F cubes k.0 k.2)) in
    stops_at (T a.joined.disk.now a.sheet.options) (S a.joined.disk.now a.sheet.options) (λ n. n.now) names c.loop-i.i item s k.0 c.in-Some.report c.loop-i-test.true k.1 (subst RF c.in-Some.is goes)

pub loop-i-preserved : goal.loop-i-preserved
loop-i-preserved g c = record {
  goes = λ F cubes s at.
      let k = c.loop-i.invariant.goes F cubes s at in
      let a = c.args.run.now in
      let b = c.loop-i.run in
      let new = c.join_file.new.run in
      let names = c.args.names.now in
      let item : Bor (List ℕ) = record { ref_ptr = (0, 0); now = [] } in
      let name = (get_or names c.loop-i.i item).now in
      let At : Gone → Type 0 = λ t. IsAt g.D.Drafts.made F cubes t [] t.count new.joined.join new.joined.part new.sheet in
      let T : g.row.D.Denot → JoinOptions → List ℕ → Gone → Gone → Type 0 = λ d o. Takes g.D.Disk.holds g.D.Drafts.apart d o F cubes in
      let S : g.row.D.Denot → JoinOptions → List ℕ → Gone → Report → Type 0 = λ d o. Stops g.D.Disk.holds g.D.Drafts.apart d o F cubes in
      let R : g.row.D.Denot → JoinOptions → Option Report → Type 0 = λ d o found. Goes At (T d o name k.0) (S d o name k.0) found in
      let RD : g.row.D.Denot → Type 0 = λ d. R d b.sheet.options c.in_ok-report.field-0 in
      let RO : JoinOptions → Type 0 = λ o. R a.joined.disk.now o c.in_ok-report.field-0 in
      let RF : Option Report → Type 0 = R a.joined.disk.now a.sheet.options in
      let now = ap (λ d. d.now) c.loop-i.invariant.disk in
      let goes = subst RO c.loop-i.invariant.options (subst RD now (c.in_ok-report.ensures.goes F cubes k.0 k.2)) in
      let went = subst RF c.in_default.is goes in
      (went.0, taken_at (T a.joined.disk.now a.sheet.options) (λ n. n.now) names c.loop-i.i item s k.0 went.0 c.loop-i-test.true k.1 went.1, went.2);
  disk = c.in_ok-report.ensures.same.0 ∙ c.loop-i.invariant.disk;
  options = c.in_ok-report.ensures.same.1 ∙ c.loop-i.invariant.options;
}

pub returns-clause-goes : goal.returns-clause-goes
returns-clause-goes g c = λ F cubes s at.
    let k = c.loop-i.invariant.goes F cubes s at in
    let names = c.args.names.now in
    let T = Takes g.D.Disk.holds g.D.Drafts.apart c.args.run.now.joined.disk.now c.args.run.now.sheet.options F cubes in
    (k.0, subst (λ ys. AreTaken T (map (λ n. n.now) ys) s k.0) (take_all c.loop-i.i names (omega arith)) k.1, k.2)
