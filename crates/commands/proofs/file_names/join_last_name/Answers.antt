use Rattle.std.proofs.Common.{◌≡◌, ◌∙◌, ◌++◌, ◌∷◌, ap, refl, sym, subst, [], ℕ, List, Bool, Option, Some, None, length, eqb}
use Rattle.std.specs.Prelude.{IfOk, codes}
use Rattle.std.proofs.lemmas.Result.{IfOk-weaker}
use Rattle.dimacs.specs.logic.Cnf.{Cnf}
use Rattle.icnf.specs.Leaves.{Cube}
use Rattle.commands.specs.Known.{HoldsOf}
use Rattle.commands.specs.Names.{AreTaken, Gone, OfListed, OfNames, names_of, none_gone}
use Rattle.commands.specs.Join.{Joins, OneStops, Stops, Takes}
use Rattle.commands.specs.declared.join_run.JoinOptions.{JoinOptions}
use Rattle.commands.specs.inner.Join.{Goes, IsAt, IsListed, IsListing}
use Rattle.reports.specs.declared.report.Report.{Report}
use Rattle.commands.proofs.ListedLemmas.{listed_all, listed_found, listed_rest, none_begun}
use Rattle.commands.proofs.file_names.join_last_name.Goals as goal

pub returns-in-Some-clause-goes : goal.returns-in-Some-clause-goes
returns-in-Some-clause-goes g c = λ disk options F cubes list h.
    let old = c.args.listing.now in
    let T = Takes g.D.Disk.holds g.D.Drafts.apart disk options F cubes in
    let S = Stops g.D.Disk.holds g.D.Drafts.apart disk options F cubes in
    let At : Gone → Type 0 = λ t. IsAt g.D.Drafts.made F cubes t [] t.count old.run.joined.join old.run.joined.part old.run.sheet in
    let P : Option Report → Type 0 = IsListed At T S list old.begun.items in
    listed_found At T S list old.begun.items c.in-Some.report (subst P (sym c.replace.ensures.value ∙ c.in-Some.is) h.listed)

pub returns-then-is_empty-clause-goes : goal.returns-then-is_empty-clause-goes
returns-then-is_empty-clause-goes g c = λ disk options F cubes list h.
    let old = c.args.listing.now in
    let T = Takes g.D.Disk.holds g.D.Drafts.apart disk options F cubes in
    let S = Stops g.D.Disk.holds g.D.Drafts.apart disk options F cubes in
    let At : Gone → Type 0 = λ t. IsAt g.D.Drafts.made F cubes t [] t.count old.run.joined.join old.run.joined.part old.run.sheet in
    let P : Option Report → Type 0 = IsListed At T S list old.begun.items in
    let Q : List ℕ → Type 0 = λ begun. IsListed At T S list begun None in
    let none = none_begun old.begun.items (ap (λ (b : List ℕ). eqb (length b) 0) (sym c.as_slice.ensures.value) ∙ sym c.is_empty.ensures ∙ c.if-is_empty.true) in
    listed_all At T S list (subst Q none (subst P (sym c.replace.ensures.value ∙ c.in_default.is) h.listed))

pub returns-clause-goes : goal.returns-clause-goes
returns-clause-goes g c = λ disk options F cubes list h.
    let old = c.args.listing.now in
    let new = c.take_named.new.run in
    let begun = old.begun.items in
    let T = Takes g.D.Disk.holds g.D.Drafts.apart disk options F cubes in
    let S = Stops g.D.Disk.holds g.D.Drafts.apart disk options F cubes in
    let At : Gone → Type 0 = λ t. IsAt g.D.Drafts.made F cubes t [] t.count old.run.joined.join old.run.joined.part old.run.sheet in
    let Then : Gone → Type 0 = λ t. IsAt g.D.Drafts.made F cubes t [] t.count new.joined.join new.joined.part new.sheet in
    let P : Option Report → Type 0 = IsListed At T S list begun in
    let listed = subst P (sym c.replace.ensures.value ∙ c.in_default.is) h.listed in
    let some = ap (λ (b : List ℕ). eqb (length b) 0) (sym c.as_slice.ensures.value) ∙ sym c.is_empty.ensures ∙ c.if-is_empty.false in
    let R : g.row.D.Denot → JoinOptions → List ℕ → Type 0 = λ d o name.
    IfOk c.take_named.result (Goes Then (Takes g.D.Disk.holds g.D.Drafts.apart d o F cubes name listed.0) (Stops g.D.Disk.holds g.D.Drafts.apart d o F cubes name listed.0)) in
    let RN : List ℕ → Type 0 = R old.run.joined.disk.now old.run.sheet.options in
    let RO : JoinOptions → Type 0 = λ o. R old.run.joined.disk.now o begun in
    let RD : g.row.D.Denot → Type 0 = λ d. R d options begun in
    IfOk-weaker c.take_named.result (Goes Then (T begun listed.0) (S begun listed.0)) (Goes Then (AreTaken T (names_of list) none_gone) (OneStops T S (names_of list) none_gone))
    (λ found k. listed_rest At Then T S list begun found some listed k)
    (subst RD h.disk_is (subst RO h.options_is (subst RN c.deref.ensures.value (c.take_named.ensures.goes F cubes listed.0 listed.1))))
