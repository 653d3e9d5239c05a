use Rattle.std.proofs.Common.{◌≡◌, ◌∙◌, ◌++◌, ◌∷◌, ap, refl, sym, subst, [], ℕ, List, Bool, Option, Some, None, length, eqb}
use Rattle.std.specs.Prelude.{IfOk, codes}
use Rattle.std.proofs.lemmas.Result.{IfOk-weaker}
use Rattle.dimacs.specs.logic.Cnf.{Cnf}
use Rattle.icnf.specs.Leaves.{Cube}
use Rattle.commands.specs.Known.{HoldsOf}
use Rattle.commands.specs.Names.{AreTaken, Gone, OfListed, OfNames, names_of, none_gone}
use Rattle.commands.specs.Join.{Joins, OneStops, Stops, Takes}
use Rattle.commands.specs.declared.join_run.JoinOptions.{JoinOptions}
use Rattle.commands.specs.inner.Join.{Goes, IsAt, IsListed, IsListing}
use Rattle.reports.specs.declared.report.Report.{Report}
use Rattle.std.proofs.lemmas.Bool.{eq-eqb}
use Rattle.commands.proofs.ListedLemmas.{listed_name, none_found}
use Rattle.commands.proofs.file_names.take_byte.Goals as goal

pub returns-clause-listed : goal.returns-clause-listed
returns-clause-listed g c = λ disk options F cubes list h.
    let old = c.args.listing.now in
    let new = c.take_named.new.run in
    let begun = old.begun.items in
    let found = c.in_ok-listing.field-0 in
    let same = c.in_ok-listing.ensures.same in
    let T = Takes g.D.Disk.holds g.D.Drafts.apart disk options F cubes in
    let S = Stops g.D.Disk.holds g.D.Drafts.apart disk options F cubes in
    let At : Gone → Type 0 = λ t. IsAt g.D.Drafts.made F cubes t [] t.count old.run.joined.join old.run.joined.part old.run.sheet in
    let Then : Gone → Type 0 = λ t. IsAt g.D.Drafts.made F cubes t [] t.count new.joined.join new.joined.part new.sheet in
    let P : Option Report → Type 0 = IsListed At T S list begun in
    let listed = subst P (none_found old.found (sym c.is_some.ensures ∙ c.if-is_some.false)) h.listed in
    let R : g.row.D.Denot → JoinOptions → List ℕ → Type 0 = λ d o name.
    Goes Then (Takes g.D.Disk.holds g.D.Drafts.apart d o F cubes name listed.0) (Stops g.D.Disk.holds g.D.Drafts.apart d o F cubes name listed.0) found in
    let RN : List ℕ → Type 0 = R old.run.joined.disk.now old.run.sheet.options in
    let RO : JoinOptions → Type 0 = λ o. R old.run.joined.disk.now o begun in
    let RD : g.row.D.Denot → Type 0 = λ d. R d options begun in
    let goes = subst RD h.disk_is (subst RO h.options_is (subst RN c.deref.ensures.value (c.in_ok-listing.ensures.goes F cubes listed.0 listed.1))) in
    let Q : List ℕ → Type 0 = λ more. IsListed Then T S (list ++ c.args.byte ∷ []) more found in
    record {
      disk_is = ap (λ d. d.now) same.0 ∙ h.disk_is;
      options_is = same.1 ∙ h.options_is;
      listed = subst Q (sym c.clear.ensures.items) (listed_name At Then T S list begun c.args.byte found (eq-eqb c.args.byte 10 c.if-byte-ne10.false) listed goes);
    }
