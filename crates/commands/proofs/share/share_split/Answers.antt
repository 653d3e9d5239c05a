use Rattle.std.proofs.Common.{Option, sym, subst, []}
use Rattle.dimacs.specs.logic.Cnf.{Cnf}
use Rattle.icnf.specs.Leaves.{Cube}
use Rattle.sharing.specs.Sharing.{IsBeginning}
use Rattle.sharing.specs.declared.run.Asked.{Asked}
use Rattle.commands.specs.Share.{Shares, SharesLeaf}
use Rattle.commands.proofs.ShareLemmas.{nothing_begun, shares_leaf}
use Rattle.commands.proofs.share.share_split.Goals as goal

pub returns-in_err-report-in-Some-clause-log : goal.returns-in_err-report-in-Some-clause-log
returns-in_err-report-in-Some-clause-log g c = λ f.
    let x = c.share_cell.ensures.log f in
    (x.0, x.1, subst (λ (F : Cnf). IsBeginning F x.0) c.in-Some.ensures.found.0 x.2)

pub returns-in_ok-report-in-Some-clause-log : goal.returns-in_ok-report-in-Some-clause-log
returns-in_ok-report-in-Some-clause-log g c = λ f.
    let x = c.share_cell.ensures.log f in
    (x.0, x.1, subst (λ (F : Cnf). IsBeginning F x.0) c.in-Some.ensures.found.0 x.2)

pub returns-in_ok-report-in-Some-clause-shares : goal.returns-in_ok-report-in-Some-clause-shares
returns-in_ok-report-in-Some-clause-shares g c = λ f t.
    let e = c.in-Some.ensures in
    let s = c.args.split.now in
    let cell = c.in-Some.cell in
    let P : Asked → Type 0 = λ a. Shares (g.F.Folder.has_logged c.share_cell.new.folder) (g.T.Teller.has_told c.share_cell.new.teller) cell.formula.now cell.tree.now a.quiet c.args.files.now.sharing.witness c.in_ok-report-in-Some.report in
    shares_leaf _ _ _ cell.formula.now s.formula cell.tree.now s.tree c.args.files.now.sharing.asked.quiet c.args.files.now.sharing.witness c.in_ok-report-in-Some.report e.leaf e.found.0 e.found.1 (subst P e.found.2 (c.in_ok-report-in-Some.ensures.shares f t))

pub returns-in_err-none-in-None-clause-log : goal.returns-in_err-none-in-None-clause-log
returns-in_err-none-in-None-clause-log g c = λ f. ([], f, nothing_begun c.args.split.now.formula)

pub returns-in_ok-none-in-None-clause-log : goal.returns-in_ok-none-in-None-clause-log
returns-in_ok-none-in-None-clause-log g c = λ f. ([], f, nothing_begun c.args.split.now.formula)

pub returns-in_ok-none-in-None-clause-shares : goal.returns-in_ok-none-in-None-clause-shares
returns-in_ok-none-in-None-clause-shares g c = λ f t.
    let s = c.args.split.now in
    let x = c.args.files.now.sharing in
    let P : Option Cube → Type 0 = λ o. SharesLeaf (g.F.Folder.has_logged c.args.folder.now) (g.T.Teller.has_told c.args.teller.now) o s.formula s.tree x.asked.quiet x.witness c.in_ok-none-in-None.none in
    subst P (sym c.in-None.ensures.none) c.in_ok-none-in-None.ensures
