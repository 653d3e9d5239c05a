use Rattle.std.proofs.Common.{[], ℕ, List, Option}
use Rattle.commands.specs.Share.{SharesLeaf}
use Rattle.commands.proofs.JoinLemmas.{of_hushed, of_quiet_tree}
use Rattle.commands.proofs.ShareLemmas.{log_of_split}
use Rattle.commands.proofs.share.share_leaf_files.Goals as goal
use Rattle.dimacs.specs.logic.Cnf.{Cnf}
use Rattle.icnf.specs.Leaves.{Cube}
use Rattle.leaves.specs.Leaf.{leaf_at}

pub returns-in_err-told-in-With-clause-log : goal.returns-in_err-told-in-With-clause-log
returns-in_err-told-in-With-clause-log g c = λ f.
    let x = c.share_split.ensures.log f in
    (x.0, x.1, log_of_split c.args.limits _ _ c.in_ok-begun.begun c.in-With.split x.0 c.in-With.is x.2 c.in_ok-begun.ensures.begins)

pub returns-in_ok-told-in-With-clause-log : goal.returns-in_ok-told-in-With-clause-log
returns-in_ok-told-in-With-clause-log g c = λ f.
    let x = c.share_split.ensures.log f in
    (x.0, x.1, log_of_split c.args.limits _ _ c.in_ok-begun.begun c.in-With.split x.0 c.in-With.is x.2 c.in_ok-begun.ensures.begins)

pub returns-in_ok-told-in-With-clause-shares : goal.returns-in_ok-told-in-With-clause-shares
returns-in_ok-told-in-With-clause-shares g c =
    let files = c.args.files.now in
    let holds : List ℕ → Option (List ℕ) = g.D.Disk.holds c.args.disk.now in
    let r = c.in_ok-told-in-With.told in
    let Told : Cnf → List Cube → Type 0 = λ F tree. g.F.Folder.has_logged c.args.folder.now [] → g.T.Teller.has_told c.args.teller.now []
    → SharesLeaf (g.F.Folder.has_logged c.share_split.new.folder) (g.T.Teller.has_told c.share_split.new.teller) (leaf_at tree files.leaf) F tree files.sharing.asked.quiet files.sharing.witness r in
    of_quiet_tree c.args.limits files.sharing.asked.quiet Told r (holds files.sharing.input.now) (holds files.cubes.now) c.in_ok-begun.begun c.in-With.split c.in-With.is c.in_ok-told-in-With.ensures.shares
    c.in_ok-begun.ensures.begins

pub returns-in-Refused-clause-shares : goal.returns-in-Refused-clause-shares
returns-in-Refused-clause-shares g c =
    let files = c.args.files.now in
    let holds : List ℕ → Option (List ℕ) = g.D.Disk.holds c.args.disk.now in
    let r = c.hushed.result in
    let Told : Cnf → List Cube → Type 0 = λ F tree. g.F.Folder.has_logged c.args.folder.now [] → g.T.Teller.has_told c.args.teller.now []
    → SharesLeaf (g.F.Folder.has_logged c.args.folder.now) (g.T.Teller.has_told c.args.teller.now) (leaf_at tree files.leaf) F tree files.sharing.asked.quiet files.sharing.witness r in
    of_hushed c.args.limits files.sharing.asked.quiet Told c.in-Refused.report r (holds files.sharing.input.now) (holds files.cubes.now) c.in_ok-begun.begun c.in-Refused.is c.hushed.ensures
    c.in_ok-begun.ensures.begins
