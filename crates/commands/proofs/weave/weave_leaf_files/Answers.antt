use Rattle.std.proofs.Common.{◌≡◌, true, ℕ, List, Option}
use Rattle.commands.specs.Weave.{Weaves}
use Rattle.commands.specs.Written.{Keeps}
use Rattle.commands.proofs.TreeLemmas.{of_refused, of_tree}
use Rattle.commands.proofs.weave.weave_leaf_files.Goals as goal
use Rattle.dimacs.specs.logic.Cnf.{Cnf}
use Rattle.icnf.specs.Leaves.{Cube}

pub returns-in_ok-report-in-With-clause-weaves : goal.returns-in_ok-report-in-With-clause-weaves
returns-in_ok-report-in-With-clause-weaves g c =
    let files = c.args.files.now in
    let old = c.args.disk.now in
    let new = c.weave_split.new.disk in
    let holds : List ℕ → Option (List ℕ) = g.D.Disk.holds old in
    let r = c.in_ok-report-in-With.report in
    let Told : Cnf → List Cube → Type 0 = λ F tree. Weaves (Keeps g.D.Drafts.kept old new files.log.binary files.log.path.now) (new ≡ old) F tree true r in
    of_tree c.args.limits Told r (holds files.input.now) (holds c.args.cubes.now) c.in_ok-begun.begun c.in-With.split c.in-With.is c.in_ok-report-in-With.ensures.weaves c.in_ok-begun.ensures.begins

pub returns-in-Refused-clause-weaves : goal.returns-in-Refused-clause-weaves
returns-in-Refused-clause-weaves g c =
    let files = c.args.files.now in
    let old = c.args.disk.now in
    let holds : List ℕ → Option (List ℕ) = g.D.Disk.holds old in
    let r = c.in-Refused.report in
    let Told : Cnf → List Cube → Type 0 = λ F tree. Weaves (Keeps g.D.Drafts.kept old old files.log.binary files.log.path.now) (old ≡ old) F tree true r in
    of_refused c.args.limits Told r (holds files.input.now) (holds c.args.cubes.now) c.in_ok-begun.begun c.in-Refused.is c.in_ok-begun.ensures.begins
