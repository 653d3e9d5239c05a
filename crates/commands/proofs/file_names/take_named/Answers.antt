use Rattle.std.proofs.Common.{◌≡◌, [], ℕ, List, subst}
use Rattle.std.specs.Prelude.{IfOk}
use Rattle.std.proofs.lemmas.Result.{IfOk-weaker}
use Rattle.commands.specs.Join.{IsFree, Stops, Takes, without_file}
use Rattle.commands.specs.Names.{Gone}
use Rattle.commands.specs.inner.Join.{Goes, IsAt}
use Rattle.commands.proofs.JoinLemmas.{skipped_file}
use Rattle.commands.proofs.file_names.take_named.Goals as goal

pub returns-in-Ok-clause-goes : goal.returns-in-Ok-clause-goes
returns-in-Ok-clause-goes g c = λ F cubes s at.
    let a = c.args.run.now in
    let new = c.join_file.new.run in
    let o = a.sheet.options in
    let At : Gone → Type 0 = λ t. IsAt g.D.Drafts.made F cubes t [] t.count new.joined.join new.joined.part new.sheet in
    let T = Takes g.D.Disk.holds g.D.Drafts.apart a.joined.disk.now o F cubes in
    let S = Stops g.D.Disk.holds g.D.Drafts.apart a.joined.disk.now o F cubes in
    let Told : List ℕ → Type 0 = λ path. IfOk c.join_file.result (Goes At (T path s) (S path s)) in
    subst Told c.in-Ok.ensures.cases.0 (c.join_file.ensures.goes F cubes s at)

pub returns-in_default-clause-goes : goal.returns-in_default-clause-goes
returns-in_default-clause-goes g c = λ F cubes s at.
    let a = c.args.run.now in
    let disk = a.joined.disk.now in
    let new = c.skip_name.new.run in
    let o = a.sheet.options in
    let name = c.args.name.now in
    let At : Gone → Type 0 = λ t. IsAt g.D.Drafts.made F cubes t [] t.count new.joined.join new.joined.part new.sheet in
    IfOk-weaker c.skip_name.result (Goes At (λ t. t ≡ without_file name s) (λ r. ⊥))
    (Goes At (Takes g.D.Disk.holds g.D.Drafts.apart disk o F cubes name s) (Stops g.D.Disk.holds g.D.Drafts.apart disk o F cubes name s))
    (λ found h. skipped_file At F cubes o.quiet (IsFree (g.D.Drafts.apart disk) o.proof name) (g.D.Disk.holds disk name) name s _ found h)
    (c.skip_name.ensures.goes F cubes s at)
