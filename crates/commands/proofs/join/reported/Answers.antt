use Rattle.std.proofs.Common.{[], inl, Option, subst}
use Rattle.std.specs.Prelude.{◌⊎◌}
use Rattle.std.proofs.lemmas.Result.{IfOk-weaker}
use Rattle.commands.specs.Join.{Joins, Misses, OneStops, Refutes, Stops, Takes}
use Rattle.commands.specs.Names.{AreTaken, none_gone}
use Rattle.commands.specs.inner.Join.{Goes, HasPart, IsAt}
use Rattle.commands.proofs.join.reported.Goals as goal
use Rattle.reports.specs.declared.report.Report.{Report}

pub returns-in-None-clause-joins : goal.returns-in-None-clause-joins
returns-in-None-clause-joins g c = λ disk options F cubes names h.
    let made = g.D.Drafts.made in
    let old = c.args.run.now in
    let new = c.finish.new.run in
    let T = Takes g.D.Disk.holds g.D.Drafts.apart disk options F cubes in
    let S = Stops g.D.Disk.holds g.D.Drafts.apart disk options F cubes in
    let G : Option Report → Type 0 = Goes (λ t. IsAt made F cubes t [] t.count old.joined.join old.joined.part old.sheet) (AreTaken T names none_gone) (OneStops T S names none_gone) in
    let k = subst G c.in-None.is h in
    IfOk-weaker c.finish.result
    (λ r. Refutes (λ proof. HasPart made old.sheet.options.proof proof new.joined.part) F cubes k.0 r ⊎ Misses (Unit {0}) F cubes k.0 r)
    (Joins T S (λ proof. HasPart made old.sheet.options.proof proof new.joined.part) (Unit {0}) F cubes names)
    (λ r ends. inl (k.0, k.1, ends)) (c.finish.ensures.ends F cubes k.0 k.2)
