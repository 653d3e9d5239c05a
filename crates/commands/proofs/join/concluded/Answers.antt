use Rattle.std.proofs.Common.{[], List, ℕ, Option, Result, Err, sym, subst}
use Rattle.std.specs.Prelude.{IfOk}
use Rattle.commands.specs.Names.{AreTaken, OfNames, none_gone}
use Rattle.commands.specs.Join.{Joins, OneStops, Stops, Takes}
use Rattle.commands.specs.inner.Join.{Goes, HasPart, IsAt}
use Rattle.commands.specs.declared.part_file.Part.{Part}
use Rattle.commands.proofs.JoinLemmas.{of_names_ok}
use Rattle.commands.proofs.join.concluded.Goals as goal
use Rattle.reports.specs.declared.refusal.Refusal.{Refusal}
use Rattle.reports.specs.declared.report.Report.{Report}

pub returns-in-Ok-clause-joins : goal.returns-in-Ok-clause-joins
returns-in-Ok-clause-joins g c = λ disk options F cubes known names h.
    let made = g.D.Drafts.made in
    let old = c.args.through.run in
    let T = Takes g.D.Disk.holds g.D.Drafts.apart disk options F cubes in
    let S = Stops g.D.Disk.holds g.D.Drafts.apart disk options F cubes in
    let G : Option Report → List (List ℕ) → Type 0 = λ found all.
    Goes (λ t. IsAt made F cubes t [] t.count old.joined.join old.joined.part old.sheet) (AreTaken T all none_gone) (OneStops T S all none_gone) found in
    let Told : Result (Option Report) Refusal → Type 0 = λ told. IfOk told (λ found. OfNames known names (G found)) in
    let Q : Option (Part _) → Report → List (List ℕ) → Type 0 = λ part r all. Joins T S (λ proof. HasPart made old.sheet.options.proof proof part) (Unit {0}) F cubes all r in
    let P : Option (Part _) → Type 0 = λ part. IfOk c.reported-report.result (λ r. OfNames known names (Q part r)) in
    let R : Result Report Refusal → Type 0 = λ found. IfOk found (λ r. OfNames known names (Q c.outcome_of.result.part r)) in
    subst R (sym c.outcome_of.ensures.found) (subst P (sym c.outcome_of.ensures.part)
    (of_names_ok known names (G c.in-Ok.found) (λ all r. Q c.reported-report.new.run.joined.part r all) c.reported-report.result (subst Told c.in-Ok.is h)
    (λ all goes. c.reported-report.ensures.joins disk options F cubes all goes)))
