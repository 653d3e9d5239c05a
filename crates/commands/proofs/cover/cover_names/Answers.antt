use Rattle.std.specs.Global.{Vec}
use Rattle.std.proofs.Common.{ℕ, List, map}
use Rattle.std.proofs.lemmas.Result.{IfOk-weaker}
use Rattle.commands.specs.Cover.{EndsCover, TellsCover}
use Rattle.commands.specs.Names.{Gone, none_gone}
use Rattle.commands.specs.inner.Cover.{IsGone}
use Rattle.commands.proofs.cover.cover_names.Goals as goal
use Rattle.dimacs.specs.logic.Cnf.{Cnf}
use Rattle.icnf.specs.Leaves.{Cube}
use Rattle.reports.specs.declared.report.Report.{Report}

pub returns-clause-covers : goal.returns-clause-covers
returns-clause-covers g c =
    let s = c.args.split.now in
    let gone = c.in_ok-take_all.ensures.seen s.formula s.tree none_gone c.in_ok-run.ensures.begins in
    IfOk-weaker c.finish.result (λ (r : Report). (F : Cnf) (cubes : List Cube) (t : Gone) → IsGone F cubes t c.take_all.new.run → EndsCover F cubes t r)
    (TellsCover (g.D.Disk.holds c.args.disk.now) s.formula s.tree c.args.quiet (map (λ (n : Vec ℕ). n.items) c.args.names.now))
    (λ r ends. record { seen = gone.0; are = gone.1; ends = ends s.formula s.tree gone.0 gone.2 }) c.finish.ensures.ends
