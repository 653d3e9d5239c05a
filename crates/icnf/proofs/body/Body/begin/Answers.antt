use Rattle.icnf.proofs.CubeLemmas.{begin_walks, gives_walked}
use Rattle.icnf.proofs.body.Body.begin.Goals as goal

pub returns : goal.returns
returns c = rw (← c.self.view_is) (gives_walked (record { limits = c.self.inside.limits; clauses = c.self.inside.clauses; walk = c.self.inside.walk }) c.begin_cube.new.walk c.begin_cube.result _ _ (begin_walks c.args.line _) c.begin_cube.ensures)
