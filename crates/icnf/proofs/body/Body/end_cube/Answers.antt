use Rattle.icnf.proofs.CubeLemmas.{end_walks, gives_walked}
use Rattle.icnf.proofs.body.Body.end_cube.Goals as goal

pub returns : goal.returns
returns c = rw (← c.self.view_is) (gives_walked (record { limits = c.self.inside.limits; clauses = c.self.inside.clauses; walk = c.self.inside.walk }) c.end_cube.new.walk c.end_cube.result _ _ (end_walks c.args.line _) c.end_cube.ensures)
