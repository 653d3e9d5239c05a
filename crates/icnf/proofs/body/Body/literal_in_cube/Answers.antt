use Rattle.icnf.proofs.CubeLemmas.{literal_walks, gives_walked}
use Rattle.icnf.proofs.body.Body.literal_in_cube.Goals as goal

pub returns : goal.returns
returns c = rw (← c.self.view_is) (gives_walked (record { limits = c.self.inside.limits; clauses = c.self.inside.clauses; walk = c.self.inside.walk }) c.read_literal.new.walk c.read_literal.result _ _ (literal_walks c.args.line c.args.literal _) c.read_literal.ensures)
