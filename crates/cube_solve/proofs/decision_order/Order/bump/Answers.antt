use Rattle.cube_solve.proofs.decision_order.Order.bump.Goals as goal

pub bump_all-requires : goal.bump_all-requires
bump_all-requires c = rw c.self.view_is c.requires.met
