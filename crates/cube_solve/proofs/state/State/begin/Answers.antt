use Rattle.std.proofs.Common.{inr}
use Rattle.std.proofs.lemmas.Bool.{OnTrue_at}
use Rattle.cube_solve.proofs.AssumptionLemmas.{assuming_shared}
use Rattle.cube_solve.proofs.state.State.begin.Goals as goal

pub returns-clause-assuming : goal.returns-clause-assuming
returns-clause-assuming g c = λ h.
    assuming_shared c.args.query.now c.args.self.now.trail.entries c.backtrack.new.self.trail.entries (c.backtrack.ensures.front).0 c.args.shared (c.backtrack.ensures.front).1 c.backtrack.ensures.kept h

pub returns-then-are_true_at-clause-assuming : goal.returns-then-are_true_at-clause-assuming
returns-then-are_true_at-clause-assuming g c = λ h. record { decided = h; full = inr (OnTrue_at c.if-are_true_at.true c.are_true_at.ensures) }
