use Rattle.std.proofs.Common.{◌≡◌, ℕ, ◌<◌, ◌≤◌, length, get_or}
use Rattle.cube_solve.specs.Session.{IsReady, last_of, log_of, vars_of}
use Rattle.cell_worker.specs.inner.KeptSession.{HasNumbered}
use Rattle.cell_worker.proofs.kept_session.give_all.Given as goal

abbrev pub invariant-loop-i : goal.invariant-loop-i
invariant-loop-i g l =
    IsReady g.P.Propagator.is_ready g.P.Propagator.attached l.search × (vars_of l.search ≡ vars_of l.fn.search) × (log_of l.search ≡ log_of l.fn.search) × (last_of l.search ≤ l.kept.all)
    × ((j : ℕ) → l.i ≤ j → j < length l.kept.numbers.items → last_of l.search < get_or l.kept.numbers.items j 0) × HasNumbered l.kept.formula.clauses l.kept.numbers.items l.search
