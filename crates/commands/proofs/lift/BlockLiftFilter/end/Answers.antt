use Rattle.std.proofs.Common.{ℕ, List, ◌++◌, sym, subst}
use Rattle.commands.proofs.LiftLemmas.{other_is}
use Rattle.commands.proofs.lift.BlockLiftFilter.end.Goals as goal
use Rattle.leaves.specs.BlockLift.{PrintsBlock}
use Rattle.lidrup.specs.CubeLog.{ComesTo}
use Rattle.lidrup.specs.View.{state_of}

pub returns-in-Ok-clause-ended : goal.returns-in-Ok-clause-ended
returns-in-Ok-clause-ended c = λ F place cubes text handed h.
    let Whole : List ℕ → Type 0 = λ out. ComesTo F text (handed ++ out) (state_of c.args.self.log.lines.known) × PrintsBlock F place cubes text (handed ++ out) c.in_ok-report-in-Ok.report in
    subst Whole (sym c.in_ok-rest-in-Ok.ensures.rest) (c.in-Ok.ensures.ends F place cubes text handed h, c.in_ok-report-in-Ok.ensures.prints F place cubes text handed h)

pub returns-clause-ended : goal.returns-clause-ended
returns-clause-ended c = λ F place cubes text handed h. record {
  fault = c.in-Err.fault;
  first = other_is c.in-Err.fault (c.in-Err.ensures.ends F place cubes text handed h) c.in_ok-refused-in-Err.ensures.memory;
  prints = c.in_ok-refused-in-Err.ensures.text;
}
