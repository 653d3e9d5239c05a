use Rattle.std.proofs.Common.{Option, subst}
use Rattle.cube_solve.specs.declared.stepwise.End.{End}
use Rattle.cube_solve.specs.inner.Turns.{IsTurned}
use Rattle.cube_solve.proofs.stepwise.Stepwise.turns.Goals as goal

pub turn-requires : goal.turn-requires
turn-requires g c = let (B, limit, before, h) = c.requires in (B, limit, before, c.turns.invariant B limit before h)

pub turns-preserved : goal.turns-preserved
turns-preserved g c = λ B limit before h.
    subst (λ (t : Option End). IsTurned g.P.Propagator.is_ready g.P.Propagator.attached B c.args.cube.now limit before t c.turn.new.self) c.in-None.is
    (c.in_ok-end.ensures B limit before (c.turns.invariant B limit before h))
