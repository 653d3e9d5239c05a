use Rattle.std.proofs.Common.{◌≤◌, refl, arith}
use Rattle.event_loop.specs.inner.Handshakes.{TakesFirstFrame}
use Rattle.event_loop.proofs.connection.Connection.handshake.Goals as goal

pub returns-else-highest-number : goal.returns-else-highest-number
returns-else-highest-number c =
    let known = c.if-highest-number.false in
    let number = c.number.ensures.value in
    let low : c.in-Idle.worker ≤ c.args.highest = omega (arith, known, number) in
    TakesFirstFrame.accepted c.in-Idle.worker c.in-Idle.incarnation c.in-Idle.is low refl refl
