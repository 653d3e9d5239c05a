use Rattle.std.proofs.Common.{◌≡◌}
use Rattle.event_loop.specs.declared.connection.State.TheVariants.{Handshake}
use Rattle.event_loop.specs.inner.Handshakes.{HandshakeStep}
use Rattle.event_loop.proofs.receiver.handshake.Goals as goal

pub returns-in-Some : goal.returns-in-Some
returns-in-Some c =
    let fresh : c.args.connection.now.state ≡ Handshake = c.if-not-awaits_handshake.ensures in
    HandshakeStep.comes c.in-Some.frame c.next.new.self fresh c.in-Some.ensures c.handshake.ensures
