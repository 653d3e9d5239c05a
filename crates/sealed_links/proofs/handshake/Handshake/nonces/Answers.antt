use Rattle.sealed_links.specs.Handshakes.{nonces_of}
use Rattle.sealed_links.proofs.handshake.Handshake.nonces.Goals as goal

pub returns-in-Coordinator : goal.returns-in-Coordinator
unfolding nonces_of
returns-in-Coordinator c = rw c.in-Coordinator.is (λ i. record { coordinator = c.args.self.now.nonce; worker = c.part-peers.ensures i })

pub returns-in-Worker : goal.returns-in-Worker
unfolding nonces_of
returns-in-Worker c = rw c.in-Worker.is (λ i. record { coordinator = c.part-peers.ensures i; worker = c.args.self.now.nonce })
