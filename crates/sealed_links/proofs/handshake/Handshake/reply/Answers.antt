use Rattle.std.proofs.Common.{◌≡◌, length, refl, arith}
use Rattle.sealed_links.proofs.HandshakeLemmas.{length-heard_of}
use Rattle.sealed_links.proofs.handshake.Handshake.reply.Goals as goal

pub returns-then-self-lt-HELLO-clause-some : goal.returns-then-self-lt-HELLO-clause-some
returns-then-self-lt-HELLO-clause-some c =
    let long : length c.args.self.now.heard ≡ 96 = omega arith in (λ e. cc e, λ many. absurd (omega (arith, many, length-heard_of c.args.self.now long)))

pub returns-clause-some : goal.returns-clause-some
returns-clause-some c =
    let long : length c.args.self.now.heard ≡ 96 = omega arith in (λ e. omega (arith, length-heard_of c.args.self.now long), λ many. refl)
