use Rattle.std.proofs.Common.{◌≡◌, length, sym, ◌∙◌, arith}
use Rattle.sealed_links.specs.Handshakes.{digest_heard}
use Rattle.sealed_links.proofs.HandshakeLemmas.{length-heard_of}
use Rattle.sealed_links.proofs.handshake.Handshake.verdict.Goals as goal

pub returns-then-self-lt-WHOLE : goal.returns-then-self-lt-WHOLE
returns-then-self-lt-WHOLE c =
    let long : length c.args.self.now.heard ≡ 96 = omega arith in omega (arith, length-heard_of c.args.self.now long)

pub returns-then-not-has_shown : goal.returns-then-not-has_shown
returns-then-not-has_shown c =
    let long : length c.args.self.now.heard ≡ 96 = omega arith in (
      omega (arith, length-heard_of c.args.self.now long, c.args.self.now.within),
      λ shown. cc (c.has_shown.ensures.1 shown),
    )

pub returns-then-not-is_same : goal.returns-then-not-is_same
unfolding digest_heard
returns-then-not-is_same c =
    let long : length c.args.self.now.heard ≡ 96 = omega arith in (
      omega (arith, length-heard_of c.args.self.now long, c.args.self.now.within),
      c.has_shown.ensures.0 c.if-not-has_shown.false,
      λ same. cc (c.is_same.ensures.1 (c.part.ensures ∙ same)),
    )

pub returns : goal.returns
unfolding digest_heard
returns c =
    let long : length c.args.self.now.heard ≡ 96 = omega arith in (
      omega (arith, length-heard_of c.args.self.now long, c.args.self.now.within),
      c.has_shown.ensures.0 c.if-not-has_shown.false,
      sym c.part.ensures ∙ c.is_same.ensures.0 c.if-not-is_same.false,
      c.session.ensures,
    )
