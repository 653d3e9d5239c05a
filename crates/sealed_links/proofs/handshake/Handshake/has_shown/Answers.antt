use Rattle.std.proofs.Common.{ap, sym, ◌∙◌}
use Rattle.hmac.specs.Hmac.{hmac_of}
use Rattle.sealed_links.specs.Handshakes.{HasShown, digest_heard, said, shows}
use Rattle.sealed_links.proofs.handshake.Handshake.has_shown.Goals as goal

pub returns : goal.returns
unfolding HasShown digest_heard
returns c =
    let wanted = c.mac-wanted.ensures ∙ (λ i. hmac_of c.args.key.now.bytes.items (said ((c.shows.ensures ∙ ap shows c.other.ensures) i) (c.nonces.ensures i) (c.part.ensures i))) in (
      λ told. sym c.part-2.ensures ∙ c.is_same.ensures.0 told ∙ wanted,
      λ shown. c.is_same.ensures.1 (c.part-2.ensures ∙ shown ∙ sym wanted),
    )
