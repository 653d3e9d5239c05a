use Rattle.std.proofs.Common.{◌≡◌, ◌-◌, length, ap, sym, ◌∙◌, arith}
use Rattle.sealed_links.proofs.HandshakeLemmas.{length-heard_of}
use Rattle.sealed_links.proofs.handshake.Handshake.lacks.Goals as goal

pub returns : goal.returns
returns c =
    let long : length c.args.self.now.heard ≡ 96 = omega arith in
    c.saturating_sub.ensures ∙ ap (λ n. 64 - n) (sym (length-heard_of c.args.self.now long))
