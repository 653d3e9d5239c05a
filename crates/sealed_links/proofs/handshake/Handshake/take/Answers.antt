use Rattle.std.proofs.Common.{◌≡◌, ◌-◌, length, min, ap, sym, ◌∙◌, arith}
use Rattle.sealed_links.specs.Handshakes.{heard_of}
use Rattle.sealed_links.proofs.HandshakeLemmas.{length-heard_of}
use Rattle.sealed_links.proofs.JoinLemmas.{written_behind}
use Rattle.sealed_links.proofs.handshake.Handshake.take.Goals as goal

pub returns-clause-count : goal.returns-clause-count
returns-clause-count c =
    let long : length c.args.self.now.heard ≡ 96 = omega arith in
    c.min-count.ensures ∙ ap (λ n. min (96 - n) (length c.args.bytes.now)) (sym (length-heard_of c.args.self.now long))

pub returns-clause-heard : goal.returns-clause-heard
unfolding heard_of
returns-clause-heard c =
    let long : length c.args.self.now.heard ≡ 96 = omega arith in
    written_behind c.args.self.now.count c.min-count.result c.args.self.now.heard c.copy_from_slice.new.self c.args.bytes.now (omega (arith, c.args.self.now.within)) (omega (arith, c.min-count.ensures)) c.copy_from_slice.ensures.after
