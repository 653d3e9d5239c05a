use Rattle.std.proofs.Common.{◌≡◌, ◌+◌, ◌-◌, take, drop, ap, ◌∙◌, arith}
use Rattle.sealed_links.proofs.handshake.Handshake.part.Goals as goal

pub returns : goal.returns
returns c =
    let long : c.args.place + 32 - c.args.place ≡ 32 = omega arith in
    c.copy_from_slice.ensures.after ∙ ap (λ n. take n (drop c.args.place c.args.self.now.heard)) long
