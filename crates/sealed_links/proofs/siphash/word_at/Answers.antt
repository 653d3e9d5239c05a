use Rattle.std.proofs.Common.{◌≡◌, ℕ, ◌+◌, ◌-◌, ◌*◌, take, drop, ap, ◌∙◌, arith}
use Rattle.sealed_links.specs.Numbers.{number8}
use Rattle.sealed_links.specs.SipHash.{word}
use Rattle.sealed_links.proofs.siphash.word_at.Goals as goal

pub returns : goal.returns
unfolding word
returns c =
    let from : ℕ = 8 * c.args.i in
    let long : from + 8 - from ≡ 8 = omega arith in
    c.number_of8.ensures ∙ ap number8 (c.copy_from_slice.ensures.after ∙ ap (λ n. take n (drop from c.args.text.now)) long)
