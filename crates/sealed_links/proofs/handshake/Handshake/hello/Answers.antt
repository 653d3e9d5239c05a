use Rattle.std.proofs.Common.{◌++◌, replicate, refl, ◌∙◌}
use Rattle.sealed_links.proofs.JoinLemmas.{back_half, joined_halves}
use Rattle.sealed_links.proofs.handshake.Handshake.hello.Goals as goal

pub returns : goal.returns
returns c =
    let first = c.copy_from_slice.new.self in
    let long = c.copy_from_slice-2.ensures.len ∙ back_half 32 first (replicate 32 0) c.copy_from_slice.ensures.len refl in
    joined_halves 32 first c.copy_from_slice-2.new.self (replicate 32 0) c.copy_from_slice.ensures.len long refl
    ∙ (λ i. c.copy_from_slice.ensures.after i ++ c.copy_from_slice-2.ensures.after i)
