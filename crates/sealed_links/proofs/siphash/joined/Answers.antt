use Rattle.std.proofs.Common.{◌≡◌, ◌++◌, ◌∷◌, [], length, ap, ◌∙◌, refl}
use Rattle.sealed_links.specs.Numbers.{bytes8}
use Rattle.sealed_links.proofs.JoinLemmas.{joined_halves}
use Rattle.sealed_links.proofs.NumberLemmas.{length-bytes8}
use Rattle.sealed_links.proofs.siphash.joined.Goals as goal

pub returns : goal.returns
returns c =
    let first : c.copy_from_slice.new.self ≡ bytes8 c.args.first = c.copy_from_slice.ensures.after ∙ c.bytes_of8.ensures in
    let second : c.copy_from_slice-2.new.self ≡ bytes8 c.args.second = c.copy_from_slice-2.ensures.after ∙ c.bytes_of8-2.ensures in
    joined_halves 8 _ _ (0 ∷ 0 ∷ 0 ∷ 0 ∷ 0 ∷ 0 ∷ 0 ∷ 0 ∷ []) (ap length first ∙ length-bytes8 _) (ap length second ∙ length-bytes8 _) refl
    ∙ (λ i. first i ++ second i)
