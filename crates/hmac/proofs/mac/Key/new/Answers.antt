use Rattle.std.proofs.Common.{List, ℕ, subst}
use Rattle.sha2.specs.Hashers.{Holds256}
use Rattle.hmac.specs.Hmac.{ipad, opad, xored}
use Rattle.hmac.proofs.mac.Key.new.Goals as goal

pub returns : goal.returns
unfolding ipad opad
returns c =
    let Inner : List ℕ → Type 0 = λ block. Holds256 c.hasher_after.result (xored block ipad) in
    let Outer : List ℕ → Type 0 = λ block. Holds256 c.hasher_after-2.result (xored block opad) in record {
      inner = subst Inner c.block_of_key-block.ensures c.hasher_after.ensures;
      outer = subst Outer c.block_of_key-block.ensures c.hasher_after-2.ensures;
    }
