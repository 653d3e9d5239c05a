-- What a contract sees of a key and of a MAC on its way: the bytes that were taken.
use Rattle.std.specs.Prelude.{ℕ, List, ◌++◌}
use Rattle.sha2.specs.Hashers.{Holds256}
use Rattle.hmac.specs.Hmac.{block_of, ipad, opad, xored}
use Rattle.hmac.specs.declared.mac.Key.{Key}
use Rattle.hmac.specs.declared.mac.Mac.{Mac}

-- the key is that of these bytes: each of its hashers has taken a first block
pub record HoldsKey (key : Key) (bytes : List ℕ) : Type 0 where
  pub inner : Holds256 key.inner (xored (block_of bytes) ipad)
  pub outer : Holds256 key.outer (xored (block_of bytes) opad)

-- the text was taken, under the key of these bytes
pub record HoldsText (mac : Mac) (key text : List ℕ) : Type 0 where
  pub inner : Holds256 mac.inner (xored (block_of key) ipad ++ text)
  pub outer : Holds256 mac.outer (xored (block_of key) opad)
