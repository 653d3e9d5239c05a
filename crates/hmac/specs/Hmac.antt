-- HMAC (RFC 2104, section 2) with SHA-256 (FIPS 180-4) as its hash function H. Keys and texts are lists of bytes, and a block of H has
-- B = 64 bytes.
use Rattle.std.specs.Prelude.{ℕ, ◌-◌, List, ◌++◌, length, map, replicate, bit_xor, nat_lt, if◌then◌else◌}
use Rattle.std.specs.List.{zip}
use Rattle.sha2.specs.Sha256.{sha256}

-- ipad: the byte 0x36 repeated B times
unfoldable pub ipad : List ℕ
ipad = replicate 64 0x36

-- opad: the byte 0x5C repeated B times
unfoldable pub opad : List ℕ
opad = replicate 64 0x5C

-- the exclusive or of two lists of the same length, byte by byte
unfoldable pub xored : List ℕ → List ℕ → List ℕ
xored xs ys = map (λ p. bit_xor p.0 p.1) (zip xs ys)

-- a key of at most B bytes, with zeros appended up to B bytes
unfoldable pub padded : List ℕ → List ℕ
padded key = key ++ replicate (64 - length key) 0

-- K: the key in B bytes; a key of more than B bytes is hashed first
unfoldable pub block_of : List ℕ → List ℕ
block_of key = padded (if nat_lt 64 (length key) then sha256 key else key)

-- H(K XOR opad, H(K XOR ipad, text)), where a comma appends
unfoldable pub hmac_of : List ℕ → List ℕ → List ℕ
hmac_of key text = sha256 (xored (block_of key) opad ++ sha256 (xored (block_of key) ipad ++ text))
