-- SipHash-2-4 with 128 bits of output (Aumasson and Bernstein 2012, section 2; the 128 bits as in the authors' reference code).
use Rattle.std.specs.Prelude.{ℕ, zero, suc, ◌+◌, ◌-◌, ◌*◌, ◌/◌, ◌%◌, ◌^◌, List, [], ◌∷◌, ◌++◌, length, take, drop, replicate, bit_xor}
use Rattle.std.specs.Int.{w64, rotate_left}
use Rattle.sealed_links.specs.Numbers.{bytes8, number8}
use Rattle.sealed_links.specs.declared.siphash.TagKey.{TagKey}
use Rattle.sealed_links.specs.declared.siphash.State.{State}

-- the sum of two words, modulo 2 ^ 64
abbrev pub add : ℕ → ℕ → ℕ
add x y = (x + y) % 2 ^ 64

-- SipRound
unfoldable pub rounded : State → State
rounded s =
    let a0 = add s.v0 s.v1 in
    let a2 = add s.v2 s.v3 in
    let a1 = bit_xor (rotate_left w64 s.v1 13) a0 in
    let a3 = bit_xor (rotate_left w64 s.v3 16) a2 in
    let b2 = add a2 a1 in
    let b0 = add (rotate_left w64 a0 32) a3 in
    record { v0 = b0; v1 = bit_xor (rotate_left w64 a1 17) b2; v2 = rotate_left w64 b2 32; v3 = bit_xor (rotate_left w64 a3 21) b0 }

-- the state after a word: c = 2 rounds
unfoldable pub compressed : State → ℕ → State
compressed s m =
    let t = rounded (rounded (record { v0 = s.v0; v1 = s.v1; v2 = s.v2; v3 = bit_xor s.v3 m })) in
    record { v0 = bit_xor t.v0 m; v1 = t.v1; v2 = t.v2; v3 = t.v3 }

-- word number i of a text, its lowest byte first
unfoldable pub word : List ℕ → ℕ → ℕ
word text i = number8 (take 8 (drop (8 * i) text))

-- the state before the first word; for 128 bits of output v1 begins with another constant
unfoldable pub started : TagKey → State
started key = record {
  v0 = bit_xor key.k0 0x736f_6d65_7073_6575;
  v1 = bit_xor (bit_xor key.k1 0x646f_7261_6e64_6f6d) 0xee;
  v2 = bit_xor key.k0 0x6c79_6765_6e65_7261;
  v3 = bit_xor key.k1 0x7465_6462_7974_6573;
}

-- the state s after the first n words of a text
unfoldable pub absorbed : State → ℕ → List ℕ → State
absorbed s zero text = s
absorbed s (suc n) text = compressed (absorbed s n text) (word text n)

-- the last word: the bytes that make no whole word, zeros, and the length modulo 256
unfoldable pub last_word : List ℕ → ℕ
last_word text =
    let rest = drop (8 * (length text / 8)) text in
    number8 (rest ++ replicate (7 - length rest) 0 ++ (length text % 256) ∷ [])

-- d = 4 rounds
unfoldable pub mixed : State → State
mixed s = rounded (rounded (rounded (rounded s)))

-- the exclusive or of the four words
unfoldable pub folded : State → ℕ
folded s = bit_xor (bit_xor (bit_xor s.v0 s.v1) s.v2) s.v3

-- the tag of the state after the last word: two words, each with its lowest byte first
unfoldable pub finished : State → List ℕ
finished s =
    let a = mixed (record { v0 = s.v0; v1 = s.v1; v2 = bit_xor s.v2 0xee; v3 = s.v3 }) in
    let b = mixed (record { v0 = a.v0; v1 = bit_xor a.v1 0xdd; v2 = a.v2; v3 = a.v3 }) in
    bytes8 (folded a) ++ bytes8 (folded b)

-- the tag of a text under a key
unfoldable pub tag_of : TagKey → List ℕ → List ℕ
tag_of key text = finished (compressed (absorbed (started key) (length text / 8) text) (last_word text))
