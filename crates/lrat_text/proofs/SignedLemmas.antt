-- A number at the front of a line, with a minus before it or none.
use Rattle.std.proofs.Common.{◌≡◌, ℕ, zero, suc, ◌+◌, ◌-◌, ◌<◌, ◌≤◌, ◌^◌, Bool, true, false, cond, eqb, List, [], ◌∷◌, length, get_or, take, drop, Some, refl, sym, ap, subst, ◌∙◌, arith, length-take, length-drop, map}
use Rattle.std.specs.List.{position_or_len}
use Rattle.std.proofs.lemmas.Bool.{eqb-true}
use Rattle.dimacs.specs.text.Numbers.{natural}
use Rattle.lrat_text.specs.declared.token.Token.{Token}
use Rattle.lrat_text.specs.declared.token.Token.TheVariants.{Plus, Minus}
use Rattle.lrat_text.specs.Parser.{line_tokens, token_of}
use Rattle.lrat_text.specs.inner.Tokens.{is_space, signed_token}
use Rattle.lrat_text.proofs.ShortLemmas.{short_plus, short_minus}
use Rattle.lrat_text.proofs.TokenLemmas.{tail_is, tokens_first}

first_is : (bs : List ℕ) (m : ℕ) (t : Token) → t ≡ token_of (take m bs) → m ≡ position_or_len is_space bs → 0 < m → m ≤ length bs → line_tokens bs ≡ t ∷ line_tokens (drop m bs)
unfolding line_tokens
first_is bs m t is e some top = ap (map token_of) (tokens_first bs m e some top) ∙ ap (λ (x : Token). x ∷ line_tokens (drop m bs)) (sym is)

-- a number has a digit
pub has_digit : (len n : ℕ) (text : List ℕ) → natural (take len text) ≡ Some n → 0 < len
has_digit zero n text h = absurd (cc)
has_digit (suc len) n text h = omega arith

-- a sign stands in front
pub signed_len : (is_negative : Bool) (line : List ℕ) (from len : ℕ) → from ≡ cond is_negative 1 0 → 0 < length line → eqb (get_or line 0 0) 45 ≡ is_negative
    → len ≡ position_or_len is_space (take (length line - from) (drop from line)) → from + len ≡ position_or_len is_space line
signed_len b [] from len e some sign is = absurd (omega arith)
signed_len false (x ∷ xs) from len e some sign is =
    let at : len ≡ position_or_len is_space (x ∷ xs) = is ∙ ap (position_or_len is_space) (tail_is (x ∷ xs) from ∙ ap (λ n. drop n (x ∷ xs)) e) in
    omega (arith, e, at)
signed_len true (x ∷ xs) from len e some sign is =
    let at : len ≡ position_or_len is_space xs = is ∙ ap (position_or_len is_space) (tail_is (x ∷ xs) from ∙ ap (λ n. drop n (x ∷ xs)) e) in
    let behind : position_or_len is_space (x ∷ xs) ≡ 1 + position_or_len is_space xs = rw (eqb-true x 45 sign) refl in
    omega (arith, e, at, behind)

pub signed_first : (is_negative : Bool) (line rest : List ℕ) (from len n : ℕ) → from ≡ cond is_negative 1 0 → 0 < length line → eqb (get_or line 0 0) 45 ≡ is_negative
    → natural (take len (take (length line - from) (drop from line))) ≡ Some n → 1 ≤ n → n < 2 ^ 48 → len ≡ position_or_len is_space (take (length line - from) (drop from line))
    → len ≤ length (take (length line - from) (drop from line)) → line_tokens rest ≡ line_tokens (drop (from + len) line) → line_tokens line ≡ signed_token is_negative n ∷ line_tokens rest
signed_first false line rest from len n e some sign is low high at fits behind =
    let whole : take (length line - from) (drop from line) ≡ line = tail_is line from ∙ ap (λ k. drop k line) e in
    let value : natural (take (from + len) line) ≡ Some n = ap (λ k. natural (take k line)) {y = len} (omega (arith, e)) ∙ ap (λ t. natural (take len t)) (sym whole) ∙ is in
    let more = has_digit len n _ is in
    let top : from + len ≤ length line = omega (arith, e, some, fits, length-take (length line - from) (drop from line), length-drop from line) in
    first_is line (from + len) (Plus n) (short_plus (take (from + len) line) n value low high) (signed_len false line from len e some sign at) (omega (arith, more)) top ∙ ap (λ ts. Plus n ∷ ts) (sym behind)
signed_first true line rest from len n e some sign is low high at fits behind =
    let value = subst (λ k. natural (take len (take (length line - k) (drop k line))) ≡ Some n) e is in
    let same : len + 1 ≡ from + len = omega (arith, e) in
    let token : Minus n ≡ token_of (take (from + len) line) = subst (λ k. Minus n ≡ token_of (take k line)) same (short_minus line len n some (eqb-true (get_or line 0 0) 45 sign) value low high) in
    let more = has_digit len n _ is in
    let top : from + len ≤ length line = omega (arith, e, some, fits, length-take (length line - from) (drop from line), length-drop from line) in
    first_is line (from + len) (Minus n) token (signed_len true line from len e some sign at) (omega (arith, more)) top ∙ ap (λ ts. Minus n ∷ ts) (sym behind)

pub plus_first : (line rest : List ℕ) (len n : ℕ) → natural (take len line) ≡ Some n → 1 ≤ n → n < 2 ^ 48 → len ≡ position_or_len is_space line → 1 ≤ len → len ≤ length line
    → line_tokens rest ≡ line_tokens (drop len line) → line_tokens line ≡ Plus n ∷ line_tokens rest
plus_first line rest len n is low high at some top behind =
    first_is line len (Plus n) (short_plus (take len line) n is low high) at (omega arith) top ∙ ap (λ ts. Plus n ∷ ts) (sym behind)
