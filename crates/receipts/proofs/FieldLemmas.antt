-- The fields of a receipt's head.
use Rattle.std.proofs.Common.{◌≡◌, ◌≢◌, ℕ, ◌*◌, ◌^◌, ◌<◌, List, ◌++◌, length, decimal, Bool, true, false, not, OnOk, bytes_eq, Result, Ok, Err, refl, sym, ◌∙◌, ap, subst, arith}
use Rattle.std.specs.Prelude.{MatchResult}
use Rattle.std.specs.Result.{is_err}
use Rattle.std.specs.Str.{IsUtf8}
use Rattle.std.specs.Str.Parse.{ParsesUnsigned}
use Rattle.std.proofs.lemmas.Bool.{true≢false}
use Rattle.std.proofs.lemmas.Slice.Eq.{bytes_eq-Decides}
use Rattle.std.proofs.lemmas.Fmt.{IsAscii-decimal, parse-decimal}
use Rattle.std.proofs.lemmas.Str.{IsUtf8-from_ascii}
use Rattle.hex.specs.declared.error.FromHexError.{FromHexError}
use Rattle.hex.specs.Hex.{decode_sized, encode_lower, lower_digits}
use Rattle.hex.proofs.HexLemmas.{decode_of-ok, decode_sized-ok, decode_sized-twice, length-encode_with, decode_sized-encode_lower}
use Rattle.receipts.specs.Receipts.{IsDigest}
use Rattle.receipts.proofs.TextLemmas.{same_front}

pub digits_long : (d : List ℕ) → IsDigest d → length (encode_lower d) ≡ 64
digits_long d h = let l = h.long in length-encode_with lower_digits d ∙ omega arith

pub digest_decodes : (digits d : List ℕ) → IsDigest d → digits ≡ encode_lower d → decode_sized digits 32 ≡ Ok d
digest_decodes digits d h e = ap (λ (x : List ℕ). decode_sized x 32) e ∙ decode_sized-encode_lower d 32 h.long h.each

pub digest_front : (text digits rest d more : List ℕ) → IsDigest d → text ≡ digits ++ rest → length digits ≡ 64 → text ≡ encode_lower d ++ more → (digits ≡ encode_lower d) × (rest ≡ more)
digest_front text digits rest d more h e long f = same_front digits (encode_lower d) rest more (long ∙ sym (digits_long d h)) (sym e ∙ f)

-- digits that are not decoded spell no digest
pub undecoded : (digits : List ℕ) (n : ℕ) (r : Result (Unit {0}) FromHexError) (new : List ℕ) → n ≡ 32
    → MatchResult (decode_sized digits n) (λ bytes. (r ≡ Ok tt) × (new ≡ bytes)) (λ e. r ≡ Err e) → is_err r ≡ true → (d : List ℕ) → IsDigest d → digits ≢ encode_lower d
undecoded digits n r new long h bad d is e =
    let found : decode_sized digits n ≡ Ok d = ap (decode_sized digits) long ∙ digest_decodes digits d is e in
    let well : (r ≡ Ok tt) × (new ≡ d) = subst (λ (x : Result (List ℕ) FromHexError). MatchResult x (λ bytes. (r ≡ Ok tt) × (new ≡ bytes)) (λ e. r ≡ Err e)) found h in
    true≢false (sym bad ∙ ap is_err well.0)

-- nor do digits other than those that are written for their bytes
pub unwritten : (digits again : List ℕ) (n : ℕ) (r : Result (Unit {0}) FromHexError) (new : List ℕ) → n ≡ 32
    → MatchResult (decode_sized digits n) (λ bytes. (r ≡ Ok tt) × (new ≡ bytes)) (λ e. r ≡ Err e) → again ≡ encode_lower new → again ≢ digits → (d : List ℕ) → IsDigest d → digits ≢ encode_lower d
unwritten digits again n r new long h is other d small e =
    let found : decode_sized digits n ≡ Ok d = ap (decode_sized digits) long ∙ digest_decodes digits d small e in
    let well : (r ≡ Ok tt) × (new ≡ d) = subst (λ (x : Result (List ℕ) FromHexError). MatchResult x (λ bytes. (r ≡ Ok tt) × (new ≡ bytes)) (λ e. r ≡ Err e)) found h in
    other (is ∙ ap encode_lower well.1 ∙ sym e)

-- ---- numbers
-- a line that is not UTF-8 spells no number
pub number_is_text : (line : List ℕ) (n : ℕ) → n < 2 ^ 64 → line ≡ decimal n → IsUtf8 line
number_is_text line n low e = subst IsUtf8 (sym e) (IsUtf8-from_ascii (decimal n) (IsAscii-decimal n low))

pub number_is_read : {E : Type 0} (line : List ℕ) (n : ℕ) (r : Result ℕ E) → n < 2 ^ 64 → line ≡ decimal n → ParsesUnsigned 64 10 line r → r ≡ Ok n
number_is_read line n r low e h = parse-decimal 64 n line r low low e h

-- ---- calls that went well, and bytes that differ
pub on_well : {T E P : Type 0} (r : Result T E) → is_err r ≡ false → OnOk r P → P
on_well (Ok x) e h = h
on_well (Err x) e h = absurd (true≢false e)

pub differ : (b : Bool) (x y : List ℕ) → b ≡ not (bytes_eq x y) → b ≡ true → x ≢ y
differ b x y is e same = true≢false (sym e ∙ is ∙ ap not ((bytes_eq-Decides x y).1 same))

pub no_two_ways : {T E : Type 0} (r : Result T E) (x : T) (e : E) → r ≡ Ok x → r ≡ Err e → ⊥
no_two_ways r x e p q = absurd cc

pub one_value : {T E : Type 0} (r : Result T E) (x y : T) → r ≡ Ok x → r ≡ Ok y → x ≡ y
one_value r x y p q = cc

pub same_bytes : (b : Bool) (x y : List ℕ) → b ≡ not (bytes_eq x y) → b ≡ false → x ≡ y
same_bytes b x y is e = at (bytes_eq x y) refl (sym is ∙ e)
  where
    at : (t : Bool) → bytes_eq x y ≡ t → not t ≡ false → x ≡ y
    at true f g = (bytes_eq-Decides x y).0 f
    at false f g = absurd (true≢false g)

-- what was decoded is a digest
pub decoded : (digits : List ℕ) (n : ℕ) (r : Result (Unit {0}) FromHexError) (new : List ℕ) → n ≡ 32
    → MatchResult (decode_sized digits n) (λ bytes. (r ≡ Ok tt) × (new ≡ bytes)) (λ e. r ≡ Err e) → is_err r ≡ false → IsDigest new
decoded digits n r new long h well = at (decode_sized digits n) refl h
  where
    at : (o : Result (List ℕ) FromHexError) → decode_sized digits n ≡ o → MatchResult o (λ bytes. (r ≡ Ok tt) × (new ≡ bytes)) (λ e. r ≡ Err e) → IsDigest new
    at (Ok bytes) e p =
        let twice : length digits ≡ 2 * n = decode_sized-ok digits n bytes e in
        let d = decode_of-ok digits bytes (sym (decode_sized-twice digits n twice) ∙ e) in
        let half = d.2 in
        subst IsDigest (sym p.1) (record { long = omega arith; each = d.3 })
    at (Err f) e p = absurd (true≢false (sym (ap is_err p) ∙ well))
