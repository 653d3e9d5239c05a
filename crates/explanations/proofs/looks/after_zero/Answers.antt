use Rattle.std.proofs.Common.{◌≡◌, ◌∙◌, ℕ, List, Option, ◌+◌, ap, sym, drop, Some}
use Rattle.std.specs.Option.{option_map}
use Rattle.memchr.proofs.lemmas.ValueLemmas.{IsFirstByte-value}
use Rattle.memchr.specs.Find.{first_of, is_byte, places}
use Rattle.explanations.proofs.looks.after_zero.Goals as goal

pub returns-in-Some : goal.returns-in-Some
returns-in-Some c =
    let e : c.memchr.result ≡ first_of (places (is_byte 0) c.args.bytes.now) = IsFirstByte-value (is_byte 0) c.args.bytes.now c.memchr.result c.memchr.ensures in
    let behind : Option ℕ → Option (List ℕ) = λ place. option_map (λ end. drop (end + 1) c.args.bytes.now) place in
    let some : List ℕ → Option (List ℕ) = λ rest. Some rest in
    ap some c.split_at.ensures.back ∙ sym (ap behind (sym e ∙ c.in-Some.is))

pub returns-in-None : goal.returns-in-None
returns-in-None c =
    let e : c.memchr.result ≡ first_of (places (is_byte 0) c.args.bytes.now) = IsFirstByte-value (is_byte 0) c.args.bytes.now c.memchr.result c.memchr.ensures in
    let behind : Option ℕ → Option (List ℕ) = λ place. option_map (λ end. drop (end + 1) c.args.bytes.now) place in
    sym (ap behind (sym e ∙ c.in-None.is))
