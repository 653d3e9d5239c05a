-- A text that is written in pieces of 65,536 bytes.
use Rattle.std.specs.Prelude.{◌≡◌, ◌<◌, ◌≤◌, ◌++◌, ◌+◌, ◌*◌, ◌/◌, ℕ, List, [], length, take, drop}
use Rattle.std.proofs.Common.{sym, ◌∙◌, ap, arith}
use Rattle.std.proofs.Math.Seq.{take-add}
use Rattle.std.proofs.lemmas.List.{take_all}

-- what is written is a front of the text, and the next piece comes after it
pub front_more : (i : ℕ) (text piece : List ℕ) → piece ≡ take 65536 (drop (65536 * i) text) → take (65536 * i) text ++ piece ≡ take (65536 * (i + 1)) text
front_more i text piece e =
    let next : 65536 * i + 65536 ≡ 65536 * (i + 1) = omega arith in
    ap (λ p. take (65536 * i) text ++ p) e ∙ sym (take-add (65536 * i) 65536 text) ∙ ap (λ n. take n text) next

-- once as many pieces are written as the text has, all of it is
pub front_is_whole : (i : ℕ) (text : List ℕ) → length text / 65536 < i → take (65536 * i) text ≡ text
front_is_whole i text more = take_all (65536 * i) text (omega (arith, more))
