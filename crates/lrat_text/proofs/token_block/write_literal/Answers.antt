use Rattle.std.proofs.Common.{◌≡◌, ◌<◌, ◌^◌, ◌∷◌, ◌++◌, ◌∙◌, List, ℕ, drop, decimal, ap, sym, arith}
use Rattle.std.proofs.lemmas.Fmt.{length-decimal-le}
use Rattle.dimacs.specs.logic.Literal.{var_of}
use Rattle.lrat_text.proofs.TokenBlockLemmas.{byte_before, two_before}
use Rattle.lrat_text.proofs.WrittenLineLemmas.{minus_token, plain_token}
use Rattle.lrat_text.proofs.token_block.write_literal.Goals as goal

pub write_digits-digits-requires : goal.write_digits-digits-requires
write_digits-digits-requires c =
    let small : c.from.result < 2 ^ 64 = omega (arith, c.from.ensures, c.number.ensures.below) in
    (omega (arith, length-decimal-le 20 c.from.result (omega arith) (omega arith) (omega arith)), c.requires.1)

pub overflow_sub-room : goal.overflow_sub-room
overflow_sub-room c =
    let small : c.from.result < 2 ^ 64 = omega (arith, c.from.ensures, c.number.ensures.below) in
    omega (arith, c.write_digits-digits.ensures.start, length-decimal-le 20 c.from.result (omega arith) (omega arith) (omega arith))

pub overflow_sub-room-then-is_negative : goal.overflow_sub-room-then-is_negative
overflow_sub-room-then-is_negative c =
    let small : c.from.result < 2 ^ 64 = omega (arith, c.from.ensures, c.number.ensures.below) in
    omega (arith, c.write_digits-digits.ensures.start, length-decimal-le 20 c.from.result (omega arith) (omega arith) (omega arith))

pub overflow_sub-result : goal.overflow_sub-result
overflow_sub-result c =
    let small : c.from.result < 2 ^ 64 = omega (arith, c.from.ensures, c.number.ensures.below) in
    omega (arith, c.write_digits-digits.ensures.start, length-decimal-le 20 c.from.result (omega arith) (omega arith) (omega arith))

pub returns-then-is_negative-clause-start : goal.returns-then-is_negative-clause-start
returns-then-is_negative-clause-start c =
    let small : c.from.result < 2 ^ 64 = omega (arith, c.from.ensures, c.number.ensures.below) in
    omega (arith, c.write_digits-digits.ensures.start, length-decimal-le 20 c.from.result (omega arith) (omega arith) (omega arith))

pub returns-then-is_negative-clause-text : goal.returns-then-is_negative-clause-text
returns-then-is_negative-clause-text c =
    let small : c.from.result < 2 ^ 64 = omega (arith, c.from.ensures, c.number.ensures.below) in
    let d = c.write_digits-digits in
    let rest = drop c.args.end c.args.room.now in
    let number : c.from.result ≡ var_of c.args.literal = c.from.ensures ∙ c.number.ensures.value ∙ c.var.ensures in
    let token = minus_token c.args.literal (sym c.is_negative.ensures ∙ c.if-is_negative.true) (omega (arith, number, c.from.ensures, c.number.ensures.above)) in
    two_before d.new.buf (decimal c.from.result) rest d.result 32 45
    (omega (arith, d.ensures.start, length-decimal-le 20 c.from.result (omega arith) (omega arith) (omega arith)))
    (omega (arith, d.ensures.start)) d.ensures.written
    ∙ ap (λ (n : ℕ). (32 ∷ 45 ∷ decimal n) ++ rest) number
    ∙ ap (λ (x : List ℕ). (32 ∷ x) ++ rest) (sym token)

pub overflow_sub-room-2 : goal.overflow_sub-room-2
overflow_sub-room-2 c =
    let small : c.from.result < 2 ^ 64 = omega (arith, c.from.ensures, c.number.ensures.below) in
    omega (arith, c.write_digits-digits.ensures.start, length-decimal-le 20 c.from.result (omega arith) (omega arith) (omega arith))

pub overflow_sub-result-2 : goal.overflow_sub-result-2
overflow_sub-result-2 c =
    let small : c.from.result < 2 ^ 64 = omega (arith, c.from.ensures, c.number.ensures.below) in
    omega (arith, c.write_digits-digits.ensures.start, length-decimal-le 20 c.from.result (omega arith) (omega arith) (omega arith))

pub returns-clause-start : goal.returns-clause-start
returns-clause-start c =
    let small : c.from.result < 2 ^ 64 = omega (arith, c.from.ensures, c.number.ensures.below) in
    omega (arith, c.write_digits-digits.ensures.start, length-decimal-le 20 c.from.result (omega arith) (omega arith) (omega arith))

pub returns-clause-text : goal.returns-clause-text
returns-clause-text c =
    let small : c.from.result < 2 ^ 64 = omega (arith, c.from.ensures, c.number.ensures.below) in
    let d = c.write_digits-digits in
    let rest = drop c.args.end c.args.room.now in
    let number : c.from.result ≡ var_of c.args.literal = c.from.ensures ∙ c.number.ensures.value ∙ c.var.ensures in
    let token = plain_token c.args.literal (sym c.is_negative.ensures ∙ c.if-is_negative.false) in
    byte_before d.new.buf (decimal c.from.result) rest d.result 32
    (omega (arith, d.ensures.start, length-decimal-le 20 c.from.result (omega arith) (omega arith) (omega arith)))
    (omega (arith, d.ensures.start)) d.ensures.written
    ∙ ap (λ (n : ℕ). (32 ∷ decimal n) ++ rest) number
    ∙ ap (λ (x : List ℕ). (32 ∷ x) ++ rest) (sym token)
