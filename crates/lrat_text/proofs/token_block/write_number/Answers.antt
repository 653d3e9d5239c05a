use Rattle.std.proofs.Common.{◌<◌, ◌^◌, decimal, arith}
use Rattle.std.proofs.lemmas.Fmt.{length-decimal-le}
use Rattle.lrat_text.proofs.TokenBlockLemmas.{byte_before}
use Rattle.lrat_text.proofs.token_block.write_number.Goals as goal

pub write_digits-digits-requires : goal.write_digits-digits-requires
write_digits-digits-requires c =
    let small : c.args.number < 2 ^ 64 = c.ranges.number.fits in
    (omega (arith, length-decimal-le 20 c.args.number (omega arith) (omega arith) (omega arith)), c.requires.1)

pub overflow_sub-room : goal.overflow_sub-room
overflow_sub-room c =
    let small : c.args.number < 2 ^ 64 = c.ranges.number.fits in
    omega (arith, c.write_digits-digits.ensures.start, length-decimal-le 20 c.args.number (omega arith) (omega arith) (omega arith))

pub overflow_sub-result : goal.overflow_sub-result
overflow_sub-result c =
    let small : c.args.number < 2 ^ 64 = c.ranges.number.fits in
    omega (arith, c.write_digits-digits.ensures.start, length-decimal-le 20 c.args.number (omega arith) (omega arith) (omega arith))

pub returns-clause-start : goal.returns-clause-start
returns-clause-start c =
    let small : c.args.number < 2 ^ 64 = c.ranges.number.fits in
    omega (arith, c.write_digits-digits.ensures.start, length-decimal-le 20 c.args.number (omega arith) (omega arith) (omega arith))

pub returns-clause-text : goal.returns-clause-text
returns-clause-text c =
    let small : c.args.number < 2 ^ 64 = c.ranges.number.fits in
    let d = c.write_digits-digits in
    byte_before d.new.buf (decimal c.args.number) _ d.result 32
    (omega (arith, d.ensures.start, length-decimal-le 20 c.args.number (omega arith) (omega arith) (omega arith)))
    (omega (arith, d.ensures.start)) d.ensures.written
