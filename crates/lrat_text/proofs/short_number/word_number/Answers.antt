use Rattle.std.proofs.Common.{arith, length-take, sym, ◌∙◌}
use Rattle.lrat_text.proofs.ShortLemmas.{short_len, short_small, short_value}
use Rattle.lrat_text.proofs.WordLemmas.{word_short}
use Rattle.lrat_text.proofs.short_number.word_number.Goals as goal

pub returns-clause-len : goal.returns-clause-len
returns-clause-len c =
    let read = c.read_digits-len in
    let short = word_short c.args.text.now read.result.0 read.result.1 (omega arith) (omega arith) (omega (arith, read.ensures.within, length-take 8 c.args.text.now)) read.ensures.end read.ensures.value (omega (arith, c.ten_to.ensures)) in
    short_len c.args.text.now read.result.0 read.result.1 short (λ h. sym c.is_space.ensures ∙ c.if-not-is_space.false)

pub returns-clause-value : goal.returns-clause-value
returns-clause-value c =
    let read = c.read_digits-len in
    let short = word_short c.args.text.now read.result.0 read.result.1 (omega arith) (omega arith) (omega (arith, read.ensures.within, length-take 8 c.args.text.now)) read.ensures.end read.ensures.value (omega (arith, c.ten_to.ensures)) in
    short_value c.args.text.now read.result.0 read.result.1 short

pub returns-clause-some : goal.returns-clause-some
returns-clause-some c =
    let read = c.read_digits-len in
    let short = word_short c.args.text.now read.result.0 read.result.1 (omega arith) (omega arith) (omega (arith, read.ensures.within, length-take 8 c.args.text.now)) read.ensures.end read.ensures.value (omega (arith, c.ten_to.ensures)) in
    short.some.1

pub returns-clause-small : goal.returns-clause-small
returns-clause-small c =
    let read = c.read_digits-len in
    let short = word_short c.args.text.now read.result.0 read.result.1 (omega arith) (omega arith) (omega (arith, read.ensures.within, length-take 8 c.args.text.now)) read.ensures.end read.ensures.value (omega (arith, c.ten_to.ensures)) in
    short_small c.args.text.now read.result.0 read.result.1 short
