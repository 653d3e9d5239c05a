use Rattle.std.proofs.Common.{arith, refl, sym, ap, ◌∙◌, ◌^◌, min}
use Rattle.std.specs.Option.{option_map}
use Rattle.lrat_text.proofs.DigitLemmas.{digits_more, digits_len, digits_bad, digits_all}
use Rattle.lrat_text.proofs.token.digits.Goals as goal

pub returns-then-is_space-clause-len : goal.returns-then-is_space-clause-len
returns-then-is_space-clause-len c = digits_len c.args.text.now c.loop-i.i _ c.loop-i.value (omega arith) refl c.loop-i.invariant.1 (sym c.is_space.ensures ∙ c.if-is_space.true)

pub returns-else-is_space-clause-value : goal.returns-else-is_space-clause-value
returns-else-is_space-clause-value c =
    sym (ap (option_map (min (2 ^ 48))) (digits_bad c.args.text.now c.loop-i.i _ c.loop-i.value (omega arith) refl c.loop-i.invariant.1 c.word_len.result c.word_len.ensures.value c.word_len.ensures.bound
    (sym c.is_ascii_digit.ensures.value ∙ c.if-not-is_ascii_digit.true) (sym c.is_space.ensures ∙ c.if-is_space.false)))

pub loop-i-preserved : goal.loop-i-preserved
loop-i-preserved c = (
  omega arith,
  digits_more c.args.text.now c.loop-i.i _ c.loop-i.value (omega arith) refl c.loop-i.invariant.1 c.min-value.result (sym c.is_ascii_digit.ensures.value ∙ c.if-not-is_ascii_digit.false) (omega arith),
)

pub returns-clause-len : goal.returns-clause-len
returns-clause-len c = digits_all c.args.text.now c.loop-i.i c.loop-i.value (omega arith) c.loop-i.invariant.1
