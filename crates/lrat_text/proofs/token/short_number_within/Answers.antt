use Rattle.std.proofs.Common.{◌<◌, ◌∙◌, length, sym, refl, arith}
use Rattle.std.proofs.lemmas.Bool.Decides.{nat_tests}
use Rattle.lrat_text.proofs.ShortLemmas.{short_begin, short_more, short_value, short_len, short_small, thirteen}
use Rattle.lrat_text.proofs.token.short_number_within.Goals as goal
use Rattle.lrat_text.proofs.token.short_number_within.Goals.{else-len-text-via-then-len-text+else-not-is_space, else-len-text-via-else-len-text}

pub loop-len-init : goal.loop-len-init
loop-len-init c =
    let some : 0 < length c.args.text.now = grind (arith, nat_tests) in
    short_begin c.args.text.now _ _ some refl c.if-text-le48.false c.if-text-gt57.false c.from-value.ensures

pub overflow_mul-value : goal.overflow_mul-value
overflow_mul-value c = let top = thirteen c.loop-len.len (omega arith) in omega (arith, c.loop-len.invariant.below, top)

pub overflow_add-value : goal.overflow_add-value
overflow_add-value c = let top = thirteen c.loop-len.len (omega arith) in omega (arith, c.loop-len.invariant.below, top)

pub loop-len-preserved : goal.loop-len-preserved
loop-len-preserved c =
    short_more c.args.text.now c.loop-len.len _ c.loop-len.value _ (omega arith) (omega arith) refl (sym c.is_ascii_digit.ensures.value ∙ c.if-is_ascii_digit.true) c.from.ensures c.loop-len.invariant

pub returns-clause-len : goal.returns-clause-len
returns-clause-len c = short_len c.args.text.now c.loop-len.len c.loop-len.value c.loop-len.invariant (λ h. elim c.else-len-text.branch [
  | else-len-text-via-then-len-text+else-not-is_space w ↦ sym w.is_space.ensures ∙ w.if-not-is_space.false
  | else-len-text-via-else-len-text w ↦ absurd (omega arith)
])

pub returns-clause-bound : goal.returns-clause-bound
returns-clause-bound c = omega (arith, c.loop-len.invariant.room)

pub returns-clause-value : goal.returns-clause-value
returns-clause-value c = short_value c.args.text.now c.loop-len.len c.loop-len.value c.loop-len.invariant

pub returns-clause-some : goal.returns-clause-some
returns-clause-some c = c.loop-len.invariant.some.1

pub returns-clause-small : goal.returns-clause-small
returns-clause-small c = short_small c.args.text.now c.loop-len.len c.loop-len.value c.loop-len.invariant
