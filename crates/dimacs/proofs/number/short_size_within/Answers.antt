use Rattle.std.proofs.Common.{◌<◌, ◌∙◌, length, sym, refl, arith}
use Rattle.std.proofs.lemmas.Bool.Decides.{nat_tests}
use Rattle.dimacs.proofs.ShortLemmas.{short_begin, short_more, short_value, short_len, short_small, seven}
use Rattle.dimacs.proofs.number.short_size_within.Goals as goal
use Rattle.dimacs.proofs.number.short_size_within.Goals.{else-len-text-via-then-len-text+else-not-is_white, else-len-text-via-else-len-text}

pub loop-len-init : goal.loop-len-init
loop-len-init c =
    let some : 0 < length c.args.text.now = grind (arith, nat_tests) in
    short_begin c.args.text.now _ _ some refl c.if-text-le48.false c.if-text-gt57.false c.from-size.ensures

pub overflow_mul-size : goal.overflow_mul-size
overflow_mul-size c = let top = seven c.loop-len.len (omega arith) in omega (arith, c.loop-len.invariant.below, top)

pub overflow_add-size : goal.overflow_add-size
overflow_add-size c = let top = seven c.loop-len.len (omega arith) in omega (arith, c.loop-len.invariant.below, top)

pub loop-len-preserved : goal.loop-len-preserved
loop-len-preserved c =
    short_more c.args.text.now c.loop-len.len _ c.loop-len.size _ (omega arith) (omega arith) refl (sym c.is_ascii_digit.ensures.value ∙ c.if-is_ascii_digit.true) c.from.ensures c.loop-len.invariant

pub returns-clause-len : goal.returns-clause-len
returns-clause-len c = short_len c.args.text.now c.loop-len.len c.loop-len.size c.loop-len.invariant (λ h. elim c.else-len-text.branch [
  | else-len-text-via-then-len-text+else-not-is_white w ↦ sym w.is_white.ensures ∙ w.if-not-is_white.false
  | else-len-text-via-else-len-text w ↦ absurd (omega arith)
])

pub returns-clause-bound : goal.returns-clause-bound
returns-clause-bound c = omega (arith, c.loop-len.invariant.room)

pub returns-clause-value : goal.returns-clause-value
returns-clause-value c = short_value c.args.text.now c.loop-len.len c.loop-len.size c.loop-len.invariant

pub returns-clause-some : goal.returns-clause-some
returns-clause-some c = c.loop-len.invariant.some.1

pub returns-clause-small : goal.returns-clause-small
returns-clause-small c = short_small c.args.text.now c.loop-len.len c.loop-len.size c.loop-len.invariant
