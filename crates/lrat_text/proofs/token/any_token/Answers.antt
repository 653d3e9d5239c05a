use Rattle.std.proofs.Common.{arith}
use Rattle.lrat_text.proofs.TokenLemmas.{first_minus, first_letter, first_plus}
use Rattle.lrat_text.proofs.token.any_token.Goals as goal
use Rattle.lrat_text.proofs.token.any_token.Goals.{else-len-eq1-via-then-len-eq1+else-text-eq100, else-len-eq1-via-else-len-eq1}

pub returns-then-text-eq45-clause-token : goal.returns-then-text-eq45-clause-token
returns-then-text-eq45-clause-token c = first_minus c.args.text.now _ _ c.requires.some c.if-text-eq45.true (c.minus_token.ensures.token _ c.natural-size.ensures.value)

pub returns-then-text-eq100-clause-token : goal.returns-then-text-eq100-clause-token
returns-then-text-eq100-clause-token c = first_letter c.args.text.now _ c.requires.some c.if-len-eq1.true c.if-text-eq100.true

pub returns-clause-token : goal.returns-clause-token
returns-clause-token c = first_plus c.args.text.now _ _ c.requires.some c.natural-size-2.ensures.bound c.if-text-eq45.false (λ one d. elim c.else-len-eq1.branch [ else-len-eq1-via-then-len-eq1+else-text-eq100 w ↦ omega arith | else-len-eq1-via-else-len-eq1 w ↦ omega arith ]) (c.plus_token.ensures.token _ c.natural-size-2.ensures.value)
