use Rattle.std.proofs.Common.{sym, arith, rules, length}
use Rattle.std.proofs.lemmas.List.Sums.{position_or_len_is}
use Rattle.lrat_text.specs.inner.Tokens.{is_space}
use Rattle.lrat_text.proofs.token.word_len.Goals as goal

pub returns-then-is_space-clause-value : goal.returns-then-is_space-clause-value
returns-then-is_space-clause-value c =
    sym (position_or_len_is is_space c.args.text.now c.loop-i.i 0 (omega arith) c.loop-i.invariant (λ _. search rules))

pub returns-clause-value : goal.returns-clause-value
returns-clause-value c =
    sym (position_or_len_is is_space c.args.text.now (length c.args.text.now) 0 (omega arith) (λ k h. c.loop-i.invariant k (omega arith)) (λ h. absurd (omega arith)))
