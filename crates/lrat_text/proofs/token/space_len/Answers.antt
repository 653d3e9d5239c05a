use Rattle.std.proofs.Common.{sym, ◌∙◌, arith, length}
use Rattle.std.proofs.lemmas.List.Sums.{prefix_len_is}
use Rattle.lrat_text.specs.inner.Tokens.{is_space}
use Rattle.lrat_text.proofs.token.space_len.Goals as goal

pub returns-then-not-is_space-clause-value : goal.returns-then-not-is_space-clause-value
returns-then-not-is_space-clause-value c =
    sym (prefix_len_is is_space c.args.text.now c.loop-i.i 0 (omega arith) c.loop-i.invariant (λ _. sym c.is_space.ensures ∙ c.if-not-is_space.true))

pub returns-clause-value : goal.returns-clause-value
returns-clause-value c =
    sym (prefix_len_is is_space c.args.text.now (length c.args.text.now) 0 (omega arith) (λ k h. c.loop-i.invariant k (omega arith)) (λ h. absurd (omega arith)))
