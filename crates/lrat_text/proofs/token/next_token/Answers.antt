use Rattle.std.proofs.Common.{◌∷◌, ◌∙◌, ◌-◌, length, take, drop, ap, sym, arith, refl}
use Rattle.std.proofs.lemmas.Bool.Decides.{nat_tests}
use Rattle.lrat_text.specs.Parser.{line_tokens}
use Rattle.lrat_text.proofs.TokenLemmas.{tokens_none, line_next, tail_is}
use Rattle.lrat_text.proofs.token.next_token.Goals as goal

pub returns-then-is_empty-clause-token : goal.returns-then-is_empty-clause-token
returns-then-is_empty-clause-token c = tokens_none c.args.line.now c.space_len.result c.space_len.ensures.value (grind (arith, nat_tests))

pub returns-clause-token : goal.returns-clause-token
returns-clause-token c =
    let text = take (length c.args.line.now - c.space_len.result) (drop c.space_len.result c.args.line.now) in
    let m = c.first_token-token.result.1 in
    line_next c.args.line.now _ _ c.space_len.result c.first_token-token.result.1 _ c.first_token-token.ensures.token c.space_len.ensures.value refl c.first_token-token.ensures.len c.first_token-token.ensures.bound (grind (arith, nat_tests)) refl
    ∙ ap (λ more. c.first_token-token.result.0 ∷ more) (ap line_tokens (tail_is text m) ∙ sym c.after_token.ensures.tokens)
