use Rattle.lrat_text.proofs.ShortLemmas.{short_plus, short_minus, zero_token}
use Rattle.lrat_text.proofs.token.first_token.Goals as goal

pub returns-in-Some-clause-token : goal.returns-in-Some-clause-token
returns-in-Some-clause-token c = let found = c.in-Some.ensures in short_plus _ c.in-Some.n found.value found.some found.small

pub returns-in-Some-short_number-clause-token : goal.returns-in-Some-short_number-clause-token
returns-in-Some-short_number-clause-token c =
    let found = c.in-Some-short_number.ensures in
    short_minus c.args.text.now c.in-Some-short_number.len c.in-Some-short_number.n c.requires.some c.if-text-eq45.true found.value found.some found.small

pub returns-then-begins_with_zero-clause-token : goal.returns-then-begins_with_zero-clause-token
returns-then-begins_with_zero-clause-token c = zero_token _ c.if-begins_with_zero.ensures.1
