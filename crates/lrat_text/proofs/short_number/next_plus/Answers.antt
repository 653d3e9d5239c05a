use Rattle.std.proofs.Common.{arith}
use Rattle.lrat_text.proofs.SignedLemmas.{plus_first}
use Rattle.lrat_text.proofs.short_number.next_plus.Goals as goal

pub returns-clause-token : goal.returns-clause-token
returns-clause-token c =
    let found = c.in-Some.ensures in
    plus_first c.args.line.now _ c.in-Some.len c.in-Some.n found.value found.some found.small found.len found.bound.0 (omega (arith, found.bound)) c.after_token.ensures.tokens
