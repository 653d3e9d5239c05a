use Rattle.std.proofs.Common.{◌<◌, ◌+◌, length, refl, arith, length-drop}
use Rattle.std.proofs.lemmas.Bool.Decides.{nat_tests}
use Rattle.lrat_text.proofs.SignedLemmas.{signed_first, has_digit}
use Rattle.lrat_text.proofs.short_number.next_signed.Goals as goal

pub returns-clause-token : goal.returns-clause-token
returns-clause-token c =
    let found = c.in-Some.ensures in
    let line = c.args.line.now in
    let from = c.sign_len-from.result in
    let some : 0 < length line = grind (arith, nat_tests) in
    signed_first _ line _ from c.in-Some.len c.in-Some.n c.sign_len-from.ensures some refl found.value found.some found.small found.len
    found.bound c.after_token.ensures.tokens

pub returns-clause-shorter : goal.returns-clause-shorter
returns-clause-shorter c =
    let digit : 0 < c.in-Some.len = has_digit c.in-Some.len c.in-Some.n _ c.in-Some.ensures.value in
    let some : 0 < length c.args.line.now = grind (arith, nat_tests) in
    omega (arith, length-drop (c.sign_len-from.result + c.in-Some.len) c.args.line.now, c.after_token.ensures.rest)
