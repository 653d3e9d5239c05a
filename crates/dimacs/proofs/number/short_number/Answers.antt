use mir.Val.{bool_byte}
use Rattle.std.proofs.Common.{◌≡◌, Bool, true, false, cond, refl, ◌∙◌}
use Rattle.dimacs.proofs.ShortLemmas.{signed_value}
use Rattle.dimacs.proofs.number.short_number.Goals as goal

one_if : (b : Bool) → bool_byte b ≡ cond b 1 0
one_if true = refl
one_if false = refl

pub returns-in-Some-clause-value : goal.returns-in-Some-clause-value
returns-in-Some-clause-value c =
    let found = c.in-Some.ensures in
    let minus = c.begins_with_minus-negative in
    signed_value c.args.text.now _ minus.result c.from-sign.result c.in-Some.len c.in-Some.size minus.ensures (c.from-sign.ensures ∙ one_if minus.result) refl found.value found.some found.small
