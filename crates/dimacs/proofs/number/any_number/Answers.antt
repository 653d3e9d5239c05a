use Rattle.std.proofs.Common.{arith, rules, refl, sym, ap, ◌∙◌, ◌≡◌, ◌<◌, length, get_or}
use Rattle.std.specs.Option.{option_map}
use Rattle.std.proofs.lemmas.Bool.Decides.{nat_tests}
use Rattle.dimacs.specs.inner.Capped.{capped}
use Rattle.dimacs.proofs.NumberLemmas.{minus_number, minus_behind}
use Rattle.dimacs.proofs.number.any_number.Goals as goal

pub returns-clause-value : goal.returns-clause-value
returns-clause-value c =
    let some : 0 < length c.args.text.now = grind (arith, nat_tests) in
    let first : get_or c.args.text.now 0 45 ≡ 45 = search rules in
    c.after_minus.ensures.value _ c.leading_natural-size-2.ensures.value ∙ sym (ap (option_map capped) (minus_number c.args.text.now _ some first refl))

pub returns-clause-rest : goal.returns-clause-rest
returns-clause-rest c =
    let some : 0 < length c.args.text.now = grind (arith, nat_tests) in
    let first : get_or c.args.text.now 0 45 ≡ 45 = search rules in
    c.leading_natural-size-2.ensures.rest ∙ sym (minus_behind c.args.text.now _ some first refl)
