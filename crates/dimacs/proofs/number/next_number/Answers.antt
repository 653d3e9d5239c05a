use Rattle.std.proofs.Common.{arith, ap, refl, sym, ◌∙◌, ◌∷◌, length, take, drop, ◌-◌}
use Rattle.std.specs.List.{position_or_len}
use Rattle.std.proofs.lemmas.Bool.Decides.{nat_tests}
use Rattle.dimacs.specs.text.Words.{is_white}
use Rattle.dimacs.proofs.WordLemmas.{words_none, words_next, position_in}
use Rattle.dimacs.proofs.number.next_number.Goals as goal

pub returns-then-is_empty-clause-word : goal.returns-then-is_empty-clause-word
returns-then-is_empty-clause-word c =
    words_none c.args.line.now c.white_len.result c.white_len.ensures.value (grind (arith, nat_tests))

pub returns-clause-word : goal.returns-clause-word
returns-clause-word c =
    let text = take (length c.args.line.now - c.white_len.result) (drop c.white_len.result c.args.line.now) in (
      take (position_or_len is_white text) text,
      words_next c.args.line.now text _ _ c.white_len.result (position_or_len is_white text) c.white_len.ensures.value refl refl (position_in text) (grind (arith, nat_tests)) refl refl ∙ ap (λ more. take (position_or_len is_white text) text ∷ more) (sym c.leading_number.ensures.words),
      c.leading_number.ensures.value,
    )
