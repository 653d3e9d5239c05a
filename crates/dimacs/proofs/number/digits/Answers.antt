use Rattle.std.proofs.Common.{sym, ap, min}
use Rattle.std.specs.Option.{option_map}
use Rattle.dimacs.proofs.NumberLemmas.{digits_white}
use Rattle.dimacs.proofs.number.digits.Goals as goal

pub returns-then-len-word-clause-value : goal.returns-then-len-word-clause-value
returns-then-len-word-clause-value c =
    sym (ap (option_map (min 100000000)) (digits_white c.args.word.now c.leading_digits-len.result.0 c.leading_digits-len.ensures.len c.if-len-word.true))
