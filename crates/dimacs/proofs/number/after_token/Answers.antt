use Rattle.std.proofs.Common.{◌+◌, ap, ◌∙◌, arith}
use Rattle.dimacs.specs.text.Words.{words}
use Rattle.dimacs.proofs.WordLemmas.{tail_is, words_behind}
use Rattle.dimacs.proofs.number.after_token.Goals as goal

pub returns-then-len-text-clause-words : goal.returns-then-len-text-clause-words
returns-then-len-text-clause-words c =
    ap words (tail_is c.args.text.now (c.args.len + 1)) ∙ words_behind c.args.text.now c.args.len c.requires.len (omega arith)
