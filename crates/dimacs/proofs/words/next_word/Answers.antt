use Rattle.std.proofs.Common.{arith, refl}
use Rattle.std.proofs.lemmas.Bool.Decides.{nat_tests}
use Rattle.dimacs.proofs.WordLemmas.{words_none, words_next}
use Rattle.dimacs.proofs.words.next_word.Goals as goal

pub returns-then-is_empty-clause-word : goal.returns-then-is_empty-clause-word
returns-then-is_empty-clause-word c =
    words_none c.args.line.now c.white_len.result c.white_len.ensures.value (grind (arith, nat_tests))

pub returns-clause-word : goal.returns-clause-word
returns-clause-word c =
    words_next c.args.line.now _ _ _ c.white_len.result c.word_len.result c.white_len.ensures.value refl c.word_len.ensures.value c.word_len.ensures.bound (grind (arith, nat_tests)) c.split_at.ensures.front c.split_at.ensures.back
