use Rattle.std.proofs.Common.{◌≡◌, ◌+◌, length}
use Rattle.lrat_trim.proofs.LetterLemmas.{often}
use Rattle.lrat_trim.proofs.lemma_count.count_lemmas.Given as goal

-- what is counted and what is left to be counted are the text's
abbrev pub invariant-loop-block : goal.invariant-loop-block
invariant-loop-block l = record {
  lines : l.lines + often 10 l.blocks ≡ often 10 l.text;
  deletions : l.deletions + often 100 l.blocks ≡ often 100 l.text;
}

abbrev pub decreases-loop-block : goal.decreases-loop-block
decreases-loop-block l = length l.blocks
