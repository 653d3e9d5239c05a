use Rattle.log_join.proofs.BitLemmas.{clear_kept}
use Rattle.log_join.proofs.bits.clear.Goals as goal

pub returns-then-place-words : goal.returns-then-place-words
returns-then-place-words c = clear_kept c.args.words.now c.args.place c.if-place-words.true
