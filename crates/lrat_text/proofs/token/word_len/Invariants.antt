use Rattle.std.proofs.Common.{◌≡◌, ℕ, ◌<◌, false, get_or}
use Rattle.lrat_text.specs.inner.Tokens.{is_space}
use Rattle.lrat_text.proofs.token.word_len.Given as goal

abbrev pub invariant-loop-i : goal.invariant-loop-i
invariant-loop-i l = (k : ℕ) → k < l.i → is_space (get_or l.text k 0) ≡ false
