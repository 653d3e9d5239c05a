use Rattle.std.proofs.Common.{◌≡◌, ◌+◌, ◌&&◌, drop, get_or}
use Rattle.lrat_text.specs.Grammar.{space}
use Rattle.lrat_text.specs.inner.Tokens.{is_single}
use Rattle.lrat_text.proofs.canonical.is_single_spaced.Given as goal

abbrev pub invariant-loop-i : goal.invariant-loop-i
invariant-loop-i l = l.single && is_single (get_or l.line l.i 0) (drop (l.i + 1) l.line) ≡ is_single space l.line
