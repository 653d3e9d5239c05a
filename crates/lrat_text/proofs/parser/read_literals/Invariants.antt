use Rattle.std.proofs.Common.{◌≡◌, ℕ, [], IfSome}
use Rattle.lrat_text.specs.Parser.{literals_in}
use Rattle.lrat_text.specs.inner.Tokens.{HasNumberInRange, tokens_from, left_len}
use Rattle.lrat_text.proofs.parser.read_literals.Given as goal

abbrev pub invariant-loop-next : goal.invariant-loop-next
invariant-loop-next l = record {
  no_hint : l.numbers.items ≡ [];
  no_group : l.groups ≡ [];
  counted : IfSome l.next (λ p. HasNumberInRange p.0);
  left : (id : ℕ) → literals_in l.most id l.literals.items (tokens_from l.next) ≡ literals_in l.most id l.fn.literals.items (tokens_from l.fn.first);
}

abbrev pub decreases-loop-next : goal.decreases-loop-next
decreases-loop-next l = left_len l.next
