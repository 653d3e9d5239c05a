use Rattle.std.proofs.Common.{◌≡◌, ℕ, ◌<◌, true, false, get_or}
use Rattle.watches.specs.inner.WatchInvariants.{no_clause}
use Rattle.watches.proofs.watched.lookup.find_clause.Given as goal

abbrev pub invariant-loop-i : goal.invariant-loop-i
invariant-loop-i l = (k : ℕ) → k < l.i → get_or l.live k false ≡ true → (get_or l.clauses k no_clause).number ≡ l.number → ⊥
