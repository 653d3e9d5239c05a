use Rattle.std.proofs.Common.{◌≡◌, ℕ, ◌<◌, ◌≤◌, true, get_or}
use Rattle.dimacs.specs.logic.Literal.{Literal, negation}
use Rattle.watches.specs.Trails.{holds}
use Rattle.watches.proofs.watched.replacement.find_watch.Given as goal

abbrev pub invariant-loop-k : goal.invariant-loop-k
invariant-loop-k l = (j : ℕ) (d : Literal) → 2 ≤ j → l.from ≤ j → j < l.k → holds l.trail.entries (negation (get_or l.literals j d)) ≡ true

abbrev pub invariant-loop-j : goal.invariant-loop-j
invariant-loop-j l = (i : ℕ) (d : Literal) → 2 ≤ i → i < l.j → holds l.trail.entries (negation (get_or l.literals i d)) ≡ true
