use Rattle.std.proofs.Common.{◌≡◌, ℕ, ◌<◌, ◌≤◌, get_or}
use Rattle.clause_arena.specs.declared.reference.Ref.{Ref}
use Rattle.watches.specs.inner.MovedRefs.{Follows}
use Rattle.watches.proofs.moved_refs.update_refs.Given as goal

abbrev pub invariant-loop-i : goal.invariant-loop-i
invariant-loop-i l = record {
  followed : (k : ℕ) (d : Ref) → k < l.i → Follows l.moves (get_or l.fn.clauses k d) (get_or l.clauses k d);
  waiting : (k : ℕ) (d : Ref) → l.i ≤ k → get_or l.clauses k d ≡ get_or l.fn.clauses k d;
}
