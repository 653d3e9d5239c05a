use Rattle.std.proofs.Common.{◌≡◌, ℕ, ◌≤◌, ◌<◌, All, length, take, get_or}
use Rattle.dimacs.specs.logic.Literal.{var_of}
use Rattle.dimacs.specs.logic.Cnf.{literal_count}
use Rattle.cube_split.specs.inner.Places.{ArePlaced, AreChained}
use Rattle.cube_split.proofs.places.append_clauses.Given as goal

-- the clauses so far have their places
abbrev pub invariant-loop-i : goal.invariant-loop-i
invariant-loop-i l = record {
  placed : ArePlaced l.formula.clauses l.i l.places.items l.starts.items;
  chained : AreChained l.places.items l.latest;
  early : (w : ℕ) → w < length l.last → get_or l.last w 0 ≤ l.i;
  within : All (λ e. var_of e.literal < length l.last) l.places.items;
  count : length l.places.items ≡ literal_count (take l.i l.formula.clauses);
}
