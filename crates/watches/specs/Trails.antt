-- The trail of a search: literals in the order in which they became true (Handbook of Satisfiability, chapter 4).
use Rattle.std.specs.Prelude.{◌≡◌, ℕ, ◌<◌, ◌≤◌, max, true, false, ◌&&◌, nat_eq, nat_le, List, [], ◌∷◌, length, map, slice_index_or, All}
use Rattle.std.specs.List.{list_any, IsDistinct}
use Rattle.dimacs.specs.logic.Literal.{Literal, IsWithin, negation, same, var_of}
use Rattle.dimacs.specs.logic.Propagation.{Assumed}
use Rattle.watches.specs.declared.trail.Assigned.{Assigned}
use Rattle.watches.specs.declared.truth.Truth.{Truth}
use Rattle.watches.specs.declared.truth.Truth.TheVariants.{Free, True, False}

-- the value of a trail: its number of variables, which are those from 1 to vars; and the literals that are true, in the order in which they
-- became true
pub record TrailValue : Type 0 where
  pub vars : ℕ
  pub entries : List Assigned

-- the variables of the entries
abbrev pub variables : List Assigned → List ℕ
variables entries = map (λ e. var_of e.literal) entries

-- a trail's invariant: literals of its variables, no two of one variable, at levels that never fall
pub record IsTrailValue (t : TrailValue) : Type 0 where
  pub within : All (λ e. IsWithin t.vars e.literal) t.entries
  pub apart : IsDistinct nat_eq (variables t.entries)
  pub rising : (i j : ℕ) (d : Assigned) → i ≤ j → j < length t.entries → (slice_index_or t.entries i d).level ≤ (slice_index_or t.entries j d).level

-- whether a literal is on the trail
abbrev pub holds : List Assigned → Assumed
holds entries = λ l. list_any (λ e. same e.literal l) entries

-- whether a literal is on the trail with a level of at most k: what is true after a backtrack to that level
abbrev pub up_to : List Assigned → ℕ → Assumed
up_to entries k = λ l. list_any (λ e. same e.literal l && nat_le e.level k) entries

-- the present decision level: the greatest level of an entry, 0 if there is none
abbrev pub present : List Assigned → ℕ
present [] = 0
present (e ∷ entries) = max e.level (present entries)

-- a truth value is right for a literal: true if it is on the trail, false if its negation is, free if neither is
abbrev pub IsTruth : List Assigned → Literal → Truth → Type 0
IsTruth entries l True = (holds entries l ≡ true) × (holds entries (negation l) ≡ false)
IsTruth entries l False = (holds entries l ≡ false) × (holds entries (negation l) ≡ true)
IsTruth entries l Free = (holds entries l ≡ false) × (holds entries (negation l) ≡ false)
