-- Invariants of final analysis: the walk from a conflict back to the decisions.
use Rattle.std.specs.Prelude.{◌≡◌, ℕ, ◌<◌, ◌≤◌, Bool, true, false, List, [], ◌⊎◌, Option, None, if◌then◌else◌, nat_eq, length, take, drop, reverse, slice_index_or, Contains}
use Rattle.std.specs.List.{IsDistinct, filter_map}
use Rattle.dimacs.specs.logic.ClauseMap.{Live}
use Rattle.dimacs.specs.logic.Literal.{Literal, Clause, negation, var_of}
use Rattle.watches.specs.Trails.{holds, variables}
use Rattle.conflict_analysis.specs.declared.lemma.Lemma.{Lemma}
use Rattle.conflict_analysis.specs.BuiltTrails.{AreBuilt}
use Rattle.conflict_analysis.specs.inner.Sizes.{AreSized}
use Rattle.conflict_analysis.specs.inner.Seen.{met}
use Rattle.watches.specs.declared.trail.Assigned.{Assigned}
use Rattle.conflict_analysis.specs.Lemmas.{IsDecision}
use Rattle.conflict_analysis.specs.inner.TrailWalk.{IsResolved}

-- a seen entry is traced: it is resolved, or it is a decision whose negation is in the lemma
abbrev pub IsTraced : Live → List Assigned → (ℕ → Bool) → Clause → Assigned → Type 0
IsTraced live front seen lits e = IsResolved live front seen e ⊎ ((e.reason ≡ None) × Contains lits (negation e.literal))

-- each seen entry from index i on is traced
abbrev pub AreTraced : Live → List Assigned → ℕ → (ℕ → Bool) → Clause → Type 0
AreTraced live entries i seen lits =
    (k : ℕ) (d : Assigned) → i ≤ k → k < length entries → seen (var_of (slice_index_or entries k d).literal) ≡ true
    → IsTraced live (take k entries) seen lits (slice_index_or entries k d)

-- each literal of the lemma is one of `first`, or the negation of a decision
abbrev pub AreNegated : List Assigned → Clause → Clause → Type 0
AreNegated entries first lits = (l : Literal) → Contains lits l → Contains first l ⊎ IsDecision entries (negation l)

-- a clause of unassigned literals, none with its negation
abbrev pub AreOutside : List Assigned → Clause → Type 0
AreOutside entries first =
    (l : Literal) → Contains first l → (holds entries l ≡ false) × (holds entries (negation l) ≡ false) × ¬ (Contains first (negation l))

-- each literal of the clause C is false, or one of `first`
abbrev pub AreFalseOr : List Assigned → Clause → Clause → Type 0
AreFalseOr entries first C = (k : Literal) → Contains C k → (holds entries (negation k) ≡ true) ⊎ Contains first k

-- the reason of an entry if its variable was seen; none if it was not
abbrev pub reason_of : (ℕ → Bool) → Assigned → Option ℕ
reason_of seen e = if seen (var_of e.literal) then e.reason else None

-- entries that can be traced with a table of this size: they were decided or implied, no two have one variable, and the table has room for
-- each variable
pub record IsTraceable (live : Live) (entries : List Assigned) (size : ℕ) : Type 0 where
  pub built : AreBuilt live [] entries
  pub apart : IsDistinct nat_eq (variables entries)
  pub clauses : AreSized live size
  pub room : (e : Assigned) → Contains entries e → var_of e.literal < size

-- the invariant of final analysis: the walk has come down to index i, with the lemma so far
pub record IsTracing (live : Live) (entries : List Assigned) (first : Clause) (i : ℕ) (seen : List Bool) (lemma : Lemma) : Type 0 where
  pub traced : AreTraced live entries i (met seen) lemma.lits.items
  pub named : lemma.hints.items ≡ reverse (filter_map (reason_of (met seen)) (drop i entries))
  pub negated : AreNegated entries first lemma.lits.items
  pub kept : (l : Literal) → Contains first l → Contains lemma.lits.items l
  pub level : lemma.level ≡ 0
