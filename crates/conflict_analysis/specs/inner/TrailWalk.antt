-- Invariants of first-UIP analysis: the walk down the trail.
use Rattle.std.specs.Prelude.{◌≡◌, ℕ, Option, Some, None, unwrap_or, take, drop, reverse, ◌/◌, ◌<◌, ◌≤◌, ◌==◌, Bool, true, not, ◌&&◌, if◌then◌else◌, List, [], ◌∷◌, ◌++◌, ◌⊎◌, length, nat_eq, All, Contains, slice_index_or}
use Rattle.std.specs.List.{IsDistinct, count_by}
use Rattle.dimacs.specs.logic.ClauseMap.{Live}
use Rattle.dimacs.specs.logic.Literal.{Literal, Clause, negation, var_of, same}
use Rattle.dimacs.specs.logic.Propagation.{IsUnit, negations}
use Rattle.watches.specs.declared.trail.Assigned.{Assigned}
use Rattle.watches.specs.Trails.{TrailValue, IsTrailValue, holds, present}
use Rattle.conflict_analysis.specs.inner.Seen.{met}
use Rattle.conflict_analysis.specs.declared.lemma.Lemma.{Lemma}
use Rattle.conflict_analysis.specs.declared.first_uip.TrailWalk.{TrailWalk}

-- the seen variables, before and after a walk met entries of the front: only such variables are added
pub record HasMet (front : List Assigned) (old new : List Bool) : Type 0 where
  pub sized : length new ≡ length old
  pub grows : (v : ℕ) → met old v ≡ true → met new v ≡ true
  pub only : (v : ℕ) → met new v ≡ true → (met old v ≡ true) ⊎ ((e : Assigned) × Contains front e × (var_of e.literal ≡ v))

-- the list has exactly the variables that were seen, each once; they are from 1 to `vars`
pub record AreListed (vars : ℕ) (seen : ℕ → Bool) (listed : List ℕ) : Type 0 where
  pub within : All (λ v. (0 < v) × (v ≤ vars)) listed
  pub distinct : IsDistinct nat_eq listed
  pub were : (v : ℕ) → Contains listed v → seen v ≡ true
  pub all : (v : ℕ) → seen v ≡ true → Contains listed v

-- a literal's property: a walk may meet it, as its variable was seen, or its negation has an entry in the front
abbrev pub IsKnown : List Assigned → (ℕ → Bool) → Literal → Type 0
IsKnown front seen l = (seen (var_of l) ≡ true) ⊎ (holds front (negation l) ≡ true)

-- a walk may meet each literal of this clause
abbrev pub AreKnown : List Assigned → (ℕ → Bool) → Clause → Type 0
AreKnown front seen C = (k : Literal) → Contains C k → IsKnown front seen k

-- the variables of the literals of this clause were seen
abbrev pub AreMet : (ℕ → Bool) → Clause → Type 0
AreMet seen C = (k : Literal) → Contains C k → seen (var_of k) ≡ true

-- the number of met entries whose level passes the test `at`
abbrev pub waiting : (ℕ → Bool) → (ℕ → Bool) → List Assigned → ℕ
waiting seen at entries = count_by (λ e. seen (var_of e.literal) && at e.level) entries

-- whether a level is the trail's present one
abbrev pub is_present : List Assigned → ℕ → Bool
is_present entries level = level == present entries

-- whether a level is not the trail's present one
abbrev pub is_lower : List Assigned → ℕ → Bool
is_lower entries level = not (level == present entries)

-- the front is a prefix of the entries
abbrev pub IsFront : List Assigned → List Assigned → Type 0
IsFront front entries = (rest : List Assigned) × (entries ≡ front ++ rest)

-- the counts of a walk: of the met entries of the front, `pending` are of the present level, and `rest` of lower levels
pub record AreCounted (entries front : List Assigned) (seen : ℕ → Bool) (pending rest : ℕ) : Type 0 where
  pub opened : pending ≡ waiting seen (is_present entries) front
  pub remaining : rest ≡ waiting seen (is_lower entries) front

-- the block of eight entries of each met entry is marked
abbrev pub AreMarked : List Assigned → (ℕ → Bool) → List Bool → Type 0
AreMarked entries seen blocks = (k : ℕ) (d : Assigned) → k < length entries → seen (var_of (slice_index_or entries k d).literal) ≡ true → met blocks (k / 8) ≡ true

-- the index of each met entry is marked
abbrev pub ArePlaced : List Assigned → (ℕ → Bool) → List Bool → Type 0
ArePlaced entries seen places = (k : ℕ) (d : Assigned) → k < length entries → seen (var_of (slice_index_or entries k d).literal) ≡ true → met places k ≡ true

-- the invariant of a walk down a trail, of which the prefix `front` is not passed yet
pub record IsWalk (t : TrailValue) (front : List Assigned) (w : TrailWalk) : Type 0 where
  pub valid : IsTrailValue t
  pub before : IsFront front t.entries
  pub room : t.vars < length w.seen
  pub level : w.present ≡ present t.entries
  pub counted : AreCounted t.entries front (met w.seen) w.pending w.rest
  pub listed : AreListed t.vars (met w.seen) w.met.items
  pub again : (v : ℕ) → Contains w.again.items v → met w.seen v ≡ true
  pub wide : length t.entries / 8 < length w.blocks
  pub marked : AreMarked t.entries (met w.seen) w.blocks
  pub whole : length t.entries ≤ length w.places
  pub placed : ArePlaced t.entries (met w.seen) w.places

-- an entry's property: it was implied by a live clause after this front, and each variable of the clause was seen
pub record IsResolved (live : Live) (front : List Assigned) (seen : ℕ → Bool) (e : Assigned) : Type 0 where
  pub number : ℕ
  pub clause : Clause
  pub reason : e.reason ≡ Some number
  pub lives : live number clause
  pub unit : IsUnit (holds front) clause e.literal
  pub all : (k : Literal) → Contains clause k → seen (var_of k) ≡ true

-- the number of a reason; 0 if there is none
abbrev pub reason_number : Option ℕ → ℕ
reason_number o = unwrap_or o 0

-- the reasons of the entries whose literals pass the test `resolved`, in trail order
abbrev pub hints_of : (Literal → Bool) → List Assigned → List ℕ
hints_of resolved [] = []
hints_of resolved (e ∷ es) = if resolved e.literal then reason_number e.reason ∷ hints_of resolved es else hints_of resolved es

-- a literal's test: it is that of a met entry, and its negation is not in the lemma
abbrev pub resolved_of : List Assigned → (ℕ → Bool) → Clause → Literal → Bool
resolved_of es seen lits = λ l. holds es l && (seen (var_of l) && not (negations lits l))

-- from index i on, each met entry is resolved or its negation is in the lemma; the hints are the reasons of those whose negations are not,
-- in reverse trail order
pub record AreWalked (live : Live) (entries : List Assigned) (i : ℕ) (seen : ℕ → Bool) (lits : Clause) (hints : List ℕ) : Type 0 where
  pub each : (k : ℕ) (d : Assigned) → i ≤ k → k < length entries → seen (var_of (slice_index_or entries k d).literal) ≡ true
      → Contains lits (negation (slice_index_or entries k d).literal) ⊎ IsResolved live (take k entries) seen (slice_index_or entries k d)
  pub kept : (l : Literal) → Contains lits l → (k : ℕ) × (i ≤ k) × (k < length entries) × ((d : Assigned) → (slice_index_or entries k d).literal ≡ negation l)
  pub named : hints ≡ reverse (hints_of (resolved_of entries seen lits) (drop i entries))
  pub distinct : IsDistinct same lits

-- a literal is false, and became so at this level
abbrev pub HasLevel : List Assigned → Literal → ℕ → Type 0
HasLevel entries l level = (e : Assigned) × Contains entries e × (e.literal ≡ negation l) × (e.level ≡ level)

-- the lemma's literals and level: before the implication point is found the lemma is empty, and some met entry of the present level is
-- left; then no such entry is left, the first literal is the negation of the point, and the others are of lower levels, of which `level` is
-- the greatest
abbrev pub IsLevelled : List Assigned → ℕ → Clause → ℕ → Type 0
IsLevelled entries pending [] level = (0 < pending) × (level ≡ 0)
IsLevelled entries pending (p ∷ lits) level =
    (pending ≡ 0) × HasLevel entries p (present entries)
    × ((l : Literal) → Contains lits l → (n : ℕ) × HasLevel entries l n × (n < present entries) × (n ≤ level))
    × ((level ≡ 0) ⊎ ((l : Literal) × Contains lits l × HasLevel entries l level))

-- the choice for an entry is right: the reason with which it is resolved, or none. Each entry of the present level is resolved except the
-- last one that is left
abbrev pub IsChoice : List Assigned → Assigned → ℕ → Option ℕ → Type 0
IsChoice entries e pending (Some number) = (e.reason ≡ Some number) × (e.level ≡ present entries → 0 < pending)
IsChoice entries e pending None = e.level ≡ present entries → (pending ≡ 0) ⊎ (e.reason ≡ None)

-- the invariant of first-UIP analysis: the walk has come down to index i, with the lemma so far
pub record IsUnderWay (live : Live) (t : TrailValue) (i : ℕ) (w : TrailWalk) (lemma : Lemma) : Type 0 where
  pub walk : IsWalk t (take i t.entries) w
  pub walked : AreWalked live t.entries i (met w.seen) lemma.lits.items lemma.hints.items
  pub levels : IsLevelled t.entries w.pending lemma.lits.items lemma.level

-- the end of first-UIP analysis: the walk has passed all met entries, with its lemma
pub record HasEnded (live : Live) (t : TrailValue) (w : TrailWalk) (lemma : Lemma) : Type 0 where
  pub place : ℕ
  pub way : IsUnderWay live t place w lemma
  pub none_present : w.pending ≡ 0
  pub none_lower : w.rest ≡ 0
