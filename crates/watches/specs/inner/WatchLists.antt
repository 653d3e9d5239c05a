-- Linked lists of watches in one vector. A place is an index of this vector. Of the first `base` places one half are the heads of the
-- lists, and the other half name the last place of each list; 0 ends a list.
use Rattle.std.specs.Prelude.{◌≡◌, ◌≢◌, ℕ, ◌+◌, ◌-◌, ◌/◌, ◌%◌, ◌<◌, ◌≤◌, ◌⊎◌, ◌==◌, if◌then◌else◌, List, [], ◌∷◌, length, slice_index_or}
use Rattle.dimacs.specs.logic.Literal.{Literal, Pos}
use Rattle.watches.specs.declared.watched.watch.Watch.{Watch}

-- the default for a read past the end of the watches
abbrev pub nowhere : Watch
nowhere = record { literal = Pos 0; next = record { number = 0 } }

-- the place after p in its list; 0 at the end of the list
abbrev pub next_of : List Watch → ℕ → ℕ
next_of places p = (slice_index_or places p nowhere).next.number

-- the literal of the watch at the place p
abbrev pub literal_at : List Watch → ℕ → Literal
literal_at places p = (slice_index_or places p nowhere).literal

-- the place of the other watch of the same clause: each clause has an even place and the next one
abbrev pub twin : ℕ → ℕ
twin p = if p % 2 == 0 then p + 1 else p - 1

-- a path, the places of a list, has p
abbrev pub IsIn : ℕ → List ℕ → Type 0
IsIn p [] = ⊥
IsIn p (q ∷ path) = (p ≡ q) ⊎ IsIn p path

-- a path has no place twice
abbrev pub IsOnce : List ℕ → Type 0
IsOnce [] = Unit {0}
IsOnce (q ∷ path) = (IsIn q path → ⊥) × IsOnce path

-- the links after the place p run through the path, and end
abbrev pub IsWatchList : List Watch → ℕ → List ℕ → Type 0
IsWatchList places p [] = next_of places p ≡ 0
IsWatchList places p (q ∷ path) = (next_of places p ≡ q) × IsWatchList places q path

-- the last place of the path; p if it is empty
abbrev pub last_of : ℕ → List ℕ → ℕ
last_of p [] = p
last_of p (q ∷ path) = last_of q path

-- each list has its path, whose last place is named; no place is in two paths, or twice in one
pub record AreWatchLists (places : List Watch) (base : ℕ) (paths : ℕ → List ℕ) : Type 0 where
  pub watch_list : (l : ℕ) → l < base / 2 → IsWatchList places l (paths l)
  pub ends : (l : ℕ) → l < base / 2 → next_of places (base / 2 + l) ≡ last_of l (paths l)
  pub real : (l p : ℕ) → IsIn p (paths l) → (base ≤ p) × (p < length places)
  pub once : (l : ℕ) → IsOnce (paths l)
  pub apart : (l k p : ℕ) → IsIn p (paths l) → IsIn p (paths k) → l ≡ k

-- watches, before and after: the one at `at` is taken out of a list, in which `previous` is before it
pub record Unlinks (old new : List Watch) (base list previous at : ℕ) : Type 0 where
  pub long : length new ≡ length old
  pub out : next_of new previous ≡ next_of old at
  pub last : next_of new (base / 2 + list) ≡ (if next_of old at == 0 then previous else next_of old (base / 2 + list))
  pub others : (p : ℕ) → p ≢ previous → p ≢ base / 2 + list → next_of new p ≡ next_of old p
  pub literals : (p : ℕ) → literal_at new p ≡ literal_at old p

-- watches, before and after: the one at `at` gets a literal, and is the last one of a list
pub record LinksLast (old new : List Watch) (base list at : ℕ) (literal : Literal) : Type 0 where
  pub long : length new ≡ length old
  pub ended : next_of new at ≡ 0
  pub before : next_of new (next_of old (base / 2 + list)) ≡ at
  pub last : next_of new (base / 2 + list) ≡ at
  pub others : (p : ℕ) → p ≢ at → p ≢ next_of old (base / 2 + list) → p ≢ base / 2 + list → next_of new p ≡ next_of old p
  pub watched : literal_at new at ≡ literal
  pub literals : (p : ℕ) → p ≢ at → literal_at new p ≡ literal_at old p

-- watches, before and after: the one at `at` goes from one list to the end of another, with this literal
pub record Relinks (old new : List Watch) (base from previous at to : ℕ) (literal : Literal) : Type 0 where
  pub between : List Watch
  pub out : Unlinks old between base from previous at
  pub linked : LinksLast between new base to at literal
  pub long : length new ≡ length old
  pub watched : literal_at new at ≡ literal
  pub literals : (p : ℕ) → p ≢ at → literal_at new p ≡ literal_at old p

-- a place that links may change: a head, or the place of a watch
abbrev pub IsLink : ℕ → ℕ → Type 0
IsLink base p = (p < base / 2) ⊎ (base ≤ p)

-- the watch at `at` may go from one list, in which `previous` is before it, to the end of another
pub record MayRelink (places : List Watch) (base from previous at to : ℕ) : Type 0 where
  pub from_in : from < base / 2
  pub to_in : to < base / 2
  pub lists_apart : to ≢ from
  pub low : base ≤ length places
  pub previous_is : IsLink base previous
  pub previous_in : previous < length places
  pub at_real : base ≤ at
  pub at_in : at < length places
  pub apart : previous ≢ at
  pub last_is : IsLink base (next_of places (base / 2 + to))
  pub last_in : next_of places (base / 2 + to) < length places
  pub last_apart : next_of places (base / 2 + to) ≢ at
  pub last_before : next_of places (base / 2 + to) ≢ previous

-- watches, before and after: two are appended, and are the last ones of the pending list
pub record AppendsTwo (old new : List Watch) (base : ℕ) (one two : Literal) : Type 0 where
  pub long : length new ≡ length old + 2
  pub first : next_of new (next_of old (base / 2)) ≡ length old
  pub second : next_of new (length old) ≡ length old + 1
  pub third : next_of new (length old + 1) ≡ 0
  pub last : next_of new (base / 2) ≡ length old + 1
  pub others : (q : ℕ) → q ≢ next_of old (base / 2) → q ≢ base / 2 → q < length old → next_of new q ≡ next_of old q
  pub literals : (q : ℕ) → q < length old → literal_at new q ≡ literal_at old q
  pub literal_one : literal_at new (length old) ≡ one
  pub literal_two : literal_at new (length old + 1) ≡ two
