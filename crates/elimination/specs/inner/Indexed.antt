-- The store of clauses: which are active, which lists have them, and which variables are eliminated.
use Rattle.std.specs.Prelude.{◌≡◌, ℕ, ◌+◌, ◌*◌, ◌<◌, Bool, true, false, List, [], ◌∷◌, ◌++◌, ◌⊎◌, length, map, replicate, slice_index_or, All, Contains}
use Rattle.std.specs.List.{list_all}
use Rattle.std.specs.Global.{Vec}
use Rattle.dimacs.specs.logic.Cnf.{Cnf, IsBase, literal_count}
use Rattle.dimacs.specs.logic.Literal.{Literal, Clause, index_of, has}
use Rattle.elimination.specs.Kept.{IsSubset, IsEliminated, HasEliminated}
use Rattle.elimination.specs.declared.clauses.Clauses.{Clauses}

-- the clause of index i, from 0
abbrev pub clause_at : List Clause → ℕ → Clause
clause_at clauses i = slice_index_or clauses i []

-- the clause of index i is active
abbrev pub IsActive : List Bool → ℕ → Type 0
IsActive active i = slice_index_or active i false ≡ true

-- the lists that vectors hold
abbrev pub lists_in : List (Vec ℕ) → List (List ℕ)
lists_in vectors = map (λ v. v.items) vectors

-- the list of the literal l
abbrev pub list_at : List (List ℕ) → Literal → List ℕ
list_at occurs l = slice_index_or occurs (index_of l) []

-- whether each literal of the clause C is one of D
abbrev pub is_subset : Clause → Clause → Bool
is_subset C D = list_all (λ l. has D l) C

-- an active clause is a subset of C
abbrev pub HasActiveSubset : List Clause → List Bool → Clause → Type 0
HasActiveSubset clauses active C = (j : ℕ) × (j < length clauses) × IsActive active j × IsSubset (clause_at clauses j) C

-- each active clause stands in the list of each of its literals, and what a list holds are indices of clauses that have the literal
pub record AreListed (clauses : List Clause) (active : List Bool) (occurs : List (List ℕ)) : Type 0 where
  pub listed : (i : ℕ) (l : Literal) → IsActive active i → Contains (clause_at clauses i) l → Contains (list_at occurs l) i
  pub held : (l : Literal) (i : ℕ) → Contains (list_at occurs l) i → (i < length clauses) × Contains (clause_at clauses i) l

-- the store as it is also while a variable is being eliminated: its tables are as long as what they are tables of; no active clause is
-- empty; and each clause that is not active has an eliminated variable, or an active one as a subset
pub record AreStored (all : Cnf) (literals : ℕ) (active : List Bool) (occurs : List (List ℕ)) (gone : List Bool) : Type 0 where
  pub base : IsBase all
  pub count : literals ≡ literal_count all.clauses
  pub truths : length active ≡ length all.clauses
  pub variables : length gone ≡ all.vars + 1
  pub lists : length occurs ≡ 2 * all.vars + 2
  pub are_listed : AreListed all.clauses active occurs
  pub some : (i : ℕ) → IsActive active i → clause_at all.clauses i ≡ [] → ⊥
  pub covered : (i : ℕ) → i < length all.clauses → slice_index_or active i false ≡ false
      → HasEliminated gone (clause_at all.clauses i) ⊎ HasActiveSubset all.clauses active (clause_at all.clauses i)

-- the store between two calls: no active clause has an eliminated variable
pub record AreIndexed (all : Cnf) (literals : ℕ) (active : List Bool) (occurs : List (List ℕ)) (gone : List Bool) : Type 0 where
  pub stored : AreStored all literals active occurs gone
  pub free : (i : ℕ) → IsActive active i → ¬ (HasEliminated gone (clause_at all.clauses i))

-- the store c is one between two calls
abbrev pub IsIndexed : Clauses → Type 0
IsIndexed c = AreIndexed c.all c.literals c.active.items (lists_in c.occurs.items) c.gone.items

-- the store c has the clauses of the formula F, none of which is empty; each is active, and no variable is eliminated
pub record IsStoreOf (F : Cnf) (c : Clauses) : Type 0 where
  pub indexed : IsIndexed c
  pub all : c.all ≡ F
  pub some : ¬ (Contains F.clauses [])
  pub active : (i : ℕ) → i < length F.clauses → IsActive c.active.items i
  pub whole : (v : ℕ) → ¬ (IsEliminated c.gone.items v)

-- the store `new` is `old` with the clause C behind its own, which is active
pub record IsAdded (old new : Clauses) (C : Clause) : Type 0 where
  pub indexed : IsIndexed new
  pub all : new.all ≡ record (old.all) { clauses = old.all.clauses ++ C ∷ [] }
  pub active : new.active.items ≡ old.active.items ++ true ∷ []
  pub gone : new.gone ≡ old.gone

-- these are the lists of the clauses of F, none of which is empty
pub record IsListOf (F : Cnf) (occurs : List (List ℕ)) : Type 0 where
  pub lists : length occurs ≡ 2 * F.vars + 2
  pub are_listed : AreListed F.clauses (replicate (length F.clauses) true) occurs
  pub some : ¬ (Contains F.clauses [])

-- the lists `new` are the lists `old`, and i stands in the list of each literal of C besides
pub record AreListsWith (old new : List (List ℕ)) (C : Clause) (i : ℕ) : Type 0 where
  pub lists : length new ≡ length old
  pub kept : (l : Literal) (j : ℕ) → Contains (list_at old l) j → Contains (list_at new l) j
  pub here : (l : Literal) → Contains C l → Contains (list_at new l) i
  pub only : (l : Literal) (j : ℕ) → Contains (list_at new l) j → Contains (list_at old l) j ⊎ ((j ≡ i) × Contains C l)

-- the clauses of these indices were made inactive, and no other one
pub record AreRetired (old new : List Bool) (indices : List ℕ) : Type 0 where
  pub truths : length new ≡ length old
  pub out : All (λ i. slice_index_or new i false ≡ false) indices
  pub others : (i : ℕ) → (Contains indices i → ⊥) → slice_index_or new i false ≡ slice_index_or old i false
  pub fewer : (i : ℕ) → IsActive new i → IsActive old i
