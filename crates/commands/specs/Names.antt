-- The names of the files that a command reads in turn, and what a run over them has.
use Rattle.std.specs.Prelude.{◌≡◌, ◌++◌, ◌∷◌, ◌==◌, ◌+◌, ◌-◌, ◌^◌, ℕ, min, Bool, true, false, List, [], Option, codes, if◌then◌else◌}
use Rattle.std.specs.Str.{bytes_eq}
use Rattle.commands.specs.Known.{HoldsOf}

-- the names in the last line of a list, which no LF ends: this one, or none if the line is empty
abbrev pub last_name : List ℕ → List (List ℕ)
last_name [] = []
last_name (b ∷ name) = (b ∷ name) ∷ []

-- the names in a list of which these bytes are still to come, if `begun` is the name whose LF has not come
abbrev pub names_behind : List ℕ → List ℕ → List (List ℕ)
names_behind begun [] = last_name begun
names_behind begun (b ∷ bytes) = if b == 10 then begun ∷ names_behind [] bytes else names_behind (begun ++ b ∷ []) bytes

-- the names in a list, one a line; the last line needs no LF
abbrev pub names_of : List ℕ → List (List ℕ)
names_of list = names_behind [] list

-- whether standard input lists the names: whether `-` is the only name
abbrev pub lists : List (List ℕ) → Bool
lists [] = false
lists (name ∷ []) = bytes_eq name (codes "-")
lists (name ∷ other ∷ names) = false

-- P holds of the names that standard input lists if the flag is true, else of those that are given
abbrev pub OfListed : Bool → (List ℕ → Option (List ℕ)) → List (List ℕ) → (List (List ℕ) → Type 0) → Type 0
OfListed true holds names P = HoldsOf (holds (codes "-")) (λ list. P (names_of list))
OfListed false holds names P = P names

-- `OfNames holds names P`: P holds of the names, or, if `-` is the only one, of the names that
-- standard input lists, whose bytes `holds` knows
abbrev pub OfNames : (List ℕ → Option (List ℕ)) → List (List ℕ) → (List (List ℕ) → Type 0) → Type 0
OfNames holds names P = OfListed (lists names) holds names P

-- ---- the files of the names, in turn
-- a run over names so far: how many names were counted, the bytes of the files among theirs that were taken, and the lines of all
pub record Gone : Type 0 where
  pub count : ℕ
  pub files : List (List ℕ)
  pub notes : List ℕ

-- a run before its first name
abbrev pub none_gone : Gone
none_gone = record { count = 0; files = []; notes = [] }

-- the count after one more name, at most 2^64 - 1
abbrev pub one_more : ℕ → ℕ
one_more n = min (n + 1) (2 ^ 64 - 1)

-- `AreTaken Takes names a c`: these names, in turn, lead a run from `a` to `c`, if `Takes` says how
-- one name leads it on
abbrev pub AreTaken : (List ℕ → Gone → Gone → Type 0) → List (List ℕ) → Gone → Gone → Type 0
AreTaken Takes [] a c = c ≡ a
AreTaken Takes (name ∷ names) a c = (b : Gone) × Takes name a b × AreTaken Takes names b c
