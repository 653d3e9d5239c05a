-- The keys by which pairs are counted, and the ranks by which they are chosen.
use Rattle.std.specs.Prelude.{◌≡◌, ℕ, ◌+◌, ◌-◌, ◌*◌, ◌/◌, ◌%◌, ◌<◌, ◌≤◌, ◌==◌, nat_lt, Bool, false, ◌||◌, ◌⊎◌, List, [], ◌∷◌, ◌++◌, length, take, All, Contains, count_by, if◌then◌else◌}
use Rattle.dimacs.specs.logic.Literal.{Literal, Pos, Neg, Clause, has, var_of}
use Rattle.cube_split.specs.Definitions.{IsPairOf}
use Rattle.cube_split.specs.Pairs.{distinct, sign, together}
use Rattle.cube_split.specs.declared.pair.Pair.{Pair}

-- the key of a pair: the order of keys is the order of pairs
abbrev pub key_of : Pair → ℕ
key_of p = (var_of p.first * 134217728 + var_of p.second) * 4 + sign p.first * 2 + sign p.second

-- the rank of a key that occurred `count` times: higher counts have lower ranks, and keys of one count are in their order
abbrev pub rank_of : ℕ → ℕ → ℕ
rank_of count key = (134217727 - count) * 72057594037927936 + key

-- the literal of the variable v with this sign
abbrev pub literal_by : ℕ → ℕ → Literal
literal_by v sign = if sign == 0 then Pos v else Neg v

-- the pair of a key
abbrev pub pair_of : ℕ → Pair
pair_of key = record { first = literal_by (key / 536870912) (key / 2 % 2); second = literal_by (key / 4 % 134217728) (key % 2) }

-- the pair whose key is in a rank
abbrev pub pair_ranked : ℕ → Pair
pair_ranked rank = pair_of (rank % 72057594037927936)

-- a list's property: no literal is repeated
abbrev pub AreOnce : List Literal → Type 0
AreOnce [] = Unit {0}
AreOnce (l ∷ D) = (has D l ≡ false) × AreOnce D

-- D has the distinct literals of C, each once
pub record AreDistinctOf (C D : Clause) : Type 0 where
  pub same : (l : Literal) → has D l ≡ has C l
  pub once : AreOnce D
  pub count : length D ≡ distinct C

-- the key of the pair of two literals; none if one of them passes the test or both have one variable
abbrev pub keys_of_two : (Literal → Bool) → Literal → Literal → List ℕ
keys_of_two test x y =
    if test x || test y then []
    else if nat_lt (var_of x) (var_of y) then key_of (record { first = x; second = y }) ∷ []
    else if nat_lt (var_of y) (var_of x) then key_of (record { first = y; second = x }) ∷ []
    else []

-- the keys of the pairs of x and one of the literals of a list
abbrev pub keys_with : (Literal → Bool) → Literal → List Literal → List ℕ
keys_with test x [] = []
keys_with test x (y ∷ D) = keys_of_two test x y ++ keys_with test x D

-- the keys of the pairs of two literals of a list
abbrev pub keys_among : (Literal → Bool) → List Literal → List ℕ
keys_among test [] = []
keys_among test (x ∷ D) = keys_with test x D ++ keys_among test D

-- a number's property: it is the key of a pair of variables up to vars, neither of whose literals passes the test
abbrev pub IsKey : ℕ → (Literal → Bool) → ℕ → Type 0
IsKey vars test key = (p : Pair) × IsPairOf vars p × (test p.first ≡ false) × (test p.second ≡ false) × (key ≡ key_of p)

-- the number of times that a key occurs in a list
abbrev pub times : ℕ → List ℕ → ℕ
times key keys = count_by (λ k. k == key) keys

-- the keys of the pairs without a literal that passes the test: each key once for each short clause that has both literals of its pair
pub record AreKeys (vars : ℕ) (test : Literal → Bool) (clauses : List Clause) (keys : List ℕ) : Type 0 where
  pub counted : (p : Pair) → IsPairOf vars p → test p.first ≡ false → test p.second ≡ false → times (key_of p) keys ≡ together clauses p
  pub made : All (IsKey vars test) keys

-- the rank of a run of `count` equal keys; none if the run is empty
abbrev pub closed_run : ℕ → ℕ → List ℕ
closed_run key count = if count == 0 then [] else rank_of count key ∷ []

-- the ranks of the runs of equal keys in a sorted list, after `count` keys that were `last`
abbrev pub ranks_from : ℕ → ℕ → List ℕ → List ℕ
ranks_from last count [] = closed_run last count
ranks_from last count (key ∷ keys) =
    if key == last then ranks_from last (count + 1) keys
    else closed_run last count ++ ranks_from key 1 keys

-- a list's property: each number is below all after it
abbrev pub AreRising : List ℕ → Type 0
AreRising [] = Unit {0}
AreRising (x ∷ xs) = All (λ y. x < y) xs × AreRising xs

-- a list's property: no number is repeated
abbrev pub AreApart : List ℕ → Type 0
AreApart [] = Unit {0}
AreApart (x ∷ xs) = ¬ (Contains xs x) × AreApart xs

-- a rising list, before and after: a number was inserted in its order, and what is over the limit was cut off
pub record IsKept (limit number : ℕ) (old new : List ℕ) : Type 0 where
  pub front : List ℕ
  pub back : List ℕ
  pub splits : old ≡ front ++ back
  pub below : All (λ x. x ≤ number) front
  pub above : All (λ x. number < x) back
  pub kept : new ≡ take limit (front ++ number ∷ back)

-- a list `best` has the lowest of the numbers that were seen, rising, at most `limit` of them
pub record AreLowest (limit : ℕ) (seen best : List ℕ) : Type 0 where
  pub rising : AreRising best
  pub few : length best ≤ limit
  pub seen_all : All (Contains seen) best
  pub rest : (x : ℕ) → Contains seen x → Contains best x ⊎ ((length best ≡ limit) × All (λ y. y ≤ x) best)
