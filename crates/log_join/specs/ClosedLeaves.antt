-- Which lemmas close which leaves of a splitting tree.
use Rattle.std.specs.Prelude.{ℕ, ◌+◌, Bool, true, false, ◌&&◌, Option, Some, is_none, is_some, List, [], ◌∷◌, map, if◌then◌else◌}
use Rattle.std.specs.List.{list_any, list_all}
use Rattle.dimacs.specs.logic.Literal.{Clause, negation, has}
use Rattle.icnf.specs.Leaves.{Cube}

-- every literal of the clause is the negation of a literal of the cube
abbrev pub closes : Cube → Clause → Bool
closes q C = list_all (λ l. has q (negation l)) C

-- a clause with its number
pub record Numbered : Type 0 where
  pub id : ℕ
  pub clause : Clause

-- a leaf: its cube and, if it is closed, the lemma that closes it
pub record Leaf : Type 0 where
  pub cube : Cube
  pub closing : Option Numbered

-- tells whether the leaf is closed
abbrev pub is_closed : Leaf → Bool
is_closed leaf = is_some leaf.closing

-- the leaf is open, and the lemma can close it
abbrev pub can_close : Numbered → Leaf → Bool
can_close l leaf = is_none leaf.closing && closes leaf.cube l.clause

-- the leaf after a lemma has closed it, if it is open and the lemma can close it
abbrev pub closed_by : Numbered → Leaf → Leaf
closed_by l leaf = if can_close l leaf then record { cube = leaf.cube; closing = Some l } else leaf

-- the leaves after a lemma has closed those open ones that it can close
abbrev pub settled : Numbered → List Leaf → List Leaf
settled l leaves = map (closed_by l) leaves

-- the leaves after each lemma in turn has closed those open ones that it can close
abbrev pub all_settled : List Leaf → List Numbered → List Leaf
all_settled leaves [] = leaves
all_settled leaves (l ∷ lemmas) = all_settled (settled l leaves) lemmas

-- the numbers of the lemmas that close no leaf when their turn comes
abbrev pub spent : List Leaf → List Numbered → List ℕ
spent leaves [] = []
spent leaves (l ∷ lemmas) = if list_any (can_close l) leaves then spent (settled l leaves) lemmas else l.id ∷ spent (settled l leaves) lemmas

-- the indices, with the index i before them if the leaf i is open
abbrev pub with_open : Bool → ℕ → List ℕ → List ℕ
with_open true i places = places
with_open false i places = i ∷ places

-- the indices of the open leaves, rising; the first leaf has the index i
abbrev pub open_from : ℕ → List Leaf → List ℕ
open_from i [] = []
open_from i (k ∷ leaves) = with_open (is_closed k) i (open_from (i + 1) leaves)
