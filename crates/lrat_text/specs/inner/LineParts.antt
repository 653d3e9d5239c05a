-- The parts of a line that is written for a step.
use Rattle.std.specs.Prelude.{◌≡◌, ℕ, suc, ◌&&◌, ◌==◌, List, [], ◌∷◌, ◌++◌, get_or, decimal, codes, if◌then◌else◌}
use Rattle.std.specs.List.{flat_map}
use Rattle.dimacs.specs.logic.Literal.{Literal}
use Rattle.dimacs.specs.logic.Rat.{Group}
use Rattle.lrat_text.specs.Grammar.{literal_token, space}

-- a clause number after a space
abbrev pub number_text : ℕ → List ℕ
number_text n = codes " " ++ decimal n

-- a literal after a space
abbrev pub literal_text : Literal → List ℕ
literal_text l = codes " " ++ literal_token l

-- a group: its candidate after a space and a minus, then its hints
abbrev pub group_text : Group → List ℕ
group_text g = codes " -" ++ decimal g.0 ++ flat_map number_text g.1

-- the first part of an addition: its number, its literals and the 0 that ends them
abbrev pub lemma_text : ℕ → List Literal → List ℕ
lemma_text id lits = decimal id ++ flat_map literal_text lits ++ codes " 0"

-- the second part of an addition: its hints, its groups, the 0 that ends them and the LF
abbrev pub reasons_text : List ℕ → List Group → List ℕ
reasons_text hints groups = flat_map number_text hints ++ flat_map group_text groups ++ codes " 0\n"

-- the whole line of a deletion, which begins with the number top
abbrev pub deletion_text : ℕ → List ℕ → List ℕ
deletion_text top ids = decimal top ++ codes " d" ++ flat_map number_text ids ++ codes " 0\n"

-- the old bytes are a prefix of the new ones
abbrev pub Begins : List ℕ → List ℕ → Type 0
Begins old new = (more : List ℕ) × (new ≡ old ++ more)

-- the offset of the first space that a 0 follows; the length if there is none
abbrev pub zero_at : List ℕ → ℕ
zero_at [] = 0
zero_at (b ∷ bs) = if (b == space) && (get_or bs 0 0 == 48) then 0 else suc (zero_at bs)
