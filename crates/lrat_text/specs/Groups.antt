-- Groups of RAT hints that are held as heads and one list of all hints.
use Rattle.std.specs.Prelude.{ℕ, List, [], ◌∷◌, slice_range}
use Rattle.lrat_text.specs.declared.groups.Head.{Head}
use Rattle.dimacs.specs.logic.Rat.{Group}

-- the groups of these heads, if the hints of the first one begin at start
abbrev pub groups_from : ℕ → List Head → List ℕ → List Group
groups_from start [] hints = []
groups_from start (h ∷ heads) hints = (h.candidate, slice_range hints start h.end) ∷ groups_from h.end heads hints
