-- The heads of groups: where each group's hints end in the list of all hints.
use Rattle.std.specs.Prelude.{◌≡◌, ℕ, zero, suc, ◌≤◌, List, [], ◌∷◌}
use Rattle.lrat_text.specs.declared.groups.Head.{Head}

-- the heads of groups whose hints begin at start are those of a list of len hints: the ends never fall, and the last end is len
abbrev pub AreHeads : ℕ → List Head → ℕ → Type 0
AreHeads start [] len = start ≡ len
AreHeads start (h ∷ heads) len = (start ≤ h.end) × AreHeads h.end heads len

-- the index of the first hint of group i (from 0), if the hints of the first group begin at start
abbrev pub start_at : ℕ → List Head → ℕ → ℕ
start_at start heads zero = start
start_at start [] (suc i) = start
start_at start (h ∷ heads) (suc i) = start_at h.end heads i
