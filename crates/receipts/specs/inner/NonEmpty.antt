-- Whether a list of lemmas is not empty.
use Rattle.std.specs.Prelude.{Bool, true, false, List, [], ◌∷◌}
use Rattle.log_join.specs.ClosedLeaves.{Numbered}

-- the list is not empty
abbrev pub is_some_lemma : List Numbered → Bool
is_some_lemma [] = false
is_some_lemma (l ∷ lemmas) = true
