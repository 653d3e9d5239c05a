-- Proofs of a formula of four clauses over two variables, to try renumbering on.
use Rattle.std.specs.Prelude.{List, [], ◌∷◌}
use Rattle.dimacs.specs.logic.Literal.{Pos, Neg}
use Rattle.lrat_text.specs.declared.step.Step.{Step}
use Rattle.lrat_text.specs.declared.step.Step.TheVariants.{Add, Delete}

-- the proof 5 2 0 1 2 0, 6 0 5 3 4 0
abbrev pub two_lines : List Step
two_lines = Add 5 (Pos 2 ∷ []) (1 ∷ 2 ∷ []) [] ∷ Add 6 [] (5 ∷ 3 ∷ 4 ∷ []) [] ∷ []

-- the proof 5 3 -1 -2 0 0, 6 -3 1 0 -5 0, 7 -3 2 0 -5 0, 8 2 0 1 2 0, 9 0 8 3 4 0
abbrev pub with_groups : List Step
with_groups =
    Add 5 (Pos 3 ∷ Neg 1 ∷ Neg 2 ∷ []) [] []
    ∷ Add 6 (Neg 3 ∷ Pos 1 ∷ []) [] ((5, []) ∷ [])
    ∷ Add 7 (Neg 3 ∷ Pos 2 ∷ []) [] ((5, []) ∷ [])
    ∷ Add 8 (Pos 2 ∷ []) (1 ∷ 2 ∷ []) []
    ∷ Add 9 [] (8 ∷ 3 ∷ 4 ∷ []) []
    ∷ []

-- the proof 3 d 1 0, 5 2 0 1 2 0, 5 d 1 2 0, 6 0 5 3 4 0, and after the empty clause 5 0 0, 5 d 5 0
abbrev pub with_deletions : List Step
with_deletions =
    Delete (1 ∷ [])
    ∷ Add 5 (Pos 2 ∷ []) (1 ∷ 2 ∷ []) []
    ∷ Delete (1 ∷ 2 ∷ [])
    ∷ Add 6 [] (5 ∷ 3 ∷ 4 ∷ []) []
    ∷ Add 5 [] [] []
    ∷ Delete (5 ∷ [])
    ∷ []
