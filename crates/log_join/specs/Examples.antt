-- A small formula with three logs, as an example of a join.
use Rattle.std.specs.Prelude.{None, List, [], ◌∷◌}
use Rattle.dimacs.specs.logic.Literal.{Pos, Neg}
use Rattle.lrat_text.specs.declared.step.Step.{Step}
use Rattle.lrat_text.specs.declared.step.Step.TheVariants.{Add}
use Rattle.log_join.specs.ClosedLeaves.{Leaf, Numbered}
use Rattle.log_join.specs.JoinedLogs.{Ended, leaf, fork}

-- the leaves of a tree that is split on 1, with cubes 1 and -1, both open
abbrev pub two_leaves : List Leaf
two_leaves = record { cube = Pos 1 ∷ []; closing = None } ∷ record { cube = Neg 1 ∷ []; closing = None } ∷ []

-- a log over p cnf 2 4, 1 2 0, -1 2 0, 1 -2 0, -1 -2 0: of its lines 5 2 0 1 2 0 and 6 1 0 5 3 0 the second closes the right leaf; the
-- first is a lemma that is deleted
abbrev pub right_log : List Step
right_log = Add 5 (Pos 2 ∷ []) (1 ∷ 2 ∷ []) [] ∷ Add 6 (Pos 1 ∷ []) (5 ∷ 3 ∷ []) [] ∷ []

-- the live lemmas of that log at its end, under their numbers in the join
abbrev pub right_lemmas : List Numbered
right_lemmas = record { id = 5; clause = Pos 2 ∷ [] } ∷ record { id = 6; clause = Pos 1 ∷ [] } ∷ []

-- the lines before the fault of a log that is refused: 5 2 0 1 2 0
abbrev pub refused_log : List Step
refused_log = Add 5 (Pos 2 ∷ []) (1 ∷ 2 ∷ []) [] ∷ []

-- the live lemmas of that log, under their numbers in the join
abbrev pub refused_lemmas : List Numbered
refused_lemmas = record { id = 7; clause = Pos 2 ∷ [] } ∷ []

-- a log that closes the left leaf: 5 -1 0 2 4 0
abbrev pub left_log : List Step
left_log = Add 5 (Neg 1 ∷ []) (2 ∷ 4 ∷ []) [] ∷ []

-- the live lemmas of that log at its end, under their numbers in the join
abbrev pub left_lemmas : List Numbered
left_lemmas = record { id = 8; clause = Neg 1 ∷ [] } ∷ []

-- the tree after all three logs, both leaves closed
abbrev pub ended_tree : Ended
ended_tree = fork (Pos 1) (leaf 8 (Neg 1 ∷ [])) (leaf 6 (Pos 1 ∷ []))
