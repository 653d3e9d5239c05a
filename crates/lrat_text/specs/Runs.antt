-- Lists of steps: the clauses that are live after them, and their text.
use Rattle.std.specs.Prelude.{ℕ, List, [], ◌∷◌, ◌++◌}
use Rattle.dimacs.specs.logic.ClauseMap.{ClauseMap}
use Rattle.lrat_text.specs.Log.{after_step, top_after}
use Rattle.lrat_text.specs.WrittenLine.{line_of}
use Rattle.lrat_text.specs.declared.step.Step.{Step}

-- the live clauses after steps that begin with the live clauses M
abbrev pub after_steps : ClauseMap → List Step → ClauseMap
after_steps M [] = M
after_steps M (step ∷ steps) = after_steps (after_step M step) steps

-- the number of the last addition of the steps; top if there is none
abbrev pub top_of : ℕ → List Step → ℕ
top_of top [] = top
top_of top (step ∷ steps) = top_of (top_after top step) steps

-- the lines of steps; the line of a deletion begins with the number of the last addition before it, or top if there is none
abbrev pub text_of : ℕ → List Step → List ℕ
text_of top [] = []
text_of top (step ∷ steps) = line_of top step ++ text_of (top_after top step) steps
