-- The line that is written for a step.
use Rattle.std.specs.Prelude.{ℕ, List, [], ◌++◌, codes, bytes_eq, Option, Some, None, if◌then◌else◌}
use Rattle.std.specs.List.{join_with_byte, flat_map}
use Rattle.dimacs.specs.logic.Literal.{Literal}
use Rattle.lrat_text.specs.Grammar.{space, literal_token, step_tokens}
use Rattle.lrat_text.specs.declared.step.Step.{Step}
use Rattle.lrat_text.specs.declared.step.Step.TheVariants.{Add, Delete}

-- the line that is written for a step, without its LF: the step's tokens with single spaces between them
abbrev pub line_text : ℕ → Step → List ℕ
line_text top step = join_with_byte space (step_tokens top step)

-- the line that is written for a step, with its LF
abbrev pub line_of : ℕ → Step → List ℕ
line_of top step = line_text top step ++ codes "\n"

-- the step's number if it is an addition and the line is the one that is written for it; None otherwise
abbrev pub canonical_id : List ℕ → Step → Option ℕ
canonical_id line (Add id lits hints groups) = if bytes_eq line (line_text id (Add id lits hints groups)) then Some id else None
canonical_id line (Delete ids) = None

-- the text of literals: each one after a space, and the closing 0 after a space
abbrev pub literals_text : List Literal → List ℕ
literals_text lits = flat_map (λ l. codes " " ++ literal_token l) lits ++ codes " 0"

-- the step without its literals, and the text of its literals, if it is an addition and the line is the one that is written for it; None
-- otherwise
abbrev pub canonical_parts : List ℕ → Step → Option (Step × List ℕ)
canonical_parts line (Add id lits hints groups) =
    if bytes_eq line (line_text id (Add id lits hints groups)) then Some (Add id [] hints groups, literals_text lits) else None
canonical_parts line (Delete ids) = None
