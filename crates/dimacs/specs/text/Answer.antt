-- The answer lines of the SAT competitions.
use Rattle.std.specs.Prelude.{ℕ, ◌+◌, Bool, true, false, nat_le, List, [], ◌∷◌, ◌++◌, length, codes, map, if◌then◌else◌}
use Rattle.std.specs.Fmt.{signed_decimal}
use Rattle.dimacs.specs.logic.Literal.{Literal, Pos, Neg, number_of}
use Rattle.dimacs.specs.declared.answer.Answer.{Answer}
use Rattle.dimacs.specs.declared.answer.Answer.TheVariants.{Satisfiable, Unsatisfiable, Unknown}

-- the literal of each variable, rising from v, that is true by these values
abbrev pub true_literals : ℕ → List Bool → List Literal
true_literals v [] = []
true_literals v (true ∷ values) = Pos v ∷ true_literals (v + 1) values
true_literals v (false ∷ values) = Neg v ∷ true_literals (v + 1) values

-- the items of the v lines of an assignment: the true literals, and then 0
abbrev pub witness_items : List Bool → List (List ℕ)
witness_items values = map (λ l. signed_decimal (number_of l)) (true_literals 1 values) ++ codes "0" ∷ []

-- the text of items after the first used bytes of a v line: each item goes after a space if the line then has at most 78 bytes, and
-- otherwise on a new v line
abbrev pub filled : ℕ → List (List ℕ) → List ℕ
filled used [] = codes "\n"
filled used (item ∷ items) =
    if nat_le (used + 1 + length item) 78
    then codes " " ++ item ++ filled (used + 1 + length item) items
    else codes "\nv " ++ item ++ filled (2 + length item) items

-- the v lines of an assignment
abbrev pub witness_lines : List Bool → List ℕ
witness_lines values = codes "v" ++ filled 1 (witness_items values)

-- the answer lines for an assignment that satisfies, with its v lines if witness is true
abbrev pub satisfied_lines : List Bool → Bool → List ℕ
satisfied_lines values witness = codes "s SATISFIABLE\n" ++ (if witness then witness_lines values else [])

-- the answer lines; only an assignment has v lines, which are given if witness is true
abbrev pub Lines : Answer → Bool → List ℕ
Lines (Satisfiable assignment) witness = satisfied_lines assignment.now witness
Lines Unsatisfiable witness = codes "s UNSATISFIABLE\n"
Lines Unknown witness = codes "s UNKNOWN\n"
