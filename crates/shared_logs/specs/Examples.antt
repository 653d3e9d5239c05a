-- Worked examples: a cell of three searches, and logs that would only support one another.
use Rattle.std.specs.Prelude.{ℕ, List, [], ◌∷◌, codes}
use Rattle.dimacs.specs.logic.Cnf.{Cnf}
use Rattle.dimacs.specs.logic.Examples.{one_or_two, one_or_not_two}
use Rattle.dimacs.specs.logic.Literal.{Clause, Pos, Neg}
use Rattle.lrat_text.specs.declared.step.Step.{Step}
use Rattle.lrat_text.specs.declared.step.Step.TheVariants.{Add, Delete}
use Rattle.shared_logs.specs.SharedLogs.{SharedStep, Lemma, Import, Deletion, Clock, SharedLog, Cell}
use Rattle.shared_logs.specs.WovenLogs.{NamedLine}

-- the formula p cnf 2 4, 1 2 0, 1 -2 0, -1 2 0, -1 -2 0
abbrev pub all_four : Cnf
all_four = record { vars = 2; clauses = one_or_two ∷ one_or_not_two ∷ (Neg 1 ∷ Pos 2 ∷ []) ∷ (Neg 1 ∷ Neg 2 ∷ []) ∷ [] }

-- the clause 1 0
abbrev pub one : Clause
one = Pos 1 ∷ []

-- the clause 2 0
abbrev pub two : Clause
two = Pos 2 ∷ []

-- a log over all_four with the lemma 1 0 at clock 0; later it deletes that lemma
abbrev pub first : SharedLog
first = record { name = codes "a"; steps = Lemma 5 one (1 ∷ 2 ∷ []) ∷ Clock 3 ∷ Deletion (5 ∷ []) ∷ [] }

-- a log that imports the first one's lemma at clock 1, and has by it the lemma 2 0
abbrev pub second : SharedLog
second = record { name = codes "b"; steps = Clock 1 ∷ Import 5 one (codes "a") 5 ∷ Lemma 6 two (5 ∷ 3 ∷ []) ∷ [] }

-- a log that imports the second one's lemma at clock 2, and has by it the empty clause
abbrev pub third : SharedLog
third = record { name = codes "c"; steps = Clock 2 ∷ Import 5 two (codes "b") 6 ∷ Lemma 6 [] (5 ∷ 2 ∷ 4 ∷ []) ∷ [] }

-- the text of the third log, in which the number 1 stands for the name of the second one
abbrev pub third_text : List ℕ
third_text = codes "w 1 b 0\ne 2 0\n5 i 2 0 1 6 0\n6 0 5 2 4 0\n"

-- the three logs
abbrev pub three : Cell
three = first ∷ second ∷ third ∷ []

-- their lines by the clock
abbrev pub three_lines : List NamedLine
three_lines =
    (codes "a", Lemma 5 one (1 ∷ 2 ∷ []))
    ∷ (codes "a", Clock 3)
    ∷ (codes "b", Clock 1)
    ∷ (codes "c", Clock 2)
    ∷ (codes "b", Import 5 one (codes "a") 5)
    ∷ (codes "b", Lemma 6 two (5 ∷ 3 ∷ []))
    ∷ (codes "c", Import 5 two (codes "b") 6)
    ∷ (codes "c", Lemma 6 [] (5 ∷ 2 ∷ 4 ∷ []))
    ∷ (codes "a", Deletion (5 ∷ []))
    ∷ []

-- the one log that these lines make: the clause 1 0 is deleted as soon as the second log has used it
abbrev pub one_log : List Step
one_log = Add 5 one (1 ∷ 2 ∷ []) [] ∷ Add 6 two (5 ∷ 3 ∷ []) [] ∷ Delete (5 ∷ []) ∷ Add 7 [] (6 ∷ 2 ∷ 4 ∷ []) [] ∷ []

-- those steps, where the clause is deleted before that
abbrev pub deleted_early : List Step
deleted_early = Add 5 one (1 ∷ 2 ∷ []) [] ∷ Delete (5 ∷ []) ∷ Add 6 two (5 ∷ 3 ∷ []) [] ∷ Add 7 [] (6 ∷ 2 ∷ 4 ∷ []) [] ∷ []

-- lines of which the second imports a lemma that was not yet written
abbrev pub imported_early : List NamedLine
imported_early = (codes "c", Clock 2) ∷ (codes "c", Import 5 two (codes "b") 6) ∷ []

-- the lines of a log over a formula of two clauses that imports, at clock 1, the clause 2 0 from the log of this name, and has it as its own
-- lemma for that reason alone
abbrev pub repeating : List ℕ → List SharedStep
repeating name = Clock 1 ∷ Import 3 two name 4 ∷ Lemma 4 two (3 ∷ []) ∷ []

-- two such logs, each of which imports the other one's lemma
abbrev pub circle : Cell
circle = record { name = codes "a"; steps = repeating (codes "b") } ∷ record { name = codes "b"; steps = repeating (codes "a") } ∷ []

-- the first one's lines with a clock that goes back: it imports at clock 2, and writes its lemma at clock 0
abbrev pub going_back : List SharedStep
going_back = Clock 2 ∷ Import 3 two (codes "b") 4 ∷ Clock 0 ∷ Lemma 4 two (3 ∷ []) ∷ []

-- the circle with those lines
abbrev pub circle_back : Cell
circle_back = record { name = codes "a"; steps = going_back } ∷ record { name = codes "b"; steps = repeating (codes "a") } ∷ []
