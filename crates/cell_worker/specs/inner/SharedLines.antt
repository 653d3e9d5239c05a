-- The bytes of the lines of a log with imports, each without its LF.
use Rattle.std.specs.Prelude.{ℕ, List, [], ◌∷◌, ◌++◌, codes, decimal}
use Rattle.std.specs.List.{flat_map}
use Rattle.dimacs.specs.logic.Literal.{Clause}
use Rattle.lrat_text.specs.WrittenLine.{literals_text}
use Rattle.lrat_text.specs.inner.LineParts.{number_text}

-- number, name: `w NUMBER NAME 0`
abbrev pub name_text : ℕ → List ℕ → List ℕ
name_text number name = codes "w " ++ decimal number ++ codes " " ++ name ++ codes " 0"

-- time: `e TIME 0`
abbrev pub clock_text : ℕ → List ℕ
clock_text time = codes "e " ++ decimal time ++ codes " 0"

-- literals and hints: what stands behind the number in the line of LRAT text that adds a clause
abbrev pub clause_text : Clause → List ℕ → List ℕ
clause_text C hints = literals_text C ++ (flat_map number_text hints ++ codes " 0")

-- number, clause, number of a log, number there: `NUMBER i LITERALS 0 LOG THERE 0`
abbrev pub import_text : ℕ → Clause → ℕ → ℕ → List ℕ
import_text number C log there = decimal number ++ (codes " i" ++ clause_text C (log ∷ there ∷ []))
