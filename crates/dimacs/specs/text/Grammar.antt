-- The DIMACS grammar, by cases on lines and tokens, and the text that is written for a formula.
use Rattle.std.specs.Prelude.{◌≡◌, ℕ, List, [], ◌∷◌, ◌++◌, length, map, ℤ, pos, Some, codes, decimal}
use Rattle.std.specs.Fmt.{signed_decimal}
use Rattle.std.specs.List.{flat_map}
use Rattle.dimacs.specs.logic.Cnf.{Cnf, FitsIn, IsFormula}
use Rattle.dimacs.specs.logic.Limits.{Limits, written}
use Rattle.dimacs.specs.logic.Literal.{Literal, Clause, number_of}
use Rattle.dimacs.specs.text.Numbers.{number, natural}
use Rattle.dimacs.specs.text.Rows.{AreRows}
use Rattle.dimacs.specs.text.Words.{lines}

-- a clause as numbers, ended by 0
abbrev pub ended : Clause → List ℤ
ended clause = map number_of clause ++ pos 0 ∷ []

-- the tokens are the four of the header of the formula f
abbrev pub IsHeader : List (List ℕ) → Cnf → Type 0
IsHeader (p ∷ cnf ∷ v ∷ c ∷ []) f = (p ≡ codes "p") × (cnf ≡ codes "cnf") × (natural v ≡ Some f.vars) × (natural c ≡ Some (length f.clauses))
IsHeader _ f = ⊥

-- each token is a number, and the numbers are those of the clauses of f, each clause ended by 0
abbrev pub AreClauses : List (List ℕ) → Cnf → Type 0
AreClauses tokens f = map number tokens ≡ map Some (flat_map ended f.clauses)

-- the text spells the formula f, which fits into the limits L: the first line with a token is the header, and the clauses follow
abbrev pub SpellsWithin : Limits → List ℕ → Cnf → Type 0
SpellsWithin L text f = IsFormula f × AreRows (λ header. IsHeader header f) (λ tokens. AreClauses tokens f) (lines text) × FitsIn L f

-- the text spells the formula f, which fits into the written limits
abbrev pub Spells : List ℕ → Cnf → Type 0
Spells text f = SpellsWithin written text f

-- the text that is written for a literal: its number and a space
abbrev pub literal_text : Literal → List ℕ
literal_text l = signed_decimal (number_of l) ++ codes " "

-- the line that is written for a clause, without its LF
abbrev pub clause_text : Clause → List ℕ
clause_text c = flat_map literal_text c ++ codes "0"

-- the line that is written for a clause, with its LF
abbrev pub clause_line : Clause → List ℕ
clause_line c = clause_text c ++ codes "\n"

-- the line that is written for the header of the formula f, without its LF
abbrev pub header_text : Cnf → List ℕ
header_text f = codes "p cnf " ++ decimal f.vars ++ codes " " ++ decimal (length f.clauses)

-- the text that is written for the formula f
abbrev pub spelling : Cnf → List ℕ
spelling f = header_text f ++ codes "\n" ++ flat_map clause_line f.clauses

-- the old bytes are a prefix of the new ones
abbrev pub Begins : List ℕ → List ℕ → Type 0
Begins old new = (more : List ℕ) × (new ≡ old ++ more)
