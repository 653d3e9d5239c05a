-- The grammar of LRAT proofs in binary form, as CaDiCaL 2.1.3 writes them and docs/FORMATS.md describes them. This is what a reader must
-- believe of them. Parser says which fault bytes have that spell no steps.
use Rattle.std.specs.Prelude.{◌≡◌, ℕ, ◌+◌, ◌*◌, ◌<◌, ◌≤◌, List, [], ◌∷◌, ◌++◌, map}
use Rattle.std.specs.List.{flat_map}
use Rattle.std.specs.Str.{byte}
use Rattle.dimacs.specs.logic.Literal.{index_of}
use Rattle.dimacs.specs.logic.Rat.{Group}
use Rattle.lrat_text.specs.Grammar.{IsStepWithin}
use Rattle.lrat_text.specs.declared.step.Step.{Step}
use Rattle.lrat_text.specs.declared.step.Step.TheVariants.{Add, Delete}

-- The bytes spell the number n in unsigned LEB128, its lowest seven bits first. A byte below 128 is the last one. A byte b from 128 on
-- gives the seven bits b - 128, and the bytes after it spell the higher bits, which are not 0. So each number has one spelling.
abbrev pub SpellsNumber : List ℕ → ℕ → Type 0
SpellsNumber [] n = ⊥
SpellsNumber (b ∷ []) n = (b < 128) × (n ≡ b)
SpellsNumber (b ∷ c ∷ bs) n = (128 ≤ b) × (b < 256) × (high : ℕ) × (0 < high) × (n + 128 ≡ b + 128 * high) × SpellsNumber (c ∷ bs) high

-- the bytes spell these numbers, one after the other
abbrev pub SpellsNumbers : List ℕ → List ℕ → Type 0
SpellsNumbers bytes [] = bytes ≡ []
SpellsNumbers bytes (n ∷ ns) = (front : List ℕ) × (rest : List ℕ) × (bytes ≡ front ++ rest) × SpellsNumber front n × SpellsNumbers rest ns

-- the code of clause n
abbrev pub clause_code : ℕ → ℕ
clause_code n = 2 * n

-- the code of a group's candidate n
abbrev pub candidate_code : ℕ → ℕ
candidate_code n = 2 * n + 1

-- the codes of a group: its candidate, then its hints
abbrev pub group_codes : Group → List ℕ
group_codes g = candidate_code g.0 ∷ map clause_code g.1

-- The codes of a step. An addition is its number, the literals, 0, the hints, the groups, 0. A deletion is the numbers of the clauses, 0.
-- The code of a literal of the variable v is 2v, or 2v + 1 if it is negated.
abbrev pub step_codes : Step → List ℕ
step_codes (Add id lits hints groups) = clause_code id ∷ (map index_of lits ++ 0 ∷ (map clause_code hints ++ flat_map group_codes groups ++ 0 ∷ []))
step_codes (Delete ids) = map clause_code ids ++ 0 ∷ []

-- the letter with which a step begins
abbrev pub step_letter : Step → ℕ
step_letter (Add id lits hints groups) = byte "a"
step_letter (Delete ids) = byte "d"

-- the bytes spell the step, with variables up to most: its letter, then its codes
abbrev pub SpellsStepWithin : ℕ → List ℕ → Step → Type 0
SpellsStepWithin most [] step = ⊥
SpellsStepWithin most (b ∷ bytes) step = IsStepWithin most step × (b ≡ step_letter step) × SpellsNumbers bytes (step_codes step)

-- the bytes are the steps, one after the other, with variables up to most
abbrev pub SpellsWithin : ℕ → List ℕ → List Step → Type 0
SpellsWithin most bytes [] = bytes ≡ []
SpellsWithin most bytes (step ∷ steps) =
    (front : List ℕ) × (rest : List ℕ) × (bytes ≡ front ++ rest) × SpellsStepWithin most front step × SpellsWithin most rest steps

-- the bytes are the steps, one after the other, with variables up to 2,000,000
abbrev pub Spells : List ℕ → List Step → Type 0
Spells bytes steps = SpellsWithin 2000000 bytes steps
