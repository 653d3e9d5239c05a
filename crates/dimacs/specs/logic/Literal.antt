-- Literals, clauses and truth (Handbook of Satisfiability, chapter 3).
use Rattle.std.specs.Prelude.{◌≡◌, ℕ, suc, zero, ◌+◌, ◌*◌, ◌/◌, ◌%◌, ◌<◌, ◌≤◌, Bool, true, false, not, ◌==◌, ℤ, pos, negsuc, List, Contains, if◌then◌else◌}
use Rattle.std.specs.List.{list_any}

-- a variable, or its negation; variables are numbered from 1
pub data Literal : Type 0 where
  Pos : ℕ → Literal
  Neg : ℕ → Literal

-- the negation of a literal
abbrev pub negation : Literal → Literal
negation (Pos v) = Neg v
negation (Neg v) = Pos v

-- the variable of a literal
abbrev pub var_of : Literal → ℕ
var_of (Pos v) = v
var_of (Neg v) = v

-- whether a literal is the negation of its variable
abbrev pub is_negative : Literal → Bool
is_negative (Pos v) = false
is_negative (Neg v) = true

-- a clause: a list of literals, maybe with repeats
abbrev pub Clause : Type 0
Clause = List Literal

-- whether a literal is true under the assignment a
abbrev pub literal_true : (ℕ → Bool) → Literal → Bool
literal_true a (Pos v) = a v
literal_true a (Neg v) = not (a v)

-- some literal of the clause C is true under the assignment a
abbrev pub IsTrueIn : (ℕ → Bool) → Clause → Type 0
IsTrueIn a C = (l : Literal) × Contains C l × (literal_true a l ≡ true)

-- the clause C contains a literal and its negation
abbrev pub IsTautology : Clause → Type 0
IsTautology C = (l : Literal) × Contains C l × Contains C (negation l)

-- the variable of the literal l is from 1 to vars
abbrev pub IsWithin : ℕ → Literal → Type 0
IsWithin vars l = (0 < var_of l) × (var_of l ≤ vars)

-- whether two literals are the same
abbrev pub same : Literal → Literal → Bool
same (Pos v) (Pos w) = v == w
same (Neg v) (Neg w) = v == w
same (Pos v) (Neg w) = false
same (Neg v) (Pos w) = false

-- whether the clause C contains the literal l
abbrev pub has : Clause → Literal → Bool
has C l = list_any (same l) C

-- the number of a literal in a text: its variable, with a minus if it is negated
abbrev pub number_of : Literal → ℤ
number_of (Pos v) = pos v
number_of (Neg zero) = pos 0
number_of (Neg (suc n)) = negsuc n

-- the literal whose number in a text is the argument, which is not 0
abbrev pub literal_of_number : ℤ → Literal
literal_of_number (pos n) = Pos n
literal_of_number (negsuc n) = Neg (suc n)

-- the index of a literal in a table of all literals: twice its variable, plus 1 if it is negated
abbrev pub index_of : Literal → ℕ
index_of (Pos v) = 2 * v
index_of (Neg v) = 2 * v + 1

-- the literal of the index n
abbrev pub literal_of : ℕ → Literal
literal_of n = if n % 2 == 0 then Pos (n / 2) else Neg (n / 2)
