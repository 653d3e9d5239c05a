-- The resolvent of two clauses on a literal.
use Rattle.std.specs.Prelude.{◌≡◌, ◌≢◌, ◌⊎◌, Contains}
use Rattle.std.specs.List.{IsDistinct}
use Rattle.dimacs.specs.logic.Literal.{Literal, Clause, IsTautology, negation, same, var_of}

-- the clause has no literal of the variable of x
abbrev pub IsApart : Literal → Clause → Type 0
IsApart x R = (l : Literal) → Contains R l → var_of l ≢ var_of x

-- R is a resolvent of C and D on x: it has the literals of C but x, and those of D but the negation of x, none twice, and no other ones; and it is no tautology
pub record IsResolvent (C D : Clause) (x : Literal) (R : Clause) : Type 0 where
  pub left : Contains C x
  pub right : Contains D (negation x)
  pub left_kept : (l : Literal) → Contains C l → (l ≡ x) ⊎ Contains R l
  pub right_kept : (l : Literal) → Contains D l → (l ≡ negation x) ⊎ Contains R l
  pub only : (l : Literal) → Contains R l → (Contains C l × (l ≢ x)) ⊎ (Contains D l × (l ≢ negation x))
  pub no_pair : ¬ (IsTautology R)
  pub apart : IsApart x R
  pub distinct : IsDistinct same R
