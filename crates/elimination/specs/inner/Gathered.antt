-- One clause's part of a resolvent.
use Rattle.std.specs.Prelude.{◌≢◌, ◌≡◌, ◌⊎◌, Contains}
use Rattle.std.specs.List.{IsDistinct}
use Rattle.dimacs.specs.logic.Literal.{Literal, Clause, IsTautology, same}
use Rattle.elimination.specs.Kept.{IsSubset}
use Rattle.elimination.specs.inner.Resolvents.{IsApart}

-- `after` has the literals of `before` and those of C but x; and it is as clean as `before`
pub record IsGathered (C : Clause) (x : Literal) (before after : Clause) : Type 0 where
  pub stays : IsSubset before after
  pub kept : (l : Literal) → Contains C l → (l ≡ x) ⊎ Contains after l
  pub only : (l : Literal) → Contains after l → Contains before l ⊎ (Contains C l × (l ≢ x))
  pub no_pair : ¬ (IsTautology before) → ¬ (IsTautology after)
  pub apart : IsApart x before → IsApart x after
  pub distinct : IsDistinct same before → IsDistinct same after

-- no clause that is apart from x and is no tautology has the literals of `before` and those of C but x
abbrev pub IsRefused : Clause → Literal → Clause → Type 0
IsRefused C x before =
    (R : Clause) → IsSubset before R → ((l : Literal) → Contains C l → (l ≡ x) ⊎ Contains R l) → ¬ (IsTautology R) → ¬ (IsApart x R)
