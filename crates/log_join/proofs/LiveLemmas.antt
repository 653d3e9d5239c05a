-- The lemmas of a log that are live at its end.
use Rattle.std.proofs.Common.{◌≡◌, ℕ, zero, suc, ◌+◌, ◌-◌, ◌<◌, ◌≤◌, inl, inr, Option, Some, None, ◌∷◌, refl, sym, ◌∙◌, ap, subst, arith}
use Rattle.std.specs.List.{Contains}
use Rattle.std.specs.FinMap.{get}
use Rattle.std.proofs.lemmas.Bool.{cases_eq}
use Rattle.dimacs.specs.logic.ClauseMap.{ClauseMap}
use Rattle.dimacs.specs.logic.Literal.{Clause}
use Rattle.dimacs.proofs.Members.{Contains-head, Contains-cons, Contains-cons_cases, Contains-nil}
use Rattle.proof_join.specs.RenumberedSteps.{behind}
use Rattle.proof_join.proofs.FragmentLemmas.{Mirrors}
use Rattle.proof_join.proofs.NumberLemmas.{behind_high}
use Rattle.log_join.specs.ClosedLeaves.{Numbered}
use Rattle.log_join.specs.JoinedLogs.{with_live, live_from}
use Rattle.log_join.proofs.SettleLemmas.{AreRising}

-- they rise where their clauses stand
pub live_rising : (m t : ℕ) (N M : ClauseMap) → Mirrors m t N M → (first count u : ℕ) → m < first → u + m < first + t → AreRising M u (live_from (behind m t) N first count)
live_rising m t N M mirrors first zero u above up = tt
live_rising m t N M mirrors first (suc count) u above up =
    at (get N first) refl (λ low. live_rising m t N M mirrors (first + 1) count u (omega arith) (omega arith))
    (let e : behind m t first ≡ first - m + t = behind_high m t first above in live_rising m t N M mirrors (first + 1) count (behind m t first) (omega arith) (omega arith))
  where
    at : (o : Option Clause) → get N first ≡ o → (◌≡◌ {A = Option Clause} o None → AreRising M u (live_from (behind m t) N (first + 1) count))
        → AreRising M (behind m t first) (live_from (behind m t) N (first + 1) count)
        → AreRising M u (with_live (behind m t first) o (live_from (behind m t) N (first + 1) count))
    at None e skip take = skip refl
    at (Some C) e skip take = (let f : behind m t first ≡ first - m + t = behind_high m t first above in omega arith, mirrors first C e, take)

pub live_has : (f : ℕ → ℕ) (N : ClauseMap) (first count n : ℕ) (C : Clause) → first ≤ n → n < first + count → get N n ≡ Some C → Contains (live_from f N first count) (record { id = f n; clause = C })
live_has f N first zero n C low up e = absurd (omega arith)
live_has f N first (suc count) n C low up e = elim (cases_eq n first) [
  | inl s ↦ subst (λ (o : Option Clause). Contains (with_live (f first) o (live_from f N (first + 1) count)) (record { id = f n; clause = C })) (sym (ap (get N) (sym s) ∙ e))
      (subst (λ (k : ℕ). Contains (record { id = f first; clause = C } ∷ live_from f N (first + 1) count) (record { id = f k; clause = C })) (sym s) (Contains-head (record { id = f first; clause = C }) (live_from f N (first + 1) count)))
  | inr d ↦ later (get N first) (live_has f N (first + 1) count n C (omega arith) (omega arith) e)
]
  where
    later : (o : Option Clause) → Contains (live_from f N (first + 1) count) (record { id = f n; clause = C }) → Contains (with_live (f first) o (live_from f N (first + 1) count)) (record { id = f n; clause = C })
    later None i = i
    later (Some D) i = Contains-cons (record { id = f first; clause = D }) (record { id = f n; clause = C }) (live_from f N (first + 1) count) i

pub record IsLive (f : ℕ → ℕ) (N : ClauseMap) (first count : ℕ) (l : Numbered) : Type 0 where
  pub number : ℕ
  pub low : first ≤ number
  pub up : number < first + count
  pub id : l.id ≡ f number
  pub lives : get N number ≡ Some l.clause

pub live_only : (f : ℕ → ℕ) (N : ClauseMap) (first count : ℕ) (l : Numbered) → Contains (live_from f N first count) l → IsLive f N first count l
live_only f N first zero l i = absurd (Contains-nil l i)
live_only f N first (suc count) l i = at (get N first) refl i (live_only f N (first + 1) count l)
  where
    more : IsLive f N (first + 1) count l → IsLive f N first (suc count) l
    more r = let a = r.low in let b = r.up in record { number = r.number; low = omega arith; up = omega arith; id = r.id; lives = r.lives }

    at : (o : Option Clause) → get N first ≡ o → Contains (with_live (f first) o (live_from f N (first + 1) count)) l
        → (Contains (live_from f N (first + 1) count) l → IsLive f N (first + 1) count l) → IsLive f N first (suc count) l
    at None e j rest = more (rest j)
    at (Some C) e j rest = elim (Contains-cons_cases (record { id = f first; clause = C }) l (live_from f N (first + 1) count) j) [
      | inl s ↦ record { number = first; low = omega arith; up = omega arith; id = ap (λ (z : Numbered). z.id) (sym s); lives = e ∙ ap (λ (z : Numbered). Some z.clause) s }
      | inr later ↦ more (rest later)
    ]
