-- If nothing is live, a deletion has fault 3.
use mathlib.Core.Logic.{∥∥₁_map}
use Rattle.std.proofs.Common.{◌≡◌, inl, inr, ℕ, ◌<◌, cond, List, [], ◌∷◌, Option, Some, None, ◌∙◌, ap, length, arith}
use Rattle.std.specs.Prelude.{All, is_some}
use Rattle.std.specs.FinMap.{get, remove}
use Rattle.std.proofs.lemmas.Bool.{cases_eq, lt-leb}
use Rattle.std.proofs.lemmas.Grind.{not_there}
use Rattle.std.proofs.lemmas.List.Elements.{All-head}
use Rattle.dimacs.specs.logic.ClauseMap.{ClauseMap}
use Rattle.dimacs.specs.logic.Cnf.{Cnf}
use Rattle.lrat_check.specs.Logs.{LogState, KeepsFormula, HoldsFormula, log_step_fault, log_deletion_fault}
use Rattle.lrat_text.specs.Grammar.{IsClauseNumber}
use Rattle.lrat_text.specs.declared.step.Step.TheVariants.{Delete}

none_some : (n : ℕ) → None ≡ Some n → ⊥
none_some n e = cc

same_some : (n m : ℕ) → Some n ≡ Some m → n ≡ m
same_some n m e = cc

is_three : (o : Option ℕ) → ¬ (¬ (o ≡ Some 3)) → o ≡ Some 3
is_three None h = absurd (h (none_some 3))
is_three (Some n) h = elim (cases_eq n 3) [
  | inl e ↦ ap (λ x. Some x) e
  | inr d ↦ absurd (h (λ e. d (same_some n 3 e)))
]

first_dead : (b : ℕ) (M : ClauseMap) (k : ℕ) (ks : List ℕ) → b < k → get M k ≡ None → log_deletion_fault b M (k ∷ ks) ≡ Some 3
first_dead b M k ks above dead =
    ap (λ x. cond x (Some 16) (cond (is_some (get M k)) (log_deletion_fault b (remove M k) ks) (Some 3))) (lt-leb k b above)
    ∙ ap (λ (o : Option _). cond (is_some o) (log_deletion_fault b (remove M k) ks) (Some 3)) dead

over : (F : Cnf) (s : LogState) (k : ℕ) (ks : List ℕ) → HoldsFormula F s → s.top ≡ 0 → IsClauseNumber k → log_step_fault s.base s.live s.top (Delete (k ∷ ks)) ≡ Some 3
over F s k ks h top numbered =
    let rises = h.rises in
    let low = numbered.0 in
    first_dead s.base s.live k ks (omega arith) (h.behind.none_above k (omega arith))

pub deleted_of_none : (s : LogState) (ids : List ℕ) → 0 < length ids → All IsClauseNumber ids → s.top ≡ 0 → ∥ ((F : Cnf) × HoldsFormula F s) ∥₁
    → log_step_fault s.base s.live s.top (Delete ids) ≡ Some 3
deleted_of_none s [] some all top h = absurd (omega arith)
deleted_of_none s (k ∷ ks) some all top h =
    is_three (log_step_fault s.base s.live s.top (Delete (k ∷ ks))) (λ no. not_there h (λ w. no (over w.0 s k ks w.1 top (All-head IsClauseNumber k ks all))))

pub stands_on : (old new : LogState) → KeepsFormula old new → ∥ ((F : Cnf) × HoldsFormula F old) ∥₁ → ∥ ((F : Cnf) × HoldsFormula F new) ∥₁
stands_on old new keeps h = ∥∥₁_map h (λ w. (w.0, keeps w.0 w.1))
