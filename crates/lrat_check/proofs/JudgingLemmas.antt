-- Bytes of truth values, and the assignment that they are evidence of.
use Rattle.std.proofs.Common.{◌≡◌, ℕ, ◌==◌, Bool, true, false, nat_lt, List, map, length, refl, subst, ap, sym, ◌∙◌}
use Rattle.std.specs.List.{list_all}
use Rattle.std.proofs.lemmas.List.{length-map}
use Rattle.dimacs.specs.logic.Cnf.{Cnf, Sat, assignment_of}
use Rattle.lrat_check.specs.Judgement.{value_byte, AreValuesOf}
use Rattle.lrat_check.specs.Verdicts.{Right}
use Rattle.lrat_check.specs.declared.verdict.Verdict.{Verdict}
use Rattle.lrat_check.specs.declared.verdict.Verdict.TheVariants.{Model}
use Rattle.lrat_check.proofs.TruthBytes.{values_back, bytes_are_below, bytes_back}

-- bytes that are those of no assignment that satisfies are evidence of no right verdict
none_right : (F : Cnf) (values : List ℕ) → ((a : List Bool) → values ≡ map value_byte a → length a ≡ F.vars → Sat (assignment_of a) F → ⊥)
    → (v : Verdict) → AreValuesOf F values v → Right F v → ⊥
none_right F values wrong v (a, is, bytes, count) right = wrong a bytes count ((subst (Right F) is right).1)

-- nor are bytes of another number than there are variables
pub wrong_number : (F : Cnf) (values : List ℕ) → (length values ≡ F.vars → ⊥) → (v : Verdict) → AreValuesOf F values v → Right F v → ⊥
wrong_number F values wrong = none_right F values (λ a same count sat. wrong (ap length same ∙ (simp length-map count)))

-- nor bytes that are not all 0 or 1
pub wrong_byte : (F : Cnf) (values : List ℕ) → list_all (λ b. nat_lt b 2) values ≡ false → (v : Verdict) → AreValuesOf F values v → Right F v → ⊥
wrong_byte F values wrong = none_right F values (λ a same count sat. let below = bytes_are_below a in cc (ap (list_all (λ b. nat_lt b 2)) same))

-- nor those of an assignment that does not satisfy the formula
pub not_satisfying : (F : Cnf) (values : List ℕ) (found : List Bool) → found ≡ map (λ b. b == 1) values → (Sat (assignment_of found) F → ⊥)
    → (v : Verdict) → AreValuesOf F values v → Right F v → ⊥
not_satisfying F values found is wrong =
    none_right F values (λ a same count sat.
    let found_is : a ≡ found = sym (values_back a) ∙ sym (ap (map (λ b. b == 1)) same) ∙ sym is in
    wrong (subst (λ (x : List Bool). Sat (assignment_of x) F) found_is sat))

-- there are as many truth values as bytes
pub counted : (F : Cnf) (values : List ℕ) (found : List Bool) → found ≡ map (λ b. b == 1) values → length values ≡ F.vars → length found ≡ F.vars
counted F values found is count = ap length is ∙ simp length-map count

-- as many bytes as there are variables, each 0 or 1, are evidence of their truth values
pub are_values : (F : Cnf) (values : List ℕ) (found : List Bool) → found ≡ map (λ b. b == 1) values → length values ≡ F.vars
    → list_all (λ b. nat_lt b 2) values ≡ true → AreValuesOf F values (Model found)
are_values F values found is count below =
    (found, refl, sym (bytes_back values below) ∙ ap (map value_byte) (sym is), counted F values found is count)
