-- Numbers that are raised, and refutations under them.
use mathlib.Core.Path.{fun_ext}
use Rattle.std.proofs.Common.{◌≡◌, ℕ, ◌+◌, ◌-◌, ◌<◌, ◌≤◌, ◌⊎◌, inl, inr, Bool, true, false, List, [], ◌∷◌, ◌++◌, map, length, Some, cond, refl, sym, ◌∙◌, ap, subst, arith}
use Rattle.std.specs.Prelude.{IsSome}
use Rattle.std.specs.List.{enumerate_from}
use Rattle.std.specs.FinMap.{get, insert, find, get-from_entries}
use Rattle.std.specs.Ordering.{nat_cmp, eq_by_cmp}
use Rattle.std.specs.Cmp.{nat_cmp_total}
use Rattle.std.proofs.lemmas.Bool.{cases_lt}
use Rattle.std.proofs.lemmas.List.Elements.{All-weaker, All-map}
use Rattle.dimacs.specs.logic.ClauseMap.{ClauseMap, live_in, map_of}
use Rattle.dimacs.specs.logic.Cnf.{Cnf}
use Rattle.dimacs.specs.logic.Literal.{Clause}
use Rattle.lrat_text.specs.Proof.{without, Refutation}
use Rattle.lrat_text.specs.declared.step.Step.{Step}
use Rattle.lrat_text.specs.declared.step.Step.TheVariants.{Add, Delete}
use Rattle.proof_join.specs.RenumberedSteps.{behind, renumbered, renumbered_group}
use Rattle.proof_join.specs.RenumberedProof.{raised, raised_steps, RupRefutation}
use Rattle.proof_join.proofs.FragmentLemmas.{Mirrors, mirrors_insert, mirrors_without, still_some}
use Rattle.proof_join.proofs.MapLemmas.{none_some, between_formula}
use Rattle.proof_join.proofs.NumberLemmas.{le_true, le_false, behind_low, behind_high, distinct_behind}
use Rattle.proof_join.proofs.RupLemmas.{rup_renumbered}

pub raised_low : (m e n : ℕ) → n ≤ m → raised m e n ≡ n
raised_low m e n h = ap (λ c. cond c n (n + e)) (le_true n m h)

pub raised_high : (m e n : ℕ) → m < n → raised m e n ≡ n + e
raised_high m e n h = ap (λ c. cond c n (n + e)) (le_false n m h)

-- numbers above m go on after m + e
raised_is : (m e : ℕ) → raised m e ≡ behind m (m + e)
raised_is m e = fun_ext (λ n. at n (cases_lt m n))
  where
    at : (n : ℕ) → (m < n) ⊎ (n ≤ m) → raised m e n ≡ behind m (m + e) n
    at n (inl x) = let same : n + e ≡ n - m + (m + e) = omega arith in raised_high m e n x ∙ same ∙ sym (behind_high m (m + e) n x)
    at n (inr x) = raised_low m e n x ∙ sym (behind_low m (m + e) n x)

-- a refutation by reverse unit propagation is one under other numbers, whatever else is live
refutation_mirrored : (m e : ℕ) (steps : List Step) (N M : ClauseMap) (top high : ℕ) → m ≤ top → high ≡ top + e → Mirrors m (m + e) N M → RupRefutation N top steps
    → Refutation M high (map (renumbered (behind m (m + e))) steps)
refutation_mirrored m e [] N M top high low is h r = r
refutation_mirrored m e (Add id lits hints groups ∷ steps) N M top high low is h (above, rup, none, more) =
    let t : ℕ = m + e in
    let up : behind m t id ≡ id - m + t = behind_high m t id (omega arith) in (
      insert M (behind m t id) lits,
      behind m t id,
      (
        omega arith,
        inl (rup_renumbered (live_in N) (live_in M) (behind m t) h lits hints rup, ap (map (renumbered_group (behind m t))) none),
        refl,
        refl,
      ),
      elim more [
        | inl empty ↦ inl empty
        | inr later ↦ inr (refutation_mirrored m e steps (insert N id lits) (insert M (behind m t id) lits) id (behind m t id) (omega arith) (omega arith) (mirrors_insert m t (omega arith) N M id lits h) later)
      ],
    )
refutation_mirrored m e (Delete ids ∷ steps) N M top high low is h (live, distinct, later) =
    let t : ℕ = m + e in (
      without M (map (behind m t) ids),
      high,
      (
        All-map (λ id. IsSome (get M id)) (behind m t) ids (All-weaker (λ id. IsSome (get N id)) (λ id. IsSome (get M (behind m t id))) (λ id x. still_some m t (omega arith) N M id h x) ids live),
        distinct_behind m t ids (omega arith) distinct,
        refl,
        refl,
      ),
      inr (refutation_mirrored m e steps (without N ids) (without M (map (behind m t) ids)) top high low is (mirrors_without m t (omega arith) N M ids h) later),
    )

-- clauses in front of others are found as before
found_front : (F G : List Clause) (n q : ℕ) (C : Clause) → find nat_cmp q (enumerate_from n F) ≡ Some C → find nat_cmp q (enumerate_from n (F ++ G)) ≡ Some C
found_front [] G n q C h = absurd (none_some C h)
found_front (D ∷ F) G n q C h = at (eq_by_cmp nat_cmp q n) h (found_front F G (n + 1) q C)
  where
    at : (b : Bool) → cond b (Some D) (find nat_cmp q (enumerate_from (n + 1) F)) ≡ Some C
        → (find nat_cmp q (enumerate_from (n + 1) F) ≡ Some C → find nat_cmp q (enumerate_from (n + 1) (F ++ G)) ≡ Some C)
        → cond b (Some D) (find nat_cmp q (enumerate_from (n + 1) (F ++ G))) ≡ Some C
    at true x later = x
    at false x later = later x

-- the clauses of a formula stand under their numbers in front of others
formula_mirrored : (F : Cnf) (vars e : ℕ) (more : List Clause) → Mirrors (length F.clauses) (length F.clauses + e) (map_of F) (map_of (record { vars = vars; clauses = F.clauses ++ more }))
formula_mirrored F vars e more n C live =
    let between = between_formula F n C live in
    ap (get (map_of (record { vars = vars; clauses = F.clauses ++ more }))) (behind_low (length F.clauses) (length F.clauses + e) n between.1)
    ∙ get-from_entries nat_cmp_total (enumerate_from 1 (F.clauses ++ more)) n
    ∙ found_front F.clauses more 1 n C (sym (get-from_entries nat_cmp_total (enumerate_from 1 F.clauses) n) ∙ live)

-- so a formula's refutation is one of the formula with more clauses after its own
pub refutation_raised : (F : Cnf) (vars e high : ℕ) (more : List Clause) (steps : List Step) → high ≡ length F.clauses + e → RupRefutation (map_of F) (length F.clauses) steps
    → Refutation (map_of (record { vars = vars; clauses = F.clauses ++ more })) high (raised_steps (length F.clauses) e steps)
refutation_raised F vars e high more steps is r =
    let m : ℕ = length F.clauses in
    subst (λ (f : ℕ → ℕ). Refutation (map_of (record { vars = vars; clauses = F.clauses ++ more })) high (map (renumbered f) steps)) (sym (raised_is m e))
    (refutation_mirrored m e steps (map_of F) (map_of (record { vars = vars; clauses = F.clauses ++ more })) m high (omega arith) is (formula_mirrored F vars e more) r)
