-- The part of a lemma that its hints use follows by the hints that are used.
use Rattle.std.proofs.Common.{◌≡◌, ◌≢◌, ℕ, inl, inr, Bool, true, false, not, ◌&&◌, List, [], ◌∷◌, cond, refl, sym, ap, subst}
use Rattle.std.proofs.lemmas.Bool.{both_ways, cases_Bool, or_cases, or_left, or_right, and_from, and_parts, not_from_false, not-true, false_from_ne_true}
use Rattle.dimacs.specs.logic.Literal.{Literal, Clause, IsTautology, negation, same, has}
use Rattle.dimacs.specs.logic.ClauseMap.{ClauseMap, live_in}
use Rattle.dimacs.specs.logic.Propagation.{Assumed, negations, with_literal, IsFalse, IsUnit, Refutes, Rup}
use Rattle.dimacs.proofs.LiteralLemmas.{same-true, same-is, same-false, negation-negation}
use Rattle.dimacs.proofs.Members.{has-Contains, Contains-has}
use Rattle.proof_lift.specs.HintWalk.{Passed}
use Rattle.proof_lift.specs.TrimmedLemma.{used_before, used, kept}
use Rattle.proof_lift.specs.inner.Linked.{ArePassed, IsTrimmed}
use Rattle.proof_lift.proofs.WalkLemmas.{Within, with_both}

-- what is used before a hint is assumed there, except the unit literal
without_unit : (A : Assumed) (U : Assumed) (l k : Literal) → Within U (with_literal A l) → U k ≡ true → k ≢ l → A k ≡ true
without_unit A U l k h u n = elim (or_cases (same k l) (A k) (h k u)) [
  | inl s ↦ absurd (n (same-true k l s))
  | inr t ↦ t
]

used_before_within : (A U : Assumed) (p : Passed) → IsUnit A p.clause p.unit → Within U (with_literal A p.unit) → Within (used_before p U) A
used_before_within A U p unit h k e = elim (or_cases (U k && not (same k p.unit)) (has p.clause (negation k) && not (same (negation k) p.unit)) e) [
  | inl a ↦
      let parts = and_parts (U k) (not (same k p.unit)) a in
      without_unit A U p.unit k h parts.0 (apart k p.unit (not-true (same k p.unit) parts.1))
  | inr b ↦
      let parts = and_parts (has p.clause (negation k)) (not (same (negation k) p.unit)) b in
      subst (λ x. A x ≡ true) (negation-negation k)
      (unit.others (negation k) (has-Contains p.clause (negation k) parts.0) (apart (negation k) p.unit (not-true (same (negation k) p.unit) parts.1)))
]
  where
    apart : (k l : Literal) → same k l ≡ false → k ≢ l
    apart k l f e = both_ways (same k l) f (same-is k l e)

-- where the unit literal is not used, what is used was assumed before it
skip_within : (A U : Assumed) (l : Literal) → U l ≡ false → Within U (with_literal A l) → Within U A
skip_within A U l f h k e = without_unit A U l k h e (λ is. both_ways (U l) f (subst (λ x. U x ≡ true) is e))

-- what is used is assumed
pub used_within : (N : ClauseMap) (ps : List Passed) (A B : Assumed) (conflict : Clause) → ArePassed N A ps B → IsFalse B conflict → Within (used ps conflict) A
used_within N [] A B conflict passed f = λ k e.
    subst (λ α. α k ≡ true) (sym passed) (subst (λ x. B x ≡ true) (negation-negation k) (f (negation k) (has-Contains conflict (negation k) e)))
used_within N (p ∷ ps) A B conflict (live, unit, rest) f =
    at (used ps conflict p.unit) refl (used_within N ps (with_literal A p.unit) B conflict rest f)
  where
    at : (b : Bool) → used ps conflict p.unit ≡ b → Within (used ps conflict) (with_literal A p.unit) → Within (cond b (used_before p (used ps conflict)) (used ps conflict)) A
    at true e h = used_before_within A (used ps conflict) p unit h
    at false e h = skip_within A (used ps conflict) p.unit e h

-- what is used after a hint is assumed once its unit literal joins what was used before it
used_after : (U B : Assumed) (p : Passed) → Within (used_before p U) B → Within U (with_literal B p.unit)
used_after U B p h k e = elim (cases_Bool (same k p.unit)) [
  | inl s ↦ or_left (same k p.unit) (B k) s
  | inr f ↦
      or_right (same k p.unit) (B k)
      (h k (or_left (U k && not (same k p.unit)) (has p.clause (negation k) && not (same (negation k) p.unit))
      (and_from (U k) (not (same k p.unit)) e (not_from_false (same k p.unit) f))))
]

-- a hint that is kept is unit still
still_unit : (A B U : Assumed) (p : Passed) → IsUnit A p.clause p.unit → Within B A → Within (used_before p U) B → IsUnit B p.clause p.unit
still_unit A B U p unit part h = record {
  member = unit.member;
  not_true = false_from_ne_true (B p.unit) (λ t. both_ways (A p.unit) unit.not_true (part p.unit t));
  not_false = false_from_ne_true (B (negation p.unit)) (λ t. both_ways (A (negation p.unit)) unit.not_false (part (negation p.unit) t));
  others = λ k here n.
      h (negation k) (or_right (U (negation k) && not (same (negation k) p.unit)) (has p.clause (negation (negation k)) && not (same (negation (negation k)) p.unit))
      (and_from (has p.clause (negation (negation k))) (not (same (negation (negation k)) p.unit))
      (subst (λ x. has p.clause x ≡ true) (sym (negation-negation k)) (Contains-has p.clause k here))
      (subst (λ x. not (same x p.unit) ≡ true) (sym (negation-negation k)) (not_from_false (same k p.unit) (same-false k p.unit n)))));
}

begun : (N : ClauseMap) (p : Passed) (B : Assumed) (numbers : List ℕ) → live_in N p.number p.clause → IsUnit B p.clause p.unit → Refutes (live_in N) (with_literal B p.unit) numbers
    → Refutes (live_in N) B (p.number ∷ numbers)
begun N p B numbers live u r = record {
  front = p.number ∷ r.front;
  last = r.last;
  reached = r.reached;
  clause = r.clause;
  splits = ap (λ x. p.number ∷ x) r.splits;
  leads = (p.clause, p.unit, live, u, r.leads);
  lives = r.lives;
  conflict = r.conflict;
}

pub kept_refutes : (N : ClauseMap) (ps : List Passed) (A B C : Assumed) (last : ℕ) (conflict : Clause) → ArePassed N A ps C → live_in N last conflict
    → Within B A → Within (used ps conflict) B → Refutes (live_in N) B (kept ps conflict last)
kept_refutes N [] A B C last conflict passed lives part h = record {
  front = [];
  last = last;
  reached = B;
  clause = conflict;
  splits = refl;
  leads = refl;
  lives = lives;
  conflict = λ k here. h (negation k) (subst (λ x. has conflict x ≡ true) (sym (negation-negation k)) (Contains-has conflict k here));
}
kept_refutes N (p ∷ ps) A B C last conflict (live, unit, rest) lives part h =
    at (used ps conflict p.unit) refl h (λ B' part' h'. kept_refutes N ps (with_literal A p.unit) B' C last conflict rest lives part' h')
  where
    at : (b : Bool) → used ps conflict p.unit ≡ b → Within (cond b (used_before p (used ps conflict)) (used ps conflict)) B
        → ((B' : Assumed) → Within B' (with_literal A p.unit) → Within (used ps conflict) B' → Refutes (live_in N) B' (kept ps conflict last))
        → Refutes (live_in N) B (cond b (p.number ∷ kept ps conflict last) (kept ps conflict last))
    at true e h on =
        begun N p B (kept ps conflict last) live (still_unit A B (used ps conflict) p unit part h)
        (on (with_literal B p.unit) (with_both B A p.unit part) (used_after (used ps conflict) B p h))
    at false e h on = on B (λ k t. or_right (same k p.unit) (A k) (part k t)) h

pub trimmed_follows : (N : ClauseMap) (E D : Clause) (ps : List Passed) (reached : Assumed) (last : ℕ) (conflict : Clause) → (IsTautology E → ⊥)
    → ArePassed N (negations E) ps reached → live_in N last conflict → IsFalse reached conflict → IsTrimmed ps conflict E D
    → Rup (live_in N) D (kept ps conflict last)
trimmed_follows N E D ps reached last conflict none passed lives f trimmed = record {
  no_pair = λ t. none (t.0, trimmed.within t.0 t.1, trimmed.within (negation t.0) t.2);
  refutes =
      kept_refutes N ps (negations E) (negations D) reached last conflict passed lives
      (λ k e. Contains-has E (negation k) (trimmed.within (negation k) (has-Contains D (negation k) e)))
      (λ k e. Contains-has D (negation k) (trimmed.needed (negation k) (has-Contains E (negation k) (used_within N ps (negations E) reached conflict passed f k e))
      (subst (λ x. used ps conflict x ≡ true) (sym (negation-negation k)) e)));
}
