-- Clauses by their numbers.
use Rattle.std.proofs.Common.{◌≡◌, ℕ, ◌+◌, ◌⊎◌, inl, inr, Bool, true, false, not, List, [], ◌∷◌, ◌++◌, length, Some, None, cond, refl, sym, ◌∙◌, ap, subst, arith}
use Rattle.std.specs.Prelude.{nat_eq}
use Rattle.std.specs.List.{Contains, list_any}
use Rattle.std.specs.FinMap.{get, insert, get-retain_keys, nat_cmp-IsAntisymmetric}
use Rattle.std.proofs.lemmas.Bool.{cases_eq}
use Rattle.std.proofs.lemmas.List.Elements.{Contains-append_left, Contains-append_right, Contains-push_cases}
use Rattle.dimacs.specs.logic.Literal.{Literal, Clause, negation, has}
use Rattle.dimacs.specs.logic.Cnf.{Cnf}
use Rattle.dimacs.specs.logic.ClauseMap.{ClauseMap, map_of}
use Rattle.dimacs.proofs.LiteralLemmas.{negation-negation}
use Rattle.dimacs.proofs.Members.{Contains-head, Contains-cons, Contains-cons_cases, Contains-nil, has-Contains}
use Rattle.lrat_text.specs.Log.{Cube}
use Rattle.lrat_text.specs.Proof.{without}
use Rattle.lrat_text.proofs.ClauseMapLemmas.{get_other, none_some, numbered_between}
use Rattle.proof_lift.specs.TrimmedLemma.{union}
use Rattle.proof_lift.specs.inner.Linked.{IsUnion, AreUpTo}

-- ---- the numbers of live clauses are at most the last number
pub up_to_formula : (F : Cnf) → AreUpTo (length F.clauses) (map_of F)
up_to_formula F n C h = let b = (numbered_between F.clauses n C h).1 in omega arith

pub up_to_insert : (top : ℕ) (N : ClauseMap) (C : Clause) → AreUpTo top N → AreUpTo (top + 1) (insert N (top + 1) C)
up_to_insert top N C h n D live = elim (cases_eq n (top + 1)) [
  | inl s ↦ omega arith
  | inr d ↦ let b = h n D (sym (get_other N (top + 1) n C d) ∙ live) in omega arith
]

-- ---- what a map holds after a change
pub get_without : (M : ClauseMap) (ids : List ℕ) (q : ℕ) → get (without M ids) q ≡ cond (not (list_any (nat_eq q) ids)) (get M q) None
get_without M ids q = get-retain_keys M (λ id. not (list_any (nat_eq id) ids)) q
    (λ x e. ap (λ (y : ℕ). not (list_any (nat_eq y) ids)) (sym (nat_cmp-IsAntisymmetric q x e)))

pub without_live : (M : ClauseMap) (ids : List ℕ) (q : ℕ) (C : Clause) → get (without M ids) q ≡ Some C → get M q ≡ Some C
without_live M ids q C e = at (not (list_any (nat_eq q) ids)) (sym (get_without M ids q) ∙ e)
  where
    at : (b : Bool) → cond b (get M q) None ≡ Some C → get M q ≡ Some C
    at true h = h
    at false h = absurd (none_some C h)

-- ---- the lemma and the negated cube
-- what stood in the clause stays
union_clause : (q : Cube) (C : Clause) (l : Literal) → Contains C l → Contains (union q C) l
union_clause [] C l h = h
union_clause (x ∷ q) C l h = at (has C (negation x)) (union_clause q C l h) (union_clause q (C ++ negation x ∷ []) l (Contains-append_left C (negation x ∷ []) l h))
  where
    at : (b : Bool) → Contains (union q C) l → Contains (union q (C ++ negation x ∷ [])) l → Contains (cond b (union q C) (union q (C ++ negation x ∷ []))) l
    at true a b = a
    at false a b = b

-- the negation of each literal of the cube stands there
union_cube : (q : Cube) (C : Clause) (l : Literal) → Contains q l → Contains (union q C) (negation l)
union_cube [] C l h = absurd (Contains-nil l h)
union_cube (x ∷ q) C l h =
    at (has C (negation x)) refl (Contains-cons_cases x l q h) (λ D here. union_clause q D (negation x) here) (λ D here. union_cube q D l here)
  where
    at : (b : Bool) → has C (negation x) ≡ b → (x ≡ l) ⊎ Contains q l → ((D : Clause) → Contains D (negation x) → Contains (union q D) (negation x))
        → ((D : Clause) → Contains q l → Contains (union q D) (negation l)) → Contains (cond b (union q C) (union q (C ++ negation x ∷ []))) (negation l)
    at true t (inl e) stays on = subst (λ y. Contains (union q C) (negation y)) e (stays C (has-Contains C (negation x) t))
    at false f (inl e) stays on = subst (λ y. Contains (union q (C ++ negation x ∷ [])) (negation y)) e (stays (C ++ negation x ∷ []) (Contains-append_right C (negation x ∷ []) (negation x) (Contains-head (negation x) [])))
    at true t (inr r) stays on = on C r
    at false f (inr r) stays on = on (C ++ negation x ∷ []) r

-- and nothing else
union_within : (q : Cube) (C : Clause) (l : Literal) → Contains (union q C) l → Contains C l ⊎ Contains q (negation l)
union_within [] C l h = inl h
union_within (x ∷ q) C l h = at (has C (negation x)) h (λ here. union_within q C l here) (λ here. union_within q (C ++ negation x ∷ []) l here)
  where
    later : Contains C l ⊎ Contains q (negation l) → Contains C l ⊎ Contains (x ∷ q) (negation l)
    later (inl c) = inl c
    later (inr r) = inr (Contains-cons x (negation l) q r)

    split : Contains (C ++ negation x ∷ []) l ⊎ Contains q (negation l) → Contains C l ⊎ Contains (x ∷ q) (negation l)
    split (inl c) = elim (Contains-push_cases C (negation x) l c) [
      | inl old ↦ inl old
      | inr is ↦ inr (subst (λ y. Contains (x ∷ q) y) (sym (negation-negation x) ∙ ap negation is) (Contains-head x q))
    ]
    split (inr r) = inr (Contains-cons x (negation l) q r)

    at : (b : Bool) → Contains (cond b (union q C) (union q (C ++ negation x ∷ []))) l → (Contains (union q C) l → Contains C l ⊎ Contains q (negation l))
        → (Contains (union q (C ++ negation x ∷ [])) l → Contains (C ++ negation x ∷ []) l ⊎ Contains q (negation l)) → Contains C l ⊎ Contains (x ∷ q) (negation l)
    at true here f g = later (f here)
    at false here f g = split (g here)

pub union_is : (q : Cube) (C : Clause) → IsUnion q C (union q C)
union_is q C = record { clause = union_clause q C; cube = union_cube q C; within = union_within q C }
