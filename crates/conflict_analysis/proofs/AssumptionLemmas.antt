-- An assumption whose negation was implied.
use Rattle.std.proofs.Common.{◌≡◌, ℕ, ◌<◌, ◌⊎◌, inl, inr, true, false, eqb, List, [], ◌∷◌, ◌++◌, length, get_or, take, drop, ap, sym, ◌∙◌, subst, arith}
use Rattle.std.specs.List.{All, Contains, IsDistinct}
use Rattle.std.proofs.lemmas.Bool.{false_from_ne_true}
use Rattle.std.proofs.lemmas.List.{take-append-drop}
use Rattle.std.proofs.lemmas.List.Elements.{All-contains, Contains-get_or}
use Rattle.dimacs.specs.logic.ClauseMap.{Live}
use Rattle.dimacs.specs.logic.Literal.{Literal, Clause, IsWithin, negation, var_of}
use Rattle.dimacs.proofs.LiteralLemmas.{same_or_not, negation-negation, negation_apart, var_of-negation, IsWithin-negation}
use Rattle.dimacs.proofs.Members.{Contains-head, Contains-cons_cases, Contains-nil}
use Rattle.watches.specs.Law.{IsImplied}
use Rattle.watches.specs.Trails.{TrailValue, IsTrailValue, holds, variables}
use Rattle.watches.specs.declared.trail.Assigned.{Assigned}
use Rattle.conflict_analysis.specs.BuiltTrails.{AreBuilt, AreInside}
use Rattle.conflict_analysis.specs.inner.Sizes.{AreSized}
use Rattle.conflict_analysis.specs.Lemmas.{IsDecision}
use Rattle.conflict_analysis.specs.inner.FinalAnalysis.{IsTraceable, AreNegated, AreOutside, AreFalseOr}
use Rattle.conflict_analysis.proofs.BuiltTrailLemmas.{behind}
use Rattle.conflict_analysis.proofs.FrontLemmas.{Contains-take}
use Rattle.conflict_analysis.proofs.EntryLemmas.{distinct_left, entry_from_holds, holds_from_entry}

built_prefix : (live : Live) (front xs ys : List Assigned) → AreBuilt live front (xs ++ ys) → AreBuilt live front xs
built_prefix live front [] ys b = tt
built_prefix live front (e ∷ xs) ys b = (b.0, built_prefix live (front ++ e ∷ []) xs ys b.1)

built_front : (live : Live) (es : List Assigned) (i : ℕ) → AreBuilt live [] es → AreBuilt live [] (take i es)
built_front live es i b = built_prefix live [] (take i es) (drop i es) (subst (AreBuilt live []) (sym (take-append-drop i es)) b)

distinct_front : (es : List Assigned) (i : ℕ) → IsDistinct eqb (variables es) → IsDistinct eqb (variables (take i es))
distinct_front es i d = distinct_left (take i es) (drop i es) (subst (λ xs. IsDistinct eqb (variables xs)) (sym (take-append-drop i es)) d)

one_of : (k l : Literal) → Contains (k ∷ []) l → k ≡ l
one_of k l i = elim (Contains-cons_cases k l [] i) [ inl q ↦ q | inr c ↦ absurd (Contains-nil l c) ]

-- nothing before an entry is of its variable
pub outside_front : (es : List Assigned) (i : ℕ) (d : Assigned) (k : Literal) → IsDistinct eqb (variables es) → i < length es → (get_or es i d).literal ≡ k → AreOutside (take i es) (k ∷ [])
outside_front es i d k apart l q = λ x c. let w = one_of k x c in (
  none x (ap var_of (sym w)),
  none (negation x) (var_of-negation x ∙ ap var_of (sym w)),
  λ j. negation_apart x (sym (sym w ∙ one_of k (negation x) j)),
)
  where
    none : (x : Literal) → var_of x ≡ var_of k → holds (take i es) x ≡ false
    none x v = false_from_ne_true (holds (take i es) x) (λ t.
        let e = entry_from_holds (take i es) x t in
        behind es i i d e.0 apart e.1 (omega arith) l (ap var_of e.2 ∙ v ∙ ap var_of (sym q)))

-- the reason of an entry is false except its literal
pub false_but_one : (live : Live) (front : List Assigned) (e : Assigned) (k : Literal) → e.literal ≡ k → (i : IsImplied live front e) → AreFalseOr front (k ∷ []) i.clause
false_but_one live front e k q i = λ x c. elim (same_or_not x e.literal) [
  | inl s ↦ inr (subst (Contains (k ∷ [])) (sym (s ∙ q)) (Contains-head k []))
  | inr n ↦ inl ((i.unit).others x c n)
]

pub negates_assumption : (es : List Assigned) (i : ℕ) (a : Literal) (lits : Clause) → AreNegated (take i es) (negation a ∷ []) lits → (l : Literal) → Contains lits l → IsDecision es (negation l) ⊎ (negation l ≡ a)
negates_assumption es i a lits h = λ l c. elim (h l c) [
  | inl f ↦ inr (ap negation (sym (one_of (negation a) l f)) ∙ negation-negation a)
  | inr (e, j, q, r) ↦ inl (e, Contains-take es i e j, q, r)
]

pub negates_decisions : (es : List Assigned) (lits : Clause) → AreNegated es [] lits → (l : Literal) → Contains lits l → IsDecision es (negation l)
negates_decisions es lits h = λ l c. elim (h l c) [ inl f ↦ absurd (Contains-nil l f) | inr d ↦ d ]

sized_from : (live : Live) (vars n : ℕ) → AreInside live vars → vars < n → AreSized live n
sized_from live vars n h l = λ m C c k i. let w = All-contains (IsWithin vars) C k (h m C c) i in let b = w.1 in omega (arith, b, l)

-- a trail can be traced
pub traceable : (live : Live) (t : TrailValue) (es : List Assigned) (n : ℕ) → es ≡ t.entries → IsTrailValue t → AreBuilt live [] t.entries → AreInside live t.vars → t.vars < n → IsTraceable live es n
traceable live t es n is valid built inside l = subst (λ xs. IsTraceable live xs n) (sym is) (record {
  built = built;
  apart = valid.apart;
  clauses = sized_from live t.vars n inside l;
  room = λ e c. let w = All-contains (λ x. IsWithin t.vars x.literal) t.entries e valid.within c in let b = w.1 in omega (arith, b, l);
})

-- and so can a front of one
pub traceable_front : (live : Live) (es : List Assigned) (i m n : ℕ) → n ≡ m → IsTraceable live es m → IsTraceable live (take i es) n
traceable_front live es i m n q h = subst (IsTraceable live (take i es)) (sym q) (record {
  built = built_front live es i h.built;
  apart = distinct_front es i h.apart;
  clauses = h.clauses;
  room = λ e c. h.room e (Contains-take es i e c);
})

-- literals of variables of the trail
pub within_from : (vars : ℕ) (es : List Assigned) (lits : Clause) → All (λ e. IsWithin vars e.literal) es → ((l : Literal) → Contains lits l → (holds es (negation l) ≡ true) ⊎ (holds es l ≡ true)) → All (IsWithin vars) lits
within_from vars es lits a h = λ k d l.
    let x = get_or lits k d in
    elim (h x (Contains-get_or lits k d l)) [
      | inl t ↦ let r = entry_from_holds es (negation x) t in
          subst (IsWithin vars) (ap negation r.2 ∙ negation-negation x) (IsWithin-negation vars r.0.literal (All-contains (λ e. IsWithin vars e.literal) es r.0 a r.1))
      | inr t ↦ let r = entry_from_holds es x t in subst (IsWithin vars) r.2 (All-contains (λ e. IsWithin vars e.literal) es r.0 a r.1)
    ]

pub decision_holds : (es : List Assigned) (l : Literal) → IsDecision es l → holds es l ≡ true
decision_holds es l d = subst (λ k. holds es k ≡ true) d.2 (holds_from_entry es d.0 d.1)
