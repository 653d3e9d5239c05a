-- A decision, what it implies, and a clause that is false then.
use Rattle.std.proofs.Common.{◌≡◌, ℕ, ◌<◌, ◌⊎◌, inl, inr, true, false, List, [], ◌∷◌, refl, ap, sym, ◌∙◌, subst, arith, Option, Some, None}
use Rattle.std.specs.List.{All, Contains, IsDistinct}
use Rattle.std.specs.FinMap.{get, insert, empty, get-empty}
use Rattle.std.specs.Ordering.{nat_cmp}
use Rattle.std.proofs.lemmas.Bool.{cases_eq, false≢true}
use Rattle.std.proofs.lemmas.List.Elements.{All-cons, All-nil}
use Rattle.clause_arena.specs.Clauses.{Clauses, live_of}
use Rattle.clause_arena.proofs.ClauseLaws.{get-insert_same, get-insert_other, live_once, none_empty}
use Rattle.dimacs.specs.logic.Literal.{Literal, Pos, Neg, Clause, IsWithin, negation, same}
use Rattle.dimacs.proofs.Members.{Contains-head, Contains-cons_cases, Contains-nil}
use Rattle.watches.specs.Law.{IsConflict}
use Rattle.watches.specs.Trails.{TrailValue, holds, up_to, present}
use Rattle.watches.specs.declared.trail.Assigned.{Assigned}
use Rattle.conflict_analysis.specs.BuiltTrails.{AreBuilt, AreInside}
use Rattle.conflict_analysis.specs.Lemmas.{IsFalseSincePresent, IsPresentConflict}

abbrev pub first : Clause
first = Neg 1 ∷ Pos 2 ∷ []

abbrev pub second : Clause
second = Neg 1 ∷ Neg 2 ∷ []

abbrev pub decision : Assigned
decision = record { literal = Pos 1; level = 1; reason = None }

abbrev pub implied : Assigned
implied = record { literal = Pos 2; level = 1; reason = Some 1 }

abbrev pub entries : List Assigned
entries = decision ∷ implied ∷ []

pair : (a b k : Literal) → Contains (a ∷ b ∷ []) k → (a ≡ k) ⊎ (b ≡ k)
pair a b k i = elim (Contains-cons_cases a k (b ∷ []) i) [
  | inl q ↦ inl q
  | inr j ↦ elim (Contains-cons_cases b k [] j) [ inl q ↦ inr q | inr n ↦ absurd (Contains-nil k n) ]
]

pub pair_distinct : (a b : Literal) → same a b ≡ false → IsDistinct same (a ∷ b ∷ [])
unfolding IsDistinct
pair_distinct a b h = ((h, tt), (tt, tt))

pub small_built : (m : Clauses) → live_of m 1 first → AreBuilt (live_of m) [] entries
small_built m lives = (
  inr (record { reason = refl; not_true = refl; not_false = refl; level = refl }),
  (
    inl (record {
      number = 1;
      clause = first;
      reason = refl;
      lives = lives;
      level = refl;
      unit = record {
        member = (1, omega arith, refl);
        not_true = refl;
        not_false = refl;
        others = λ k i d. elim (pair (Neg 1) (Pos 2) k i) [
          | inl q ↦ subst (λ x. holds (decision ∷ []) (negation x) ≡ true) q refl
          | inr q ↦ absurd (d (sym q))
        ];
      };
    }),
    tt,
  ),
)

false_second : (k : Literal) → Contains second k → holds entries (negation k) ≡ true
false_second k i = elim (pair (Neg 1) (Neg 2) k i) [
  | inl q ↦ subst (λ x. holds entries (negation x) ≡ true) q refl
  | inr q ↦ subst (λ x. holds entries (negation x) ≡ true) q refl
]

pub small_conflict : (m : Clauses) → live_of m 2 second → IsConflict (live_of m) entries 2
small_conflict m lives = (second, lives, false_second)

pub small_present : (m : Clauses) → live_of m 2 second → IsFalseSincePresent (live_of m) entries 2
small_present m lives = λ C h f. let q = live_once m 2 C second h lives in
    false≢true (subst (λ D. (k : Literal) → Contains D k → up_to entries 0 (negation k) ≡ true) q f (Neg 1) (Contains-head (Neg 1) (Neg 2 ∷ [])))

-- an analysis can begin there
pub is_present_conflict : (m : Clauses) (t : TrailValue) → t.vars ≡ 2 → t.entries ≡ entries → live_of m 1 first → live_of m 2 second → AreInside (live_of m) 2 → IsPresentConflict (live_of m) t 2
is_present_conflict m t vars is one two inside = record {
  built = subst (AreBuilt (live_of m) []) (sym is) (small_built m one);
  inside = subst (AreInside (live_of m)) (sym vars) inside;
  conflict = subst (λ es. IsConflict (live_of m) es 2) (sym is) (small_conflict m two);
  here = subst (λ es. IsFalseSincePresent (live_of m) es 2) (sym is) (small_present m two);
  above = subst (λ es. 0 < present es) (sym is) (omega arith);
}

-- two clauses over two variables
pub small_first : (p q : ℕ) → live_of (insert (insert empty 1 (p, first)) 2 (q, second)) 1 first
small_first p q = (p, get-insert_other (insert empty 1 (p, first)) 2 1 (q, second) (λ e. omega (arith, e)) ∙ get-insert_same empty 1 (p, first))

pub small_second : (p q : ℕ) → live_of (insert (insert empty 1 (p, first)) 2 (q, second)) 2 second
small_second p q = (q, get-insert_same (insert empty 1 (p, first)) 2 (q, second))

pub small_inside : (p q : ℕ) → AreInside (live_of (insert (insert empty 1 (p, first)) 2 (q, second))) 2
small_inside p q n C h = elim (cases_eq n 2) [
  | inl e ↦ subst (All (IsWithin 2)) (sym (live_once (insert (insert empty 1 (p, first)) 2 (q, second)) 2 C second (subst (λ k. live_of (insert (insert empty 1 (p, first)) 2 (q, second)) k C) e h) (small_second p q)))
      (All-cons (IsWithin 2) (Neg 1) (Neg 2 ∷ []) (omega arith, omega arith) (All-cons (IsWithin 2) (Neg 2) [] (omega arith, omega arith) (All-nil (IsWithin 2))))
  | inr d ↦ elim (cases_eq n 1) [
    | inl e ↦ subst (All (IsWithin 2)) (sym (live_once (insert (insert empty 1 (p, first)) 2 (q, second)) 1 C first (subst (λ k. live_of (insert (insert empty 1 (p, first)) 2 (q, second)) k C) e h) (small_first p q)))
        (All-cons (IsWithin 2) (Neg 1) (Pos 2 ∷ []) (omega arith, omega arith) (All-cons (IsWithin 2) (Pos 2) [] (omega arith, omega arith) (All-nil (IsWithin 2))))
    | inr f ↦ absurd (none_empty n C (h.0, sym (get-insert_other (insert empty 1 (p, first)) 2 n (q, second) d ∙ get-insert_other empty 1 n (p, first) f) ∙ h.1))
  ]
]

pub small_fresh : (p : ℕ) (C : Clause) → ◌≡◌ {A = Option (ℕ × Clause)} (get (insert {R = nat_cmp} empty 1 (p, C)) 2) None
small_fresh p C = get-insert_other empty 1 2 (p, C) (λ e. omega (arith, e)) ∙ get-empty nat_cmp 2
