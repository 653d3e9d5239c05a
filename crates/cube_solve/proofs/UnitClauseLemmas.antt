-- Unit clauses, and the unit lemma of a literal that is true at level 0.
use Rattle.std.proofs.Common.{◌≡◌, ℕ, ◌<◌, inl, inr, true, false, List, [], ◌∷◌, ◌++◌, length, get_or, take, refl, ap, sym, ◌∙◌, subst, arith}
use Rattle.std.specs.List.{All, Contains, IsDistinct}
use Rattle.std.proofs.lemmas.Bool.{both_ways, or_left, or_right, or_cases, false_from_ne_true}
use Rattle.std.proofs.lemmas.List.Elements.{All-cons, All-nil, Contains-append_left, Contains-push, Contains-push_cases}
use Rattle.std.proofs.lemmas.List.{get_or-take, length-take}
use Rattle.std.proofs.lemmas.Map.Keys.{IsDistinct-push, apart_from_distinct}
use Rattle.dimacs.specs.logic.ClauseMap.{Live}
use Rattle.dimacs.specs.logic.Literal.{Literal, Clause, IsWithin, has, negation, same, var_of}
use Rattle.dimacs.specs.logic.Propagation.{Assumed, IsUnit, Leads, Rup, negations, with_literal}
use Rattle.dimacs.proofs.LiteralLemmas.{same_equiv, same-is, same-true, negation-negation, negation_apart}
use Rattle.dimacs.proofs.Members.{Contains-head, Contains-cons_cases, Contains-nil, Contains-has, has-Contains}
use Rattle.clause_arena.specs.Clauses.{Clauses, live_of}
use Rattle.lrat_text.specs.Log.{IsNew}
use Rattle.watches.specs.declared.trail.Assigned.{Assigned}
use Rattle.watches.specs.Law.{SameUpToOrder}
use Rattle.watches.specs.Trails.{holds, present}
use Rattle.cube_solve.specs.Conflicts.{QuietBelow}
use Rattle.cube_solve.specs.inner.Reduction.{MayReduce}
use Rattle.cube_solve.specs.inner.Twins.{AreAmong, AreTwins, IsAdded}
use Rattle.cube_solve.specs.inner.UnitClauses.{AreNoted, IsUnitOf, IsLed, IsNoted}
use Rattle.cube_solve.proofs.ClauseLemmas.{same_back}

-- the literal of a clause of one
pub only_one : (l k : Literal) → Contains (l ∷ []) k → k ≡ l
only_one l k c = elim (Contains-cons_cases l k [] c) [ inl e ↦ sym e | inr n ↦ absurd (Contains-nil k n) ]

none_distinct : IsDistinct same []
unfolding IsDistinct
none_distinct = tt

pub one_distinct : (l : Literal) → IsDistinct same (l ∷ [])
one_distinct l = IsDistinct-push same_equiv [] l none_distinct refl

pub one_within : (n : ℕ) (l : Literal) → IsWithin n l → All (IsWithin n) (l ∷ [])
one_within n l h = All-cons (IsWithin n) l [] h (All-nil (IsWithin n))

-- of distinct literals none stands before itself
pub unseen_yet : (C : Clause) (i : ℕ) (x : Literal) → IsDistinct same C → i < length C → x ≡ get_or C i x → Contains (take i C) x → ⊥
unseen_yet C i x d l q c =
    let j : c.0 < i = let a = c.1 in let b = length-take i C in omega (arith, a, b, l) in
    let at : get_or C c.0 x ≡ x = sym (get_or-take i C c.0 x j) ∙ c.2 in
    both_ways (same (get_or C c.0 x) (get_or C i x)) (apart_from_distinct same C c.0 i x d j l) (same-is (get_or C c.0 x) (get_or C i x) (at ∙ q))

-- ---- clauses of one literal are noted
alone_twin : (C D : Clause) (l : Literal) → AreTwins C D → IsUnitOf D l → IsUnitOf C l
alone_twin C D l e a = ((e l).1 a.0, λ k i. a.1 k ((e k).0 i))

pub noted_among : (old new : Live) (numbers : List ℕ) → AreAmong new old → AreNoted old numbers → AreNoted new numbers
noted_among old new numbers among h n D l i a = let o = among n D i in h n o.0 l o.1 (alone_twin o.0 D l o.2 a)

pub noted_same : (m k : Clauses) (numbers : List ℕ) → SameUpToOrder m k → AreNoted (live_of m) numbers → AreNoted (live_of k) numbers
noted_same m k numbers s h = noted_among (live_of m) (live_of k) numbers (same_back m k s) h

pub noted_added : (old new : Live) (id : ℕ) (lits : Clause) (before after : List ℕ) → ((v : ℕ) → IsNoted before v → IsNoted after v) → ((l : Literal) → IsUnitOf lits l → IsNoted after (var_of l))
    → IsAdded old id lits new → AreNoted old before → AreNoted new after
noted_added old new id lits before after kept noted add h n D l i a = elim (add.only n D i) [
  | inl o ↦ kept (var_of l) (h n o.0 l o.1 (alone_twin o.0 D l o.2 a))
  | inr e ↦ noted l (alone_twin lits D l e.1 a)
]

pub noted_kept : (first : ℕ) (old new : Live) (before text numbers : List ℕ) → MayReduce first old new before text → AreNoted old numbers → AreNoted new numbers
noted_kept first old new before text numbers f h n D l i a = elim f [
  | inl s ↦ h n D l ((s.0).was n D i).1 a
  | inr g ↦ h n D l ((g.less).was n D i).1 a
]

-- a literal of which no clause of one literal is live has a new lemma
pub unit_is_new : (live : Live) (es : List Assigned) (numbers : List ℕ) (l : Literal) → AreNoted live numbers → (IsNoted numbers (var_of l) → ⊥) → QuietBelow live es → 0 < present es → IsNew live (l ∷ [])
unit_is_new live es numbers l h u q above n [] i sub = (q 0 above n [] i).0 (λ k j. absurd (Contains-nil k j))
unit_is_new live es numbers l h u q above n (x ∷ D) i sub =
    u (h n (x ∷ D) l i (subst (Contains (x ∷ D)) (only_one l x (sub x (Contains-head x D))) (Contains-head x D), λ k j. only_one l k (sub k j)))

-- ---- hints that lead on
leads_push : (live : Live) (hints : List ℕ) (α β : Assumed) (n : ℕ) (C : Clause) (x : Literal) → Leads live α hints β → live n C → IsUnit β C x → Leads live α (hints ++ n ∷ []) (with_literal β x)
leads_push live [] α β n C x e i u = (C, x, i, subst (λ γ. IsUnit γ C x) (sym e) u, ap (λ γ. with_literal γ x) e)
leads_push live (h ∷ hints) α β n C x l i u = (l.0, l.1, l.2, l.3, leads_push live hints (with_literal α l.1) β n C x l.4 i u)

module _ (live : Live) (es : List Assigned) (l : Literal) where
  pub led_none : IsLed live es l [] []
  led_none = record {
    reached = negations (l ∷ []);
    leads = refl;
    first = subst (λ x. has (l ∷ []) x ≡ true) (sym (negation-negation l)) (Contains-has (l ∷ []) l (Contains-head l []));
    all = λ k c. absurd (Contains-nil k c);
    only = λ m h. inl (sym (negation-negation m) ∙ ap negation (only_one l (negation m) (has-Contains (l ∷ []) (negation m) h)));
    lie = λ k c. absurd (Contains-nil k c);
  }

  -- past the literal itself
  pub led_same : (seen : Clause) (hints : List ℕ) (other : Literal) → other ≡ l → IsLed live es l seen hints → IsLed live es l (seen ++ other ∷ []) hints
  led_same seen hints other q w = record {
    reached = w.reached;
    leads = w.leads;
    first = w.first;
    all = λ k c. elim (Contains-push_cases seen other k c) [
      | inl i ↦ w.all k i
      | inr e ↦ subst (λ x. w.reached (negation x) ≡ true) (sym q ∙ e) w.first
    ];
    only = λ m h. elim (w.only m h) [ inl e ↦ inl e | inr c ↦ inr (Contains-append_left seen (other ∷ []) (negation m) c) ];
    lie = λ k c. elim (Contains-push_cases seen other k c) [ inl i ↦ w.lie k i | inr e ↦ inl (sym e ∙ q) ];
  }

  -- past another one, by a clause of its negation alone
  module _ (seen : Clause) (hints : List ℕ) (other : Literal) (n : ℕ) (apart : other ≡ l → ⊥) (negated : negation other ≡ l → ⊥)
      (not_true : holds es other ≡ false) (is_false : holds es (negation other) ≡ true) (lives : live n (negation other ∷ [])) (unseen : Contains seen other → ⊥) (w : IsLed live es l seen hints) where
    unit : IsUnit w.reached (negation other ∷ []) (negation other)
    unit = record {
      member = Contains-head (negation other) [];
      not_true = false_from_ne_true (w.reached (negation other)) (λ t. elim (w.only (negation other) t) [
        | inl e ↦ apart (sym (negation-negation other) ∙ ap negation e ∙ negation-negation l)
        | inr c ↦ unseen (subst (Contains seen) (negation-negation other) c)
      ]);
      not_false = false_from_ne_true (w.reached (negation (negation other))) (λ t. elim (w.only (negation (negation other)) t) [
        | inl e ↦ negated (ap negation (sym (negation-negation other) ∙ e) ∙ negation-negation l)
        | inr c ↦ elim (w.lie (negation other) (subst (Contains seen) (negation-negation (negation other)) c)) [
          | inl e ↦ negated e
          | inr h ↦ both_ways (holds es other) not_true (ap (holds es) (sym (negation-negation other)) ∙ h)
        ]
      ]);
      others = λ k c d. absurd (d (only_one (negation other) k c));
    }

    pub led_on : IsLed live es l (seen ++ other ∷ []) (hints ++ n ∷ [])
    led_on = record {
      reached = with_literal w.reached (negation other);
      leads = leads_push live hints (negations (l ∷ [])) w.reached n (negation other ∷ []) (negation other) w.leads lives unit;
      first = or_right (same (negation l) (negation other)) (w.reached (negation l)) w.first;
      all = λ k c. elim (Contains-push_cases seen other k c) [
        | inl i ↦ or_right (same (negation k) (negation other)) (w.reached (negation k)) (w.all k i)
        | inr e ↦ or_left (same (negation k) (negation other)) (w.reached (negation k)) (same-is (negation k) (negation other) (ap negation (sym e)))
      ];
      only = λ m h. elim (or_cases (same m (negation other)) (w.reached m) h) [
        | inl s ↦ inr (subst (Contains (seen ++ other ∷ [])) (sym (ap negation (same-true m (negation other) s) ∙ negation-negation other)) (Contains-push seen other))
        | inr t ↦ elim (w.only m t) [ inl e ↦ inl e | inr c ↦ inr (Contains-append_left seen (other ∷ []) (negation m) c) ]
      ];
      lie = λ k c. elim (Contains-push_cases seen other k c) [ inl i ↦ w.lie k i | inr e ↦ inr (subst (λ x. holds es (negation x) ≡ true) e is_false) ];
    }

  -- the clause is false then
  pub led_rup : (C : Clause) (hints : List ℕ) (n : ℕ) → IsLed live es l C hints → live n C → Rup live (l ∷ []) (hints ++ n ∷ [])
  led_rup C hints n w lives = record {
    no_pair = λ t. negation_apart t.0 (only_one l (negation t.0) t.2 ∙ sym (only_one l t.0 t.1));
    refutes = record { front = hints; last = n; reached = w.reached; clause = C; splits = refl; leads = w.leads; lives = lives; conflict = w.all };
  }
