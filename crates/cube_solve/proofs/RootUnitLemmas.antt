-- A literal of level 0 whose reason becomes its unit lemma.
use Rattle.std.proofs.Common.{◌≡◌, ℕ, ◌+◌, ◌<◌, ◌≤◌, ◌⊎◌, inl, inr, true, false, eqb, refl, None, Some, List, [], ◌∷◌, ◌++◌, ap, sym, ◌∙◌, subst, arith}
use Rattle.std.specs.List.{Contains, IsDistinct}
use Rattle.std.proofs.lemmas.Bool.{both_ways, cases_lt}
use Rattle.std.proofs.lemmas.List.{map-append}
use Rattle.std.proofs.lemmas.List.Elements.{Contains-append_cases, Contains-append_left, Contains-append_right}
use Rattle.dimacs.specs.logic.ClauseMap.{Live}
use Rattle.dimacs.specs.logic.Literal.{Literal, Clause, IsWithin, negation}
use Rattle.dimacs.specs.logic.Propagation.{IsUnit}
use Rattle.dimacs.proofs.Members.{Contains-head, Contains-cons, Contains-cons_cases}
use Rattle.clause_arena.specs.Clauses.{Clauses}
use Rattle.decide_heap.specs.Decisions.{Decisions}
use Rattle.lrat_text.specs.Log.{Cube}
use Rattle.watches.specs.declared.trail.Assigned.{Assigned}
use Rattle.watches.specs.Law.{bare, SameUpToReasons, NeitherFalseNorUnit, IsExplained, IsImplied}
use Rattle.watches.specs.Trails.{TrailValue, holds, present, up_to, variables}
use Rattle.watches.specs.inner.ReasonLaws.{explained_alike, holds_alike, present_alike, up_to_alike}
use Rattle.conflict_analysis.specs.BuiltTrails.{AreBuilt, IsDecided}
use Rattle.conflict_analysis.proofs.WalkEndLemmas.{above_cut}
use Rattle.cube_solve.specs.Conflicts.{QuietBelow}
use Rattle.cube_solve.specs.inner.Twins.{AreTwins, IsAdded}
use Rattle.cube_solve.specs.inner.DecisionOrder.{IsOrder}
use Rattle.cube_solve.specs.inner.State.{IsAssuming}
use Rattle.cube_solve.proofs.BuiltLemmas.{sound}
use Rattle.cube_solve.proofs.LevelCutLemmas.{calm_same, calm_set, up_to_has, up_to_more}
use Rattle.cube_solve.proofs.UnitClauseLemmas.{only_one}

-- ---- what comes after entries that are alike
unit_alike : (f g : List Assigned) → SameUpToReasons f g → (C : Clause) (l : Literal) → IsUnit (holds f) C l → IsUnit (holds g) C l
unit_alike f g a C l u = record {
  member = u.member;
  not_true = holds_alike f g a l ∙ u.not_true;
  not_false = holds_alike f g a (negation l) ∙ u.not_false;
  others = λ k i d. holds_alike f g a (negation k) ∙ u.others k i d;
}

alike_push : (f g : List Assigned) (x : Assigned) → SameUpToReasons f g → SameUpToReasons (f ++ x ∷ []) (g ++ x ∷ [])
alike_push f g x a = map-append bare g (x ∷ []) ∙ ap (λ xs. xs ++ bare x ∷ []) a ∙ sym (map-append bare f (x ∷ []))

built_alike : (live : Live) (f g more : List Assigned) → SameUpToReasons f g → AreBuilt live f more → AreBuilt live g more
built_alike live f g [] a h = tt
built_alike live f g (x ∷ more) a h = (
  elim h.0 [
    | inl i ↦ inl (record { number = i.number; clause = i.clause; reason = i.reason; lives = i.lives; unit = unit_alike f g a i.clause x.literal i.unit; level = i.level ∙ sym (present_alike f g a) })
    | inr d ↦ inr (record {
      reason = d.reason;
      not_true = holds_alike f g a x.literal ∙ d.not_true;
      not_false = holds_alike f g a (negation x.literal) ∙ d.not_false;
      level = d.level ∙ ap (λ n. n + 1) (sym (present_alike f g a));
    })
  ],
  built_alike live (f ++ x ∷ []) (g ++ x ∷ []) more (alike_push f g x a) h.1,
)

-- ---- an entry of level 0 has the clause of its literal for its reason
module _ (live : Live) (e : Assigned) (n : ℕ) (D : Clause) (lives : live n D) (twin : AreTwins (e.literal ∷ []) D) (low : e.level ≡ 0) where
  abbrev f : Assigned
  f = record e { reason = Some n }

  unit_here : (front : List Assigned) → holds front e.literal ≡ false → holds front (negation e.literal) ≡ false → IsUnit (holds front) D e.literal
  unit_here front a b = record {
    member = (twin e.literal).0 (Contains-head e.literal []);
    not_true = a;
    not_false = b;
    others = λ k i d. absurd (d (only_one e.literal k ((twin k).1 i)));
  }

  implied_here : (front : List Assigned) → IsImplied live front e ⊎ IsDecided front e → IsImplied live front f
  implied_here front h = elim h [
    | inl i ↦ record { number = n; clause = D; reason = refl; lives = lives; unit = unit_here front (i.unit).not_true (i.unit).not_false; level = i.level }
    | inr d ↦ absurd (let l = d.level in omega (arith, l, low))
  ]

  built_fixed : (front xs rest : List Assigned) → AreBuilt live front (xs ++ e ∷ rest) → AreBuilt live front (xs ++ f ∷ rest)
  built_fixed front [] rest h = (
    inl (implied_here front h.0),
    built_alike live (front ++ e ∷ []) (front ++ f ∷ []) rest (map-append bare front (f ∷ []) ∙ sym (map-append bare front (e ∷ []))) h.1,
  )
  built_fixed front (x ∷ xs) rest h = (h.0, built_fixed (front ++ x ∷ []) xs rest h.1)

-- what is true at level 0 has level 0
fixed_low : (es : List Assigned) (e : Assigned) (l : Literal) → IsDistinct eqb (variables es) → Contains es e → e.literal ≡ l → up_to es 0 l ≡ true → e.level ≡ 0
fixed_low es e l apart i q h = elim (cases_lt 0 e.level) [
  | inl above ↦ absurd (both_ways (up_to es 0 l) (subst (λ k. up_to es 0 k ≡ false) q (above_cut es e 0 apart i above)) h)
  | inr none ↦ omega (arith, none)
]

module _ (es fs : List Assigned) (l : Literal) (n : ℕ) (x : IsExplained es fs l n) where
  abbrev alike : SameUpToReasons es fs
  alike = explained_alike es fs l n x

  there : Contains es x.entry
  there = subst (λ xs. Contains xs x.entry) (sym x.before) (Contains-append_right x.front (x.entry ∷ x.rest) x.entry (Contains-head x.entry x.rest))

  pub built_explained : (live : Live) (D : Clause) → live n D → AreTwins (l ∷ []) D → IsDistinct eqb (variables es) → up_to es 0 l ≡ true → AreBuilt live [] es → AreBuilt live [] fs
  built_explained live D lives twin apart fixed h =
      let low = fixed_low es x.entry l apart there x.literal fixed in
      let mine : AreTwins (x.entry.literal ∷ []) D = subst (λ k. AreTwins (k ∷ []) D) (sym x.literal) twin in
      subst (AreBuilt live []) (sym x.after) (built_fixed live x.entry n D lives mine low [] x.front x.rest (subst (AreBuilt live []) x.before h))

  -- no clause is false or unit below the present level, the new one neither
  pub quiet_explained : (old new : Live) (id : ℕ) → ((k : Literal) → holds es k ≡ true → holds es (negation k) ≡ true → ⊥) → up_to es 0 l ≡ true → IsAdded old id (l ∷ []) new → QuietBelow old es → QuietBelow new fs
  quiet_explained old new id sound fixed add q j below k D i =
      let b : j < present es = subst (λ p. j < p) (present_alike es fs alike) below in
      calm_same (up_to es j) (up_to fs j) D (λ y. sym (up_to_alike es fs alike j y)) (elim (add.only k D i) [
        | inl o ↦ calm_set (up_to es j) o.0 D o.2 (q j b k o.0 o.1)
        | inr t ↦ calm_set (up_to es j) (l ∷ []) D t.1 calm
      ])
    where
      here : up_to es j l ≡ true
      here = up_to_more es 0 j l (omega arith) fixed

      calm : NeitherFalseNorUnit (up_to es j) (l ∷ [])
      calm = (
        λ f. sound l (up_to_has es j l here) (up_to_has es j (negation l) (f l (Contains-head l []))),
        λ y u. both_ways (up_to es j y) u.not_true (ap (up_to es j) (only_one l y u.member) ∙ here),
      )

  entry_was : (e : Assigned) → Contains fs e → e.reason ≡ None → Contains es e
  entry_was e c none = subst (λ xs. Contains xs e) (sym x.before) (elim (Contains-append_cases x.front ((record x.entry { reason = Some n }) ∷ x.rest) e (subst (λ xs. Contains xs e) x.after c)) [
    | inl a ↦ Contains-append_left x.front (x.entry ∷ x.rest) e a
    | inr b ↦ elim (Contains-cons_cases (record x.entry { reason = Some n }) e x.rest b) [
      | inl q ↦ absurd (let r : Some n ≡ None = ap (λ (y : Assigned). y.reason) q ∙ none in cc)
      | inr d ↦ Contains-append_right x.front (x.entry ∷ x.rest) e (Contains-cons x.entry e x.rest d)
    ]
  ])

  pub assuming_explained : (q : Cube) (a : ℕ) → IsAssuming q es a → IsAssuming q fs a
  assuming_explained q a h = record {
    decided = λ e c none le. h.decided e (entry_was e c none) none le;
    full = elim h.full [
      | inl p ↦ inl (subst (λ k. k ≤ a) (sym (present_alike es fs alike)) p)
      | inr all ↦ inr (λ k i. up_to_alike es fs alike a k ∙ all k i)
    ];
  }

pub order_alike : (m : Clauses) (t u : TrailValue) (d : Decisions) → u.vars ≡ t.vars → SameUpToReasons t.entries u.entries → IsOrder m t d → IsOrder m u d
order_alike m t u d v a o = record {
  vars = o.vars ∙ sym v;
  waits = λ l i h. o.waits l i (record {
    within = subst (λ n. IsWithin n l) v h.within;
    not_true = sym (holds_alike t.entries u.entries a l) ∙ h.not_true;
    not_false = sym (holds_alike t.entries u.entries a (negation l)) ∙ h.not_false;
  });
}
