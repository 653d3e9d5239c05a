-- The trail cut to a level: nothing is left to propagate below the present level.
use Rattle.std.proofs.Common.{◌≡◌, ◌≢◌, ℕ, ◌+◌, ◌-◌, ◌<◌, ◌≤◌, ◌⊎◌, inl, inr, Bool, true, false, ◌||◌, ◌&&◌, List, [], ◌∷◌, ◌++◌, refl, ap, sym, ◌∙◌, subst, arith}
use Prim.Native.Nat.{max}
use Rattle.std.specs.Prelude.{nat_le}
use Rattle.std.specs.List.{All, Contains}
use Rattle.std.proofs.lemmas.List.Elements.{All-head, All-tail, All-cons, All-weaker, All-nil}
use Rattle.std.proofs.lemmas.List.Folds.{list_any-append}
use Rattle.std.proofs.lemmas.Bool.{cases_Bool, both_ways, or_left, or_right, or_cases, and_parts, and_from, and_right, leb-true, le-leb, lt-leb, cases_lt}
use Rattle.dimacs.specs.logic.ClauseMap.{Live}
use Rattle.dimacs.specs.logic.Literal.{Literal, Clause, has, negation, same}
use Rattle.dimacs.specs.logic.Propagation.{Assumed}
use Rattle.dimacs.proofs.LiteralLemmas.{same_or_not}
use Rattle.dimacs.proofs.Members.{has-Contains, Contains-has}
use Rattle.lrat_text.specs.Log.{IsNew}
use Rattle.watches.specs.declared.trail.Assigned.{Assigned}
use Rattle.watches.specs.Law.{NeitherFalseNorUnit, NoneFalseOrUnit, AreImplied}
use Rattle.watches.specs.Trails.{holds, present, up_to}
use Rattle.watches.proofs.LevelLemmas.{le_present, present_le}
use Rattle.conflict_analysis.specs.Lemmas.{IsAsserting}
use Rattle.cube_solve.specs.Conflicts.{QuietBelow}
use Rattle.cube_solve.specs.inner.Twins.{AreTwins, AreAmong, AreAmongOr}

inside_or_not : (C : Clause) (l : Literal) → Contains C l ⊎ ¬ (Contains C l)
inside_or_not C l = elim (cases_Bool (has C l)) [
  | inl t ↦ inl (has-Contains C l t)
  | inr n ↦ inr (λ h. both_ways (has C l) n (Contains-has C l h))
]

-- ---- the trail cut to a level
pub up_to-append : (xs ys : List Assigned) (k : ℕ) (l : Literal) → up_to (xs ++ ys) k l ≡ (up_to xs k l || up_to ys k l)
up_to-append xs ys k l = list_any-append (λ e. same e.literal l && nat_le e.level k) xs ys

pub up_to_high : (es : List Assigned) (k : ℕ) (l : Literal) → All (λ e. k < e.level) es → up_to es k l ≡ false
up_to_high [] k l a = refl
up_to_high (e ∷ es) k l a =
    let h = All-head (λ x. k < x.level) e es a in
    ap (λ b. b || up_to es k l) (and_right (same e.literal l) (nat_le e.level k) (lt-leb e.level k h)) ∙ up_to_high es k l (All-tail (λ x. k < x.level) e es a)

and_true : (b c : Bool) → c ≡ true → (b && c) ≡ b
and_true true c e = e
and_true false c e = refl

pub up_to_low : (es : List Assigned) (k : ℕ) (l : Literal) → All (λ e. e.level ≤ k) es → up_to es k l ≡ holds es l
up_to_low [] k l a = refl
up_to_low (e ∷ es) k l a =
    let h = All-head (λ x. x.level ≤ k) e es a in
    let x = and_true (same e.literal l) (nat_le e.level k) (le-leb e.level k h) in
    let y = up_to_low es k l (All-tail (λ x. x.level ≤ k) e es a) in
    ap (λ b. b || up_to es k l) x ∙ ap (λ b. same e.literal l || b) y

pub up_to_has : (es : List Assigned) (k : ℕ) (l : Literal) → up_to es k l ≡ true → holds es l ≡ true
up_to_has [] k l h = h
up_to_has (e ∷ es) k l h = elim (or_cases (same e.literal l && nat_le e.level k) (up_to es k l) h) [
  | inl x ↦ or_left (same e.literal l) (holds es l) (and_parts (same e.literal l) (nat_le e.level k) x).0
  | inr x ↦ or_right (same e.literal l) (holds es l) (up_to_has es k l x)
]

pub up_to_more : (es : List Assigned) (j k : ℕ) (l : Literal) → j ≤ k → up_to es j l ≡ true → up_to es k l ≡ true
up_to_more [] j k l le h = h
up_to_more (e ∷ es) j k l le h = elim (or_cases (same e.literal l && nat_le e.level j) (up_to es j l) h) [
  | inl x ↦ let p = and_parts (same e.literal l) (nat_le e.level j) x in
      or_left (same e.literal l && nat_le e.level k) (up_to es k l) (and_from (same e.literal l) (nat_le e.level k) p.0 (le-leb e.level k (let q = leb-true e.level j p.1 in omega arith)))
  | inr x ↦ or_right (same e.literal l && nat_le e.level k) (up_to es k l) (up_to_more es j k l le x)
]

-- what comes after at higher levels does not count
pub up_to_front : (xs ys : List Assigned) (k : ℕ) (l : Literal) → All (λ e. k < e.level) ys → up_to (xs ++ ys) k l ≡ up_to xs k l
up_to_front xs ys k l a = up_to-append xs ys k l ∙ ap (λ b. up_to xs k l || b) (up_to_high ys k l a) ∙ or_none (up_to xs k l)
  where
    or_none : (b : Bool) → (b || false) ≡ b
    or_none true = refl
    or_none false = refl

-- ---- calm is a matter of the values and of the set of literals
pub calm_same : (α β : Assumed) (c : Clause) → ((l : Literal) → α l ≡ β l) → NeitherFalseNorUnit α c → NeitherFalseNorUnit β c
calm_same α β c e h = (
  λ f. h.0 (λ m i. e (negation m) ∙ f m i),
  λ l u. h.1 l (record { member = u.member; not_true = e l ∙ u.not_true; not_false = e (negation l) ∙ u.not_false; others = λ m i d. e (negation m) ∙ u.others m i d }),
)

pub calm_set : (α : Assumed) (c d : Clause) → AreTwins c d → NeitherFalseNorUnit α c → NeitherFalseNorUnit α d
calm_set α c d e h = (
  λ f. h.0 (λ m i. f m ((e m).0 i)),
  λ l u. h.1 l (record { member = (e l).1 u.member; not_true = u.not_true; not_false = u.not_false; others = λ m i n. u.others m ((e m).0 i) n }),
)

pub present-append : (xs ys : List Assigned) → present (xs ++ ys) ≡ max (present xs) (present ys)
present-append [] ys = omega arith
present-append (x ∷ xs) ys = let h = present-append xs ys in omega arith

-- ---- the lemmas over a fixed set of live clauses
module _ (live : Live) where
  implied_levels : (es more : List Assigned) → AreImplied live es more → All (λ e. e.level ≡ present es) more
  implied_levels es [] h = All-nil (λ e. e.level ≡ present es)
  implied_levels es (x ∷ more) h =
      let here = (h.0).level in
      let same : present (es ++ x ∷ []) ≡ present es = let p = present-append es (x ∷ []) in omega arith in
      All-cons (λ e. e.level ≡ present es) x more here
      (All-weaker (λ e. e.level ≡ present (es ++ x ∷ [])) (λ e. e.level ≡ present es) (λ e q. q ∙ same) more (implied_levels (es ++ x ∷ []) more h.1))

  pub implied_present : (es more : List Assigned) → AreImplied live es more → present (es ++ more) ≡ present es
  implied_present es more h =
      let a = present_le more (present es) (All-weaker (λ e. e.level ≡ present es) (λ e. e.level ≤ present es) (λ e q. omega arith) more (implied_levels es more h)) in
      let b = present-append es more in
      omega arith

  -- propagation keeps it
  pub quiet_grows : (es more : List Assigned) → AreImplied live es more → QuietBelow live es → QuietBelow live (es ++ more)
  quiet_grows es more h q k l n c i =
      let p = implied_present es more h in
      calm_same (up_to es k) (up_to (es ++ more) k) c
      (λ x. sym (up_to_front es more k x (All-weaker (λ e. e.level ≡ present es) (λ e. k < e.level) (λ e q. omega arith) more (implied_levels es more h))))
      (q k (omega arith) n c i)

  -- a new level over a quiet trail
  pub quiet_opens : (es : List Assigned) (e : Assigned) → e.level ≡ present es + 1 → NoneFalseOrUnit live (holds es) → QuietBelow live es → QuietBelow live (es ++ e ∷ [])
  quiet_opens es e l a q k b n c i =
      let p = present-append es (e ∷ []) in
      let same : (x : Literal) → up_to es k x ≡ up_to (es ++ e ∷ []) k x = λ x. sym (up_to_front es (e ∷ []) k x (All-cons (λ y. k < y.level) e [] (omega arith) (All-nil (λ y. k < y.level)))) in
      calm_same (up_to es k) (up_to (es ++ e ∷ []) k) c same
      (elim (cases_lt k (present es)) [
        | inl lower ↦ q k lower n c i
        | inr top ↦ calm_same (holds es) (up_to es k) c
            (λ x. sym (up_to_low es k x (All-weaker (λ y. y.level ≤ present es) (λ y. y.level ≤ k) (λ y h. omega arith) es (le_present es))))
            (a n c i)
      ])

  -- an asserting lemma is fresh
  pub is_fresh : (es : List Assigned) (lits : Clause) (level : ℕ) → ((l : Literal) → holds es l ≡ true → holds es (negation l) ≡ true → ⊥)
      → QuietBelow live es → IsAsserting es lits level → IsNew live lits
  is_fresh es lits level sound q a n d i sub =
      let b = a.below in
      let calm : NeitherFalseNorUnit (up_to es (present es - 1)) d = q (present es - 1) (omega arith) n d i in
      let rest : (m : Literal) → Contains d m → m ≢ a.literal → up_to es (present es - 1) (negation m) ≡ true =
      λ m j apart. up_to_more es level (present es - 1) (negation m) (omega arith) (a.others m (sub m j) apart) in
      elim (inside_or_not d a.literal) [
        | inl j ↦ calm.1 a.literal (record {
          member = j;
          not_true = elim (cases_Bool (up_to es (present es - 1) a.literal)) [
            | inl t ↦ absurd (sound a.literal (up_to_has es (present es - 1) a.literal t) a.is_false)
            | inr f ↦ f
          ];
          not_false = a.is_present;
          others = rest;
        })
        | inr n ↦ calm.0 (λ m j. rest m j (λ e. n (subst (Contains d) e j)))
      ]

  -- a cut
  pub quiet_cut : (kept gone : List Assigned) (level : ℕ) → All (λ e. e.level ≤ level) kept → All (λ e. level < e.level) gone → QuietBelow live (kept ++ gone) → QuietBelow live kept
  quiet_cut kept gone level low high q k l n c i =
      let p = present-append kept gone in
      let b = present_le kept level low in
      calm_same (up_to (kept ++ gone) k) (up_to kept k) c
      (λ x. up_to_front kept gone k x (All-weaker (λ e. level < e.level) (λ e. k < e.level) (λ e h. omega arith) gone high))
      (q k (omega arith) n c i)

  lemma_calm : (kept gone : List Assigned) (lits : Clause) (level : ℕ)
      → All (λ e. e.level ≤ level) kept → All (λ e. level < e.level) gone
      → IsAsserting (kept ++ gone) lits level → (k : ℕ) → k < present kept → NeitherFalseNorUnit (up_to kept k) lits
  lemma_calm kept gone lits level low high a k l =
      let es = kept ++ gone in
      let pk = present_le kept level low in
      let b = a.below in
      let same : (x : Literal) → up_to es k x ≡ up_to kept k x =
      λ x. up_to_front kept gone k x (All-weaker (λ e. level < e.level) (λ e. k < e.level) (λ e h. omega arith) gone high) in
      let not_there : up_to kept k (negation a.literal) ≡ true → ⊥ =
      λ t. both_ways (up_to es (present es - 1) (negation a.literal)) a.is_present
      (up_to_more es k (present es - 1) (negation a.literal) (omega arith) (same (negation a.literal) ∙ t)) in (
        λ f. not_there (f a.literal a.member),
        λ x u. elim (same_or_not x a.literal) [
          | inl e ↦ elim a.reached [
            | inl z ↦ omega arith
            | inr (m, i, apart, r) ↦ both_ways (up_to es k (negation m)) (r k (omega arith)) (same (negation m) ∙ u.others m i (λ q. apart (q ∙ e)))
          ]
          | inr d ↦ not_there (u.others a.literal a.member (λ q. d (sym q)))
        ],
      )

  -- after the return to its level the lemma is neither false nor unit at a lower one
  pub quiet_learns : (new : Live) (kept gone : List Assigned) (lits : Clause) (level : ℕ)
      → ((l : Literal) → holds (kept ++ gone) l ≡ true → holds (kept ++ gone) (negation l) ≡ true → ⊥)
      → All (λ e. e.level ≤ level) kept → All (λ e. level < e.level) gone
      → QuietBelow live (kept ++ gone) → IsAsserting (kept ++ gone) lits level → AreAmongOr new live lits → QuietBelow new kept
  quiet_learns new kept gone lits level sound low high q a among k l n d i = elim (among n d i) [
    | inl o ↦ calm_set (up_to kept k) o.0 d o.2 (quiet_cut kept gone level low high q k l n o.0 o.1)
    | inr same ↦ calm_set (up_to kept k) lits d same (lemma_calm kept gone lits level low high a k l)
  ]

  pub quiet_fewer : (new : Live) (es : List Assigned) → AreAmong new live → QuietBelow live es → QuietBelow new es
  quiet_fewer new es among q k l n d i =
      let o = among n d i in calm_set (up_to es k) o.0 d o.2 (q k l n o.0 o.1)
