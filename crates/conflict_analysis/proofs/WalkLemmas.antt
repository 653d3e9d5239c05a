-- The walk steps past one more entry.
use Rattle.std.proofs.Common.{◌≡◌, ℕ, ◌+◌, ◌<◌, ◌≤◌, ◌⊎◌, inl, inr, Bool, true, false, not, cond, eqb, ◌||◌, ◌&&◌, List, [], ◌∷◌, ◌++◌, length, get_or, take, drop, reverse, length-drop, refl, ap, sym, ◌∙◌, subst, arith, Some, None, Result, Ok, Err}
use Rattle.std.specs.Prelude.{max}
use Rattle.std.specs.Result.{OnOk}
use Rattle.std.specs.List.{Contains, IsDistinct, list_any}
use Rattle.std.proofs.lemmas.List.{get_or_default, get_or-take, get_or-drop, length-take, drop_more, reverse-append}
use Rattle.std.proofs.lemmas.List.Elements.{All-contains, Contains-append_left, Contains-push, Contains-push_cases, Contains-get_or}
use Rattle.std.proofs.lemmas.List.Folds.{list_any-append}
use Rattle.std.proofs.lemmas.Map.Keys.{IsDistinct-push}
use Rattle.std.proofs.lemmas.Bool.{cases_eq, cases_lt, and_from, eq-eqb, eqb-true, false_from_ne_true, false≢true}
use Rattle.dimacs.specs.logic.ClauseMap.{Live}
use Rattle.dimacs.specs.logic.Literal.{Literal, Clause, negation, same, var_of}
use Rattle.dimacs.specs.logic.Propagation.{negations}
use Rattle.dimacs.proofs.LiteralLemmas.{same_equiv, same-false, negation-negation}
use Rattle.dimacs.proofs.Members.{Contains-head, Contains-cons, Contains-nil, has-Contains, Contains-has}
use Rattle.watches.specs.Trails.{holds, present, variables}
use Rattle.watches.specs.declared.trail.Assigned.{Assigned}
use Rattle.watches.proofs.LevelLemmas.{le_present}
use Rattle.clause_arena.specs.Clauses.{Clauses, live_of}
use Rattle.clause_arena.proofs.ClauseLaws.{live_once}
use Rattle.watches.specs.Law.{IsImplied}
use Rattle.conflict_analysis.specs.BuiltTrails.{AreBuilt}
use Rattle.conflict_analysis.specs.inner.TrailWalk.{waiting, is_present, IsKnown, IsResolved, AreWalked, HasLevel, IsLevelled, hints_of, resolved_of, reason_number}
use Rattle.conflict_analysis.proofs.BuiltTrailLemmas.{behind, built_at, not_decided, implied_by, reason_known}
use Rattle.conflict_analysis.proofs.EntryLemmas.{holds_from_entry, waiting_some, waiting_found}
use Rattle.conflict_analysis.proofs.ResolvedEntryLemmas.{settled_grows}

-- the entry of a place has a clause for its reason
pub implied_at : (m : Clauses) (es : List Assigned) → AreBuilt (live_of m) [] es → (i : ℕ) (d : Assigned) (n : ℕ) → i < length es → (get_or es i d).reason ≡ Some n → IsImplied (live_of m) (take i es) (get_or es i d)
implied_at m es built i d n below r = elim (built_at (live_of m) es built i d below) [
  | inl h ↦ h
  | inr h ↦ absurd (let x : None ≡ Some n = sym h.reason ∙ r in cc)
]

-- of which each literal can be met
pub known_at : (m : Clauses) (es : List Assigned) (built : AreBuilt (live_of m) [] es) (i : ℕ) (d : Assigned) (n : ℕ) (f : ℕ → Bool) → i < length es → f (var_of (get_or es i d).literal) ≡ true → (get_or es i d).reason ≡ Some n
    → (C : Clause) → live_of m n C → (k : Literal) → Contains C k → IsKnown (take i es) f k
known_at m es built i d n f below seen r C h k j =
    let e = implied_at m es built i d n below r in
    let q : C ≡ e.clause = live_once m n C e.clause h (implied_by (live_of m) (take i es) (get_or es i d) n e r) in
    reason_known (take i es) f (get_or es i d) e.clause e.unit seen k (subst (λ X. Contains X k) q j)

pub ok_both : {T E : Type 0} (P Q : Type 0) (r : Result T E) → OnOk r P → OnOk r Q → OnOk r (P × Q)
ok_both P Q (Ok x) p q = (p, q)
ok_both P Q (Err e) p q = tt

-- the hints of entries on which two tests agree
hints_same : (s t : Literal → Bool) (xs : List Assigned) → ((e : Assigned) → Contains xs e → s e.literal ≡ t e.literal) → hints_of s xs ≡ hints_of t xs
hints_same s t [] h = refl
hints_same s t (x ∷ xs) h =
    ap (λ b. cond b (reason_number x.reason ∷ hints_of s xs) (hints_of s xs)) (h x (Contains-head x xs))
    ∙ ap (λ ns. cond (t x.literal) (reason_number x.reason ∷ ns) ns) (hints_same s t xs (λ e c. h e (Contains-cons x e xs c)))

-- an entry of the rest has its place after the front
pub place_behind : (es : List Assigned) (j : ℕ) (e : Assigned) → Contains (drop j es) e → (k : ℕ) × (j ≤ k) × (k < length es) × (get_or es k e ≡ e)
place_behind es j e c = (
  j + c.0,
  omega arith,
  (let l = c.1 in let n = length-drop j es in omega (arith, l, n)),
  sym (get_or-drop j es c.0 e) ∙ c.2,
)

module _ (live : Live) (es : List Assigned) (apart : IsDistinct eqb (variables es)) (i : ℕ) (below : i < length es) (d : Assigned) where
  abbrev entry : Assigned
  entry = get_or es i d

  abbrev rest : List Assigned
  rest = drop (i + 1) es

  here : (c : Assigned) → get_or es i c ≡ entry
  here c = get_or_default es i c d below

  two_places : (k : ℕ) (c : Assigned) → i < k → k < length es → var_of entry.literal ≡ var_of (get_or es k c).literal → ⊥
  two_places k c l h q =
      behind es (i + 1) k c entry apart
      (subst (Contains (take (i + 1) es)) (get_or-take (i + 1) es i d (omega arith)) (Contains-get_or (take (i + 1) es) i d (let n = length-take (i + 1) es in omega (arith, n, below))))
      (omega (arith, l)) h q

  -- what is kept of later places is not this entry
  unkept : (lits : Clause) → ((l : Literal) → Contains lits l → (k : ℕ) × (i + 1 ≤ k) × (k < length es) × ((c : Assigned) → (get_or es k c).literal ≡ negation l)) → negations lits entry.literal ≡ false
  unkept lits kept = false_from_ne_true (negations lits entry.literal) (λ t.
      let r = kept (negation entry.literal) (has-Contains lits (negation entry.literal) t) in
      two_places r.0 d (let l = r.1 in omega (arith, l)) r.2 (ap var_of (sym (r.3 d ∙ negation-negation entry.literal))))

  -- the hints of the entry and the rest
  hints_here : (test : Literal → Bool) (b : Bool) → test entry.literal ≡ b → hints_of test (drop i es) ≡ cond b (reason_number entry.reason ∷ hints_of test rest) (hints_of test rest)
  hints_here test b q = ap (hints_of test) (drop_more es i d below) ∙ ap (λ x. cond x (reason_number entry.reason ∷ hints_of test rest) (hints_of test rest)) q

  -- an entry that was not met
  pub skips : (f : ℕ → Bool) (lits : Clause) (hints : List ℕ) → AreWalked live es (i + 1) f lits hints → f (var_of entry.literal) ≡ false → AreWalked live es i f lits hints
  skips f lits hints w new = record {
    each = λ k c le l m. elim (cases_eq i k) [
      | inl q ↦ absurd (let x : f (var_of entry.literal) ≡ true = ap (λ e. f (var_of e.literal)) (sym (here c)) ∙ ap (λ j. f (var_of (get_or es j c).literal)) q ∙ m in let y = new in cc)
      | inr n ↦ w.each k c (omega (arith, le, n)) l m
    ];
    kept = λ l c. let r = w.kept l c in (r.0, (let x = r.1 in omega (arith, x)), r.2, r.3);
    named = w.named ∙ ap reverse (sym (hints_here (resolved_of es f lits) false (unresolved (holds es entry.literal) (f (var_of entry.literal)) (not (negations lits entry.literal)) new)));
    distinct = w.distinct;
  }
    where
      unresolved : (a b c : Bool) → b ≡ false → (a && (b && c)) ≡ false
      unresolved true false c q = refl
      unresolved true true c q = absurd (false≢true (sym q))
      unresolved false b c q = refl

  -- an entry whose negation is kept
  pub keeps : (f : ℕ → Bool) (lits : Clause) (hints : List ℕ) → AreWalked live es (i + 1) f lits hints → AreWalked live es i f (lits ++ negation entry.literal ∷ []) hints
  keeps f lits hints w =
      let x = negation entry.literal in
      record {
        each = λ k c le l m. elim (cases_eq i k) [
          | inl q ↦ inl (subst (λ j. Contains (lits ++ x ∷ []) (negation (get_or es j c).literal)) q (subst (λ (e : Assigned). Contains (lits ++ x ∷ []) (negation e.literal)) (sym (here c)) (Contains-push lits x)))
          | inr n ↦ elim (w.each k c (omega (arith, le, n)) l m) [ inl t ↦ inl (Contains-append_left lits (x ∷ []) (negation (get_or es k c).literal) t) | inr s ↦ inr s ]
        ];
        kept = λ l c. elim (Contains-push_cases lits x l c) [
          | inl t ↦ let r = w.kept l t in (r.0, (let y = r.1 in omega (arith, y)), r.2, r.3)
          | inr q ↦ (i, omega arith, below, λ e. ap (λ (y : Assigned). y.literal) (here e) ∙ sym (negation-negation entry.literal) ∙ ap negation q)
        ];
        named = w.named ∙ ap reverse (
            hints_same (resolved_of es f lits) (resolved_of es f (lits ++ x ∷ [])) rest (λ e c. ap (λ b. holds es e.literal && (f (var_of e.literal) && not b)) (sym (same_kept e c)))
            ∙ sym (hints_here (resolved_of es f (lits ++ x ∷ [])) false (unresolved (holds es entry.literal) (f (var_of entry.literal)) (negations (lits ++ x ∷ []) entry.literal) (Contains-has (lits ++ x ∷ []) x (Contains-push lits x))))
            );
        distinct = IsDistinct-push same_equiv lits x w.distinct (unkept lits w.kept);
      }
    where
      unresolved : (a b c : Bool) → c ≡ true → (a && (b && not c)) ≡ false
      unresolved true true true q = refl
      unresolved true true false q = sym q
      unresolved true false c q = refl
      unresolved false b c q = refl

      or_none : (b : Bool) → (b || false) ≡ b
      or_none true = refl
      or_none false = refl

      same_kept : (e : Assigned) → Contains rest e → negations (lits ++ negation entry.literal ∷ []) e.literal ≡ negations lits e.literal
      same_kept e c =
          let r = place_behind es (i + 1) e c in
          let apart_here : same (negation e.literal) (negation entry.literal) ≡ false = same-false (negation e.literal) (negation entry.literal) (λ q.
          two_places r.0 e (let l = r.1 in omega (arith, l)) r.2 (ap var_of (sym (negation-negation entry.literal) ∙ ap negation (sym q) ∙ negation-negation e.literal) ∙ ap (λ (y : Assigned). var_of y.literal) (sym r.3))) in
          list_any-append (same (negation e.literal)) lits (negation entry.literal ∷ [])
          ∙ ap (λ b. list_any (same (negation e.literal)) lits || (b || false)) apart_here
          ∙ or_none (list_any (same (negation e.literal)) lits)

  -- an entry that is resolved, by whose reason more was met
  pub resolves : (f g : ℕ → Bool) (lits : Clause) (hints : List ℕ) (n : ℕ) → ((v : ℕ) → f v ≡ true → g v ≡ true)
      → ((k : ℕ) (c : Assigned) → i ≤ k → k < length es → g (var_of (get_or es k c).literal) ≡ true → f (var_of (get_or es k c).literal) ≡ true)
      → AreWalked live es (i + 1) f lits hints → f (var_of entry.literal) ≡ true → IsResolved live (take i es) g entry → entry.reason ≡ Some n → AreWalked live es i g lits (hints ++ n ∷ [])
  resolves f g lits hints n grows was w m s r =
      record {
        each = λ k c le l h. elim (cases_eq i k) [
          | inl q ↦ inr (subst (λ j. IsResolved live (take j es) g (get_or es j c)) q (subst (λ e. IsResolved live (take i es) g e) (sym (here c)) s))
          | inr ne ↦ elim (w.each k c (omega (arith, le, ne)) l (was k c le l h)) [ inl t ↦ inl t | inr t ↦ inr (settled_grows live (take k es) f g (get_or es k c) grows t) ]
        ];
        kept = λ l c. let x = w.kept l c in (x.0, (let y = x.1 in omega (arith, y)), x.2, x.3);
        named =
            ap (λ ns. ns ++ n ∷ []) (w.named ∙ ap reverse (hints_same (resolved_of es f lits) (resolved_of es g lits) rest same_seen))
            ∙ sym (reverse-append (n ∷ []) (hints_of (resolved_of es g lits) rest))
            ∙ ap reverse (sym (hints_here (resolved_of es g lits) true resolved ∙ ap (λ o. reason_number o ∷ hints_of (resolved_of es g lits) rest) r));
        distinct = w.distinct;
      }
    where
      resolved : resolved_of es g lits entry.literal ≡ true
      resolved = and_from (holds es entry.literal) _ (holds_from_entry es entry (Contains-get_or es i d below))
          (and_from (g (var_of entry.literal)) (not (negations lits entry.literal)) (grows (var_of entry.literal) m) (ap not (unkept lits w.kept)))

      both : (a b : Bool) → (a ≡ true → b ≡ true) → (b ≡ true → a ≡ true) → a ≡ b
      both true b h k = sym (h refl)
      both false true h k = k refl
      both false false h k = refl

      same_seen : (e : Assigned) → Contains rest e → resolved_of es f lits e.literal ≡ resolved_of es g lits e.literal
      same_seen e c =
          let p = place_behind es (i + 1) e c in
          ap (λ b. holds es e.literal && (b && not (negations lits e.literal))) (both (f (var_of e.literal)) (g (var_of e.literal)) (grows (var_of e.literal)) (λ t.
          subst (λ (x : Assigned). f (var_of x.literal) ≡ true) p.3 (was p.0 e (let l = p.1 in omega (arith, l)) p.2 (subst (λ (x : Assigned). g (var_of x.literal) ≡ true) (sym p.3) t))))

module _ (live : Live) (es : List Assigned) (built : AreBuilt live [] es) (rising : (j k : ℕ) (d : Assigned) → j ≤ k → k < length es → (get_or es j d).level ≤ (get_or es k d).level)
    (i : ℕ) (below : i < length es) (d : Assigned) (f : ℕ → Bool) (o p : ℕ) (before : o ≡ waiting f (is_present es) (take (i + 1) es)) (after : p ≡ waiting f (is_present es) (take i es))
    (seen : f (var_of (get_or es i d).literal) ≡ true) (passed : ((get_or es i d).level ≡ present es → ⊥) → p ≡ o) where
  abbrev e : Assigned
  e = get_or es i d

  -- where one waits in front, the entry is of the present level
  top : (g : ℕ → Bool) → 0 < waiting g (is_present es) (take i es) → e.level ≡ present es
  top g some =
      let r = waiting_found (take i es) g (is_present es) some in
      let c = r.1 in
      let j : c.0 < i = let y = c.1 in let z = length-take i es in omega (arith, y, z, below) in
      let at : get_or es c.0 r.0 ≡ r.0 = sym (get_or-take i es c.0 r.0 j) ∙ c.2 in
      let le : r.0.level ≤ e.level = subst (λ (x : Assigned). r.0.level ≤ x.level) (get_or_default es i r.0 d below)
      (subst (λ (x : Assigned). x.level ≤ (get_or es i r.0).level) at (rising c.0 i r.0 (omega (arith, j)) below)) in
      let greatest = All-contains (λ x. x.level ≤ present es) es e (le_present es) (Contains-get_or es i d below) in
      let q = eqb-true r.0.level (present es) r.3 in
      omega (arith, le, greatest, q)

  -- an entry of the present level was waiting
  waited : e.level ≡ present es → 0 < o
  waited q = let s = waiting_some (take (i + 1) es) f (is_present es) e
      (subst (Contains (take (i + 1) es)) (get_or-take (i + 1) es i d (omega arith)) (Contains-get_or (take (i + 1) es) i d (let n = length-take (i + 1) es in omega (arith, n, below))))
      seen (eq-eqb e.level (present es) q) in omega (arith, s, before)

  none_left : o ≡ 0 → (n : ℕ) (g : ℕ → Bool) → n ≡ waiting g (is_present es) (take i es) → n ≡ 0
  none_left z n g w = elim (cases_lt 0 n) [
    | inl l ↦ absurd (let s = waited (top g (omega (arith, l, w))) in omega (arith, s, z))
    | inr m ↦ omega (arith, m)
  ]

  -- the entry is resolved, and more was met
  pub levels_met : (g : ℕ → Bool) (n level : ℕ) (lits : Clause) → n ≡ waiting g (is_present es) (take i es) → p ≤ n → (e.level ≡ present es → 0 < p) → IsLevelled es o lits level → IsLevelled es n lits level
  levels_met g n level [] w more some (l, z) = (
    elim (cases_eq e.level (present es)) [
      | inl q ↦ let s = some q in omega (arith, s, more)
      | inr m ↦ let s = passed m in omega (arith, s, l, more)
    ],
    z,
  )
  levels_met g n level (x ∷ lits) w more some (z, a, b, h) = (none_left z n g w, a, b, h)

  -- the entry is kept
  pub levels_kept : (level greatest : ℕ) (lits : Clause) → (e.level ≡ present es → (p ≡ 0) ⊎ (e.reason ≡ None)) → (e.level ≡ present es → greatest ≡ level) → ((e.level ≡ present es → ⊥) → greatest ≡ max level e.level)
      → IsLevelled es o lits level → IsLevelled es p (lits ++ negation e.literal ∷ []) greatest
  levels_kept level greatest [] choice same lower (l, z) =
      elim (cases_eq e.level (present es)) [
        | inl q ↦ (
          elim (choice q) [
            | inl n ↦ n
            | inr r ↦ elim (cases_lt 0 p) [
              | inl s ↦ absurd (elim (built_at live es built i d below) [
                | inl h ↦ some_none h.number (sym h.reason ∙ r)
                | inr h ↦ not_decided es (take i es) e f p after q s h
              ])
              | inr s ↦ omega (arith, s)
            ]
          ],
          (e, Contains-get_or es i d below, sym (negation-negation e.literal), q),
          (λ k c. absurd (Contains-nil k c)),
          inl (same q ∙ z),
        )
        | inr n ↦ absurd (n (top f (let s = passed n in omega (arith, s, l, after))))
      ]
    where
      some_none : (n : ℕ) → Some n ≡ None → ⊥
      some_none n h = cc
  levels_kept level greatest (x ∷ lits) choice same lower (z, first, others, reached) =
      let n : e.level ≡ present es → ⊥ = λ q. let s = waited q in omega (arith, s, z) in
      let q = lower n in
      let mine : HasLevel es (negation e.literal) e.level = (e, Contains-get_or es i d below, sym (negation-negation e.literal), refl) in
      let least = All-contains (λ y. y.level ≤ present es) es e (le_present es) (Contains-get_or es i d below) in (
        passed n ∙ z,
        first,
        (λ k c. elim (Contains-push_cases lits (negation e.literal) k c) [
          | inl t ↦ let (m, h, a, b) = others k t in (m, h, a, omega (arith, b, q))
          | inr t ↦ (e.level, subst (λ l. HasLevel es l e.level) t mine, strictly e.level (present es) least n, omega (arith, q))
        ]),
        elim (cases_lt level e.level) [
          | inl l ↦ inr (negation e.literal, Contains-push lits (negation e.literal), subst (HasLevel es (negation e.literal)) (sym (q ∙ right level e.level l)) mine)
          | inr l ↦ elim reached [
            | inl y ↦ inl (omega (arith, q, l, y))
            | inr (k, c, h) ↦ inr (k, Contains-append_left lits (negation e.literal ∷ []) k c, subst (HasLevel es k) (sym (q ∙ left level e.level l)) h)
          ]
        ],
      )
    where
      strictly : (a b : ℕ) → a ≤ b → (a ≡ b → ⊥) → a < b
      strictly a b l m = elim (cases_lt a b) [ inl s ↦ s | inr g ↦ absurd (m (omega (arith, g, l))) ]

      right : (a b : ℕ) → a < b → max a b ≡ b
      right a b l = omega (arith, l)

      left : (a b : ℕ) → b ≤ a → max a b ≡ a
      left a b l = omega (arith, l)
