-- A conflict is traced back to the decisions.
use Rattle.std.proofs.Common.{◌≡◌, ℕ, ◌+◌, ◌<◌, ◌⊎◌, inl, inr, Bool, true, false, cond, eqb, List, [], ◌∷◌, ◌++◌, length, get_or, set, take, drop, reverse, refl, ap, sym, ◌∙◌, subst, arith, Option, Some, None}
use Rattle.std.specs.List.{Contains, IsDistinct, filter_map, cons_option}
use Rattle.std.proofs.lemmas.Bool.{cases_eq, both_ways, or_left, or_right, or_cases, eqb-true, eq-eqb}
use Rattle.std.proofs.lemmas.List.{length-set, get_or_default, drop_more, drop_all, reverse-append}
use Rattle.std.proofs.lemmas.List.Elements.{Contains-append_left, Contains-push, Contains-push_cases, Contains-get_or, filter_map-append}
use Rattle.dimacs.specs.logic.ClauseMap.{Live}
use Rattle.dimacs.specs.logic.Literal.{Literal, Clause, negation, var_of}
use Rattle.dimacs.proofs.LiteralLemmas.{var_of-negation, negation-negation}
use Rattle.dimacs.proofs.Members.{Contains-head, Contains-cons}
use Rattle.watches.specs.Law.{IsImplied}
use Rattle.watches.specs.Trails.{variables}
use Rattle.watches.specs.declared.trail.Assigned.{Assigned}
use Rattle.conflict_analysis.specs.BuiltTrails.{AreBuilt}
use Rattle.conflict_analysis.specs.declared.lemma.Lemma.{Lemma}
use Rattle.conflict_analysis.specs.inner.FinalAnalysis.{IsTraced, AreTraced, AreNegated, IsTracing, reason_of}
use Rattle.conflict_analysis.specs.inner.Seen.{met}
use Rattle.conflict_analysis.specs.inner.TrailWalk.{HasMet, IsKnown, IsResolved}
use Rattle.conflict_analysis.proofs.BuiltTrailLemmas.{built_at}
use Rattle.conflict_analysis.proofs.EntryLemmas.{entry_from_holds}
use Rattle.conflict_analysis.proofs.MetLiteralLemmas.{met_set}
use Rattle.conflict_analysis.proofs.ResolvedEntryLemmas.{was_met, settled_grows}
use Rattle.conflict_analysis.proofs.WalkLemmas.{place_behind}

-- one literal more is marked
pub mark_one : (front : List Assigned) (a b : List Bool) (k : Literal) → var_of k < length b → HasMet front a b → IsKnown front (met a) k → HasMet front a (set b (var_of k) true)
mark_one front a b k below h known = record {
  sized = length-set b (var_of k) true ∙ h.sized;
  grows = λ v m. met_set b (var_of k) v below ∙ or_left (met b v) (eqb v (var_of k)) (h.grows v m);
  only = λ v m. elim (or_cases (met b v) (eqb v (var_of k)) (sym (met_set b (var_of k) v below) ∙ m)) [
    | inl t ↦ h.only v t
    | inr t ↦ of_known v (eqb-true v (var_of k) t) known
  ];
}
  where
    of_known : (v : ℕ) → v ≡ var_of k → IsKnown front (met a) k → (met a v ≡ true) ⊎ ((e : Assigned) × Contains front e × (var_of e.literal ≡ v))
    of_known v w (inl s) = inl (subst (λ x. met a x ≡ true) (sym w) s)
    of_known v w (inr h) = let e = entry_from_holds front (negation k) h in inr (e.0, e.1, ap var_of e.2 ∙ var_of-negation k ∙ sym w)

pub mark_here : (a : List Bool) (u v : ℕ) → u < length a → u ≡ v → met (set a u true) v ≡ true
mark_here a u v below q = met_set a u v below ∙ or_right (met a v) (eqb v u) (eq-eqb v u (sym q))

pub mark_stays : (a : List Bool) (u v : ℕ) → u < length a → met a v ≡ true → met (set a u true) v ≡ true
mark_stays a u v below h = met_set a u v below ∙ or_left (met a v) (eqb v u) h

-- an entry with a reason was implied
pub implied_at : (live : Live) (es : List Assigned) → AreBuilt live [] es → (i : ℕ) (e : Assigned) (n : ℕ) → i < length es → e ≡ get_or es i e → e.reason ≡ Some n → IsImplied live (take i es) e
implied_at live es built i e n l q r = subst (IsImplied live (take i es)) (sym q) (elim (built_at live es built i e l) [
  | inl h ↦ h
  | inr h ↦ absurd (let a = h.reason in let b : (get_or es i e).reason ≡ Some n = subst (λ (x : Assigned). x.reason ≡ Some n) q r in let c : None ≡ Some n = sym a ∙ b in cc)
])

traced_grows : (live : Live) (front : List Assigned) (f g : ℕ → Bool) (lits more : Clause) (e : Assigned) → ((v : ℕ) → f v ≡ true → g v ≡ true) → IsTraced live front f lits e → IsTraced live front g lits e
traced_grows live front f g lits more e h (inl s) = inl (settled_grows live front f g e h s)
traced_grows live front f g lits more e h (inr s) = inr s

-- one entry more is traced
pub traces : (live : Live) (es : List Assigned) → IsDistinct eqb (variables es) → (i : ℕ) (old new : List Bool) (lits : Clause) (e : Assigned) → HasMet (take i es) old new → e ≡ get_or es i e
    → AreTraced live es (i + 1) (met old) lits → IsResolved live (take i es) (met new) e → AreTraced live es i (met new) lits
traces live es apart i old new lits e more at h one k d le l m = elim (cases_eq i k) [
  | inl q ↦ inl (subst (λ j. IsResolved live (take j es) (met new) (get_or es j d)) q
      (subst (IsResolved live (take i es) (met new)) (at ∙ get_or_default es i e d (omega (arith, q, l))) one))
  | inr n ↦ traced_grows live (take k es) (met old) (met new) lits lits (get_or es k d) more.grows (h k d (omega (arith, n, le)) l (was_met live es apart i old new more k d le l m))
]

-- the reasons of entries of which the same were met
reasons_same : (f g : ℕ → Bool) (xs : List Assigned) → ((e : Assigned) → Contains xs e → f (var_of e.literal) ≡ g (var_of e.literal)) → filter_map (reason_of f) xs ≡ filter_map (reason_of g) xs
reasons_same f g [] h = refl
reasons_same f g (x ∷ xs) h =
    filter_map-append (reason_of f) (x ∷ []) xs
    ∙ ap (λ b. cons_option (cond b x.reason None) [] ++ filter_map (reason_of f) xs) (h x (Contains-head x xs))
    ∙ ap (λ ns. cons_option (reason_of g x) [] ++ ns) (reasons_same f g xs (λ e c. h e (Contains-cons x e xs c)))
    ∙ sym (filter_map-append (reason_of g) (x ∷ []) xs)

-- nothing is traced at the end of a front
pub tracing_begins : (live : Live) (es : List Assigned) (seen : List Bool) (lemma : Lemma) → lemma.hints.items ≡ [] → lemma.level ≡ 0 → IsTracing live es lemma.lits.items (length es) seen lemma
tracing_begins live es seen lemma hints level = record {
  traced = λ k d le l m. absurd (omega (arith, le, l));
  named = hints ∙ sym (ap (λ xs. reverse (filter_map (reason_of (met seen)) xs)) (drop_all (length es) es (omega arith)));
  negated = λ l c. inl c;
  kept = λ l c. c;
  level = level;
}

module _ (live : Live) (es : List Assigned) (apart : IsDistinct eqb (variables es)) (i : ℕ) (below : i < length es) (e : Assigned) (at : e ≡ get_or es i e) (first : Clause) where
  abbrev rest : List Assigned
  rest = drop (i + 1) es

  here : (d : Assigned) → get_or es i d ≡ e
  here d = get_or_default es i d e below ∙ sym at

  reasons_here : (f : ℕ → Bool) (o : Option ℕ) → reason_of f e ≡ o → filter_map (reason_of f) (drop i es) ≡ cons_option o [] ++ filter_map (reason_of f) rest
  reasons_here f o q =
      ap (filter_map (reason_of f)) (drop_more es i e below ∙ ap (λ x. x ∷ rest) (sym at))
      ∙ filter_map-append (reason_of f) (e ∷ []) rest
      ∙ ap (λ p. cons_option p [] ++ filter_map (reason_of f) rest) q

  -- an entry that was not met
  pub traces_unmet : (seen : List Bool) (lemma : Lemma) → met seen (var_of e.literal) ≡ false → IsTracing live es first (i + 1) seen lemma → IsTracing live es first i seen lemma
  traces_unmet seen lemma new w = record {
    traced = λ k d le l m. elim (cases_eq i k) [
      | inl q ↦ absurd (both_ways (met seen (var_of e.literal)) new (ap (λ (x : Assigned). met seen (var_of x.literal)) (sym (here d)) ∙ ap (λ j. met seen (var_of (get_or es j d).literal)) q ∙ m))
      | inr n ↦ w.traced k d (omega (arith, n, le)) l m
    ];
    named = w.named ∙ ap reverse (sym (reasons_here (met seen) None (ap (λ b. cond b e.reason None) new)));
    negated = w.negated;
    kept = w.kept;
    level = w.level;
  }

  -- an entry that was decided, whose negation is kept
  pub traces_decided : (seen : List Bool) (lemma after : Lemma) → e.reason ≡ None → after.lits.items ≡ lemma.lits.items ++ negation e.literal ∷ [] → after.hints.items ≡ lemma.hints.items → after.level ≡ lemma.level
      → IsTracing live es first (i + 1) seen lemma → IsTracing live es first i seen after
  traces_decided seen lemma after r lits hints level w =
      let x = negation e.literal in
      record {
        traced = λ k d le l m. elim (cases_eq i k) [
          | inl q ↦ subst (λ j. IsTraced live (take j es) (met seen) after.lits.items (get_or es j d)) q (subst (λ y. IsTraced live (take i es) (met seen) after.lits.items y) (sym (here d))
              (inr (r, subst (λ xs. Contains xs x) (sym lits) (Contains-push lemma.lits.items x))))
          | inr n ↦ elim (w.traced k d (omega (arith, n, le)) l m) [
            | inl s ↦ inl s
            | inr s ↦ inr (s.0, more (negation (get_or es k d).literal) s.1)
          ]
        ];
        named = hints ∙ w.named ∙ ap reverse (sym (reasons_here (met seen) None (ap (λ o. cond (met seen (var_of e.literal)) o None) r ∙ none (met seen (var_of e.literal)))));
        negated = subst (AreNegated es first) (sym lits) (λ l c. elim (Contains-push_cases lemma.lits.items x l c) [
          | inl t ↦ w.negated l t
          | inr q ↦ inr (e, subst (Contains es) (sym at) (Contains-get_or es i e below), sym (negation-negation e.literal) ∙ ap negation q, r)
        ]);
        kept = λ l c. more l (w.kept l c);
        level = level ∙ w.level;
      }
    where
      more : (l : Literal) → Contains lemma.lits.items l → Contains after.lits.items l
      more l c = subst (λ xs. Contains xs l) (sym lits) (Contains-append_left lemma.lits.items (negation e.literal ∷ []) l c)

      none : (b : Bool) → ◌≡◌ {A = Option ℕ} (cond b None None) None
      none true = refl
      none false = refl

  -- an entry that is resolved, by whose reason more was met
  pub traces_resolved : (old new : List Bool) (lemma after : Lemma) (n : ℕ) → met old (var_of e.literal) ≡ true → e.reason ≡ Some n → HasMet (take i es) old new → IsResolved live (take i es) (met new) e
      → after.lits.items ≡ lemma.lits.items → after.hints.items ≡ lemma.hints.items ++ n ∷ [] → after.level ≡ lemma.level
      → IsTracing live es first (i + 1) old lemma → IsTracing live es first i new after
  traces_resolved old new lemma after n seen r more settled lits hints level w = record {
    traced = subst (AreTraced live es i (met new)) (sym lits) (traces live es apart i old new lemma.lits.items e more at w.traced settled);
    named =
        hints
        ∙ ap (λ ns. ns ++ n ∷ []) (w.named ∙ ap reverse (reasons_same (met old) (met new) rest agree))
        ∙ sym (reverse-append (n ∷ []) (filter_map (reason_of (met new)) rest))
        ∙ ap reverse (sym (reasons_here (met new) (Some n) (ap (λ b. cond b e.reason None) (more.grows (var_of e.literal) seen) ∙ r)));
    negated = subst (AreNegated es first) (sym lits) w.negated;
    kept = λ l c. subst (λ xs. Contains xs l) (sym lits) (w.kept l c);
    level = level ∙ w.level;
  }
    where
      both : (a b : Bool) → (a ≡ true → b ≡ true) → (b ≡ true → a ≡ true) → a ≡ b
      both true b h k = sym (h refl)
      both false true h k = k refl
      both false false h k = refl

      agree : (x : Assigned) → Contains rest x → met old (var_of x.literal) ≡ met new (var_of x.literal)
      agree x c =
          let p = place_behind es (i + 1) x c in
          both (met old (var_of x.literal)) (met new (var_of x.literal)) (more.grows (var_of x.literal)) (λ t.
          subst (λ (y : Assigned). met old (var_of y.literal) ≡ true) p.3
          (was_met live es apart i old new more p.0 x (let l = p.1 in omega (arith, l)) p.2 (subst (λ (y : Assigned). met new (var_of y.literal) ≡ true) (sym p.3) t)))
