-- How often a walk has met each variable.
use Rattle.std.proofs.Common.{◌≡◌, ℕ, zero, suc, ◌+◌, ◌-◌, ◌<◌, ◌≤◌, ◌⊎◌, inl, inr, cond, eqb, ltb, ◌||◌, zero-add, List, [], ◌∷◌, ◌++◌, length, get_or, map, reverse, refl, ap, sym, ◌∙◌, subst, arith, append_assoc, Some}
use Rattle.std.specs.List.{Contains, count_by}
use Rattle.std.proofs.lemmas.Bool.{cases_eq, eq-eqb, ne_eqb, lt-ltb, ltb-true}
use Rattle.std.proofs.lemmas.List.{append-nil, get_or_default, map-append, reverse-append, reverse-reverse}
use Rattle.std.proofs.lemmas.List.Elements.{All-contains, All-nil, All-push, Contains-get_or}
use Rattle.std.proofs.lemmas.List.Sums.{sum_by_push}
use Rattle.dimacs.specs.logic.ClauseMap.{Live}
use Rattle.dimacs.specs.logic.Literal.{Clause}
use Rattle.watches.specs.Trails.{TrailValue, IsTrailValue, present}
use Rattle.watches.specs.declared.trail.Assigned.{Assigned}
use Rattle.watches.proofs.LevelLemmas.{le_present}
use Rattle.conflict_analysis.specs.Lemmas.{IsReason, IsTally, occurrences_in, occurrences}
use Rattle.conflict_analysis.specs.declared.first_uip.TrailWalk.{TrailWalk}
use Rattle.conflict_analysis.specs.inner.Seen.{met}
use Rattle.conflict_analysis.specs.inner.Tallies.{HasNoted, IsFresh, IsTallied, again_of}
use Rattle.conflict_analysis.specs.inner.TrailWalk.{AreListed}

often_push : (v : ℕ) (cs : List (ℕ × Clause)) (c : ℕ × Clause) → occurrences_in v (cs ++ c ∷ []) ≡ occurrences_in v cs + occurrences v c.1
often_push v cs c = sum_by_push (λ (c : ℕ × Clause). occurrences v c.1) cs c

often_one : (v number : ℕ) (C : Clause) → occurrences_in v ((number, C) ∷ []) ≡ occurrences v C
often_one v number C = often_push v [] (number, C) ∙ zero-add (occurrences v C)

-- what was met is met again wherever a clause of the present level has it
again_more : (m n x y : ℕ) → x ≡ m - 1 → y ≡ x + again_of (ltb 0 m) n → y ≡ m + n - 1
again_more zero n x y h k = omega (arith, h, k)
again_more (suc m) n x y h k = let s = lt-ltb 0 (suc m) (omega arith) in let j : y ≡ x + n = k ∙ ap (λ b. x + again_of b n) s in omega (arith, h, j)

seen_more : (m n : ℕ) → (ltb 0 m || ltb 0 n) ≡ ltb 0 (m + n)
seen_more zero n = ap (ltb 0) (sym (zero-add n))
seen_more (suc m) n = rw (lt-ltb 0 (suc m) (omega arith), lt-ltb 0 (suc m + n) (omega arith)) refl

-- the false clause was met
pub tally_begins : (live : Live) (t : TrailValue) (number : ℕ) (v w : TrailWalk) (C : Clause) → IsFresh v → live number C → HasNoted v w C → IsTallied live t number (length t.entries) w []
tally_begins live t number v w C f lives h = record {
  conflict = C;
  here = [];
  lower = [];
  lives = lives;
  of_present = All-nil (IsReason live t.entries (λ level. level ≡ present t.entries));
  of_lower = All-nil (IsReason live t.entries (λ level. level < present t.entries));
  named = refl;
  seen = λ u. h.seen u ∙ ap (λ b. b || ltb 0 (occurrences u C)) (f.none u) ∙ ap (ltb 0) (sym (often_one u number C));
  again = λ u. again u ∙ ap (λ n. n - 1) (sym (often_one u number C));
  phase = inl refl;
}
  where
    again : (u : ℕ) → count_by (eqb u) w.again.items ≡ occurrences u C - 1
    again u =
        let a = h.again u in
        let none : count_by (eqb u) v.again.items ≡ 0 = ap (count_by (eqb u)) f.again in
        let more : cond v.notes (again_of (met v.seen u) (occurrences u C)) 0 ≡ occurrences u C - 1 = rw (f.notes, f.none u) refl in
        omega (arith, a, none, more)

module _ (live : Live) (t : TrailValue) (number i : ℕ) (w p : TrailWalk) (hints : List ℕ) (tally : IsTallied live t number (i + 1) w hints)
    (same : p.seen ≡ w.seen) (again : p.again ≡ w.again) where
  abbrev es : List Assigned
  es = t.entries

  phase_on : (tally.lower ≡ []) ⊎ ((k : ℕ) (d : Assigned) → k < i → (get_or es k d).level < present es)
  phase_on = elim tally.phase [ inl q ↦ inl q | inr f ↦ inr (λ k d l. f k d (omega (arith, l))) ]

  -- an entry that is not resolved
  pub tally_passes : IsTallied live t number i p hints
  tally_passes = record {
    conflict = tally.conflict;
    here = tally.here;
    lower = tally.lower;
    lives = tally.lives;
    of_present = tally.of_present;
    of_lower = tally.of_lower;
    named = tally.named;
    seen = λ v. ap (λ s. met s v) same ∙ tally.seen v;
    again = λ v. subst (λ vs. count_by (eqb v) vs.items ≡ occurrences_in v ((number, tally.conflict) ∷ tally.here) - 1) (sym again) (tally.again v);
    phase = phase_on;
  }

  module _ (valid : IsTrailValue t) (d : Assigned) (below : i < length es) (n : ℕ) (C : Clause) (lives : live n C) (reason : (get_or es i d).reason ≡ Some n)
      (q : TrailWalk) (notes : p.notes ≡ eqb (get_or es i d).level (present es)) (noted : HasNoted p q C) where
    abbrev e : Assigned
    e = get_or es i d

    abbrev conflict : ℕ × Clause
    conflict = (number, tally.conflict)

    entry_in : Contains es e
    entry_in = Contains-get_or es i d below

    seen_now : (v : ℕ) → met q.seen v ≡ ltb 0 (occurrences_in v (conflict ∷ tally.here ++ tally.lower) + occurrences v C)
    seen_now v = noted.seen v ∙ ap (λ b. b || ltb 0 (occurrences v C)) (ap (λ s. met s v) same ∙ tally.seen v) ∙ seen_more (occurrences_in v (conflict ∷ tally.here ++ tally.lower)) (occurrences v C)

    was : (v : ℕ) → count_by (eqb v) p.again.items ≡ occurrences_in v (conflict ∷ tally.here) - 1
    was v = subst (λ vs. count_by (eqb v) vs.items ≡ occurrences_in v (conflict ∷ tally.here) - 1) (sym again) (tally.again v)

    -- of the present level
    here : e.level ≡ present es → IsTallied live t number i q (hints ++ n ∷ [])
    here at = record {
      conflict = tally.conflict;
      here = tally.here ++ (n, C) ∷ [];
      lower = [];
      lives = tally.lives;
      of_present = All-push (IsReason live es (λ level. level ≡ present es)) tally.here (n, C) tally.of_present (lives, (e, entry_in, reason, at));
      of_lower = All-nil (IsReason live es (λ level. level < present es));
      named = rw (append-nil (tally.here ++ (n, C) ∷ []), map-append (λ (c : ℕ × Clause). c.0) tally.here ((n, C) ∷ [])) (ap (λ xs. xs ++ n ∷ []) (tally.named ∙ ap (map (λ (c : ℕ × Clause). c.0)) none));
      seen = λ v. seen_now v ∙ ap (ltb 0) (ap (λ cs. occurrences_in v (conflict ∷ cs) + occurrences v C) none ∙ sym (often_push v (conflict ∷ tally.here) (n, C)) ∙ ap (λ cs. occurrences_in v (conflict ∷ cs)) (sym (append-nil (tally.here ++ (n, C) ∷ []))));
      again = λ v. rw (often_push v (conflict ∷ tally.here) (n, C)) (again_more (occurrences_in v (conflict ∷ tally.here)) (occurrences v C) _ _ (was v) (more v));
      phase = inl refl;
    }
      where
        first : tally.lower ≡ []
        first = elim tally.phase [ inl z ↦ z | inr f ↦ let l = f i d (omega arith) in absurd (omega (arith, l, at)) ]

        none : tally.here ++ tally.lower ≡ tally.here
        none = ap (λ xs. tally.here ++ xs) first ∙ append-nil tally.here

        more : (v : ℕ) → count_by (eqb v) q.again.items ≡ count_by (eqb v) p.again.items + again_of (ltb 0 (occurrences_in v (conflict ∷ tally.here))) (occurrences v C)
        more v = noted.again v ∙ rw (notes, eq-eqb e.level (present es) at, ap (λ s. met s v) same, tally.seen v, none) refl

    -- of a lower one
    lower : (e.level ≡ present es → ⊥) → IsTallied live t number i q (hints ++ n ∷ [])
    lower at = record {
      conflict = tally.conflict;
      here = tally.here;
      lower = tally.lower ++ (n, C) ∷ [];
      lives = tally.lives;
      of_present = tally.of_present;
      of_lower = All-push (IsReason live es (λ level. level < present es)) tally.lower (n, C) tally.of_lower (lives, (e, entry_in, reason, before));
      named = rw (sym (append_assoc tally.here tally.lower ((n, C) ∷ [])), map-append (λ (c : ℕ × Clause). c.0) (tally.here ++ tally.lower) ((n, C) ∷ [])) (ap (λ xs. xs ++ n ∷ []) tally.named);
      seen = λ v. seen_now v ∙ ap (ltb 0) (sym (often_push v (conflict ∷ tally.here ++ tally.lower) (n, C)) ∙ ap (λ cs. occurrences_in v (conflict ∷ cs)) (append_assoc tally.here tally.lower ((n, C) ∷ [])));
      again = λ v. noted.again v ∙ rw (notes, ne_eqb e.level (present es) at) (let x = was v in omega (arith, x));
      phase = inr (λ k f l. let r = valid.rising k i d (omega (arith, l)) below in let s = rising_default k f l in omega (arith, before, r, s));
    }
      where
        before : e.level < present es
        before = let l = All-contains (λ x. x.level ≤ present es) es e (le_present es) entry_in in omega (arith, l, at)

        rising_default : (k : ℕ) (f : Assigned) → k < i → (get_or es k f).level ≡ (get_or es k d).level
        rising_default k f l = ap (λ (x : Assigned). x.level) (get_or_default es k f d (omega (arith, l, below)))

    pub tally_resolves : IsTallied live t number i q (hints ++ n ∷ [])
    tally_resolves = elim (cases_eq e.level (present es)) [ inl at ↦ here at | inr at ↦ lower at ]

-- further down, past entries that were not met
pub tally_skips : (live : Live) (t : TrailValue) (number i j : ℕ) (w : TrailWalk) (hints : List ℕ) → j ≤ i → IsTallied live t number i w hints → IsTallied live t number j w hints
tally_skips live t number i j w hints le tally = record {
  conflict = tally.conflict;
  here = tally.here;
  lower = tally.lower;
  lives = tally.lives;
  of_present = tally.of_present;
  of_lower = tally.of_lower;
  named = tally.named;
  seen = tally.seen;
  again = tally.again;
  phase = elim tally.phase [ inl q ↦ inl q | inr f ↦ inr (λ k d l. f k d (omega (arith, l, le))) ];
}

-- the lemma that ends the walk
pub tally_ends : (live : Live) (t : TrailValue) (number place : ℕ) (w : TrailWalk) (hints after : List ℕ) → IsTallied live t number place w hints → AreListed t.vars (met w.seen) w.met.items
    → after ≡ reverse hints ++ number ∷ [] → IsTally live t number after (record { once = w.met.items; again = w.again.items })
tally_ends live t number place w hints after tally listed is = record {
  conflict = tally.conflict;
  here = tally.here;
  lower = tally.lower;
  lives = tally.lives;
  of_present = tally.of_present;
  of_lower = tally.of_lower;
  named = ap reverse is ∙ reverse-append (reverse hints) (number ∷ []) ∙ ap (λ ns. number ∷ ns) (reverse-reverse hints ∙ tally.named);
  were = λ v c. ltb-true 0 (occurrences_in v ((number, tally.conflict) ∷ tally.here ++ tally.lower)) (sym (tally.seen v) ∙ listed.were v c);
  all = λ v l. listed.all v (tally.seen v ∙ lt-ltb 0 (occurrences_in v ((number, tally.conflict) ∷ tally.here ++ tally.lower)) l);
  again = tally.again;
}
