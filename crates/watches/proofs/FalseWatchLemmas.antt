-- A watch whose literal is false, of a clause of two or more literals.
use Rattle.std.proofs.Common.{◌≡◌, ℕ, ◌-◌, ◌/◌, ◌%◌, ◌<◌, ◌≤◌, ◌⊎◌, inl, inr, true, false, List, length, get_or, Some, None, refl, ap, sym, ◌∙◌, subst, arith, Contains, All}
use Rattle.std.proofs.lemmas.Bool.{cases_eq, cases_lt}
use Rattle.dimacs.specs.logic.Literal.{Literal, Clause, Pos, IsWithin, negation}
use Rattle.dimacs.specs.logic.Propagation.{IsFalse, IsUnit}
use Rattle.clause_arena.specs.declared.reference.Ref.{Ref}
use Rattle.clause_arena.specs.Clauses.{Clauses, RefersTo, live_of}
use Rattle.watches.specs.Trails.{TrailValue, holds, present}
use Rattle.watches.specs.Law.{IsImplied, IsConflict, live_among}
use Rattle.watches.specs.ClauseNumbers.{numbers}
use Rattle.watches.specs.inner.LiveClauses.{IsLiveWithin}
use Rattle.watches.specs.inner.ScanLaws.{has_number}
use Rattle.watches.specs.inner.WatchLists.{literal_at, twin}
use Rattle.watches.specs.inner.WatchInvariants.{owner, no_clause, FindsWatch, IsLong, IsWatching}
use Rattle.watches.specs.inner.ListWalk.{IsSatisfied}
use Rattle.watches.proofs.TwinLemmas.{twins_of, owner_twin, long_twin, parity}
use Rattle.watches.specs.Watches.{Watches}

module _ (W : Watches) (m : Clauses) (t : TrailValue) (paths : ℕ → List ℕ) (w : IsWatching W m t paths)
    (here : ℕ) (here_long : IsLong W here) (f : Literal) (here_lit : literal_at W.places here ≡ f) (f_false : holds t.entries (negation f) ≡ true) where
  pub owner_in : (here - W.base) / 2 < length W.clauses
  owner_in = let a = here_long.0 in let b = here_long.1 in let c = w.partly in let d = w.even in let e = w.paired in omega arith

  pub standing : IsLiveWithin m t.vars (owner W here)
  standing = w.here ((here - W.base) / 2) no_clause owner_in

  pub lives : (C : Clause) → RefersTo m (owner W here) C → live_among (numbers W.clauses) (live_of m) (owner W here).number C
  lives C st = (has_number W.clauses ((here - W.base) / 2) no_clause owner_in, ((owner W here).place, st.0))

  pub twin_in : IsLong W (twin here)
  twin_in = long_twin W here w.even w.paired here_long

  pub two : (C : Clause) → RefersTo m (owner W here) C → 2 ≤ length C
  two C st = omega (arith, here_long.2, st.1)

  pub side : (p : ℕ) → p % 2 < 2
  side p = elim (parity p) [ inl e ↦ omega arith | inr e ↦ omega arith ]

  pub lit_here : (C : Clause) (d : Literal) → RefersTo m (owner W here) C → f ≡ get_or C (here % 2) d
  lit_here C d st = sym here_lit ∙ w.front here C d here_long st

  pub lit_twin : (C : Clause) (d : Literal) → RefersTo m (owner W here) C → literal_at W.places (twin here) ≡ get_or C (twin here % 2) d
  lit_twin C d st = w.front (twin here) C d twin_in (subst (λ a. RefersTo m a C) (sym (owner_twin W here w.even)) st)

  pub other_in : IsWithin t.vars (literal_at W.places (twin here))
  other_in =
      let s = standing in
      let z = side (twin here) in
      let l : twin here % 2 < length s.0 = omega (arith, two s.0 s.1) in
      subst (IsWithin t.vars) (sym (lit_twin s.0 (Pos 0) s.1)) (s.2 (twin here % 2) (Pos 0) l)

  -- a literal of the clause is one of the first two or after them
  which : (C : Clause) (l : Literal) → RefersTo m (owner W here) C → Contains C l → ((l ≡ f) ⊎ (l ≡ literal_at W.places (twin here))) ⊎ ((k : ℕ) × (2 ≤ k) × (k < length C) × (get_or C k l ≡ l))
  which C l st i =
      let tw = (twins_of here).sides in
      let a = side here in let b = side (twin here) in
      elim (cases_lt i.0 2) [
        | inl s ↦ elim (cases_eq i.0 (here % 2)) [
          | inl e ↦ inl (inl (sym i.2 ∙ ap (λ k. get_or C k l) e ∙ sym (lit_here C l st)))
          | inr n ↦ let e : i.0 ≡ twin here % 2 = omega arith in inl (inr (sym i.2 ∙ ap (λ k. get_or C k l) e ∙ sym (lit_twin C l st)))
        ]
        | inr s ↦ inr (i.0, s, i.1, i.2)
      ]

  -- no literal after the first two is free or true
  pub is_false : (C : Clause) → RefersTo m (owner W here) C → ((k : ℕ) (d : Literal) → 2 ≤ k → k < length C → holds t.entries (negation (get_or C k d)) ≡ true)
      → holds t.entries (negation (literal_at W.places (twin here))) ≡ true → IsFalse (holds t.entries) C
  is_false C st h o l i = elim (which C l st i) [
    | inl b ↦ elim b [ inl e ↦ ap (λ x. holds t.entries (negation x)) e ∙ f_false | inr e ↦ ap (λ x. holds t.entries (negation x)) e ∙ o ]
    | inr k ↦ ap (λ x. holds t.entries (negation x)) (sym k.3) ∙ h k.0 l k.1 k.2
  ]

  pub is_unit : (C : Clause) → RefersTo m (owner W here) C → ((k : ℕ) (d : Literal) → 2 ≤ k → k < length C → holds t.entries (negation (get_or C k d)) ≡ true)
      → holds t.entries (literal_at W.places (twin here)) ≡ false → holds t.entries (negation (literal_at W.places (twin here))) ≡ false → IsUnit (holds t.entries) C (literal_at W.places (twin here))
  is_unit C st h a b = record {
    member = let z = side (twin here) in let l : twin here % 2 < length C = omega (arith, two C st) in (twin here % 2, l, sym (lit_twin C (literal_at W.places (twin here)) st));
    not_true = a;
    not_false = b;
    others = λ l i n. elim (which C l st i) [
      | inl c ↦ elim c [ inl e ↦ ap (λ x. holds t.entries (negation x)) e ∙ f_false | inr e ↦ absurd (n e) ]
      | inr k ↦ ap (λ x. holds t.entries (negation x)) (sym k.3) ∙ h k.0 l k.1 k.2
    ];
  }

  -- ---- in the words of the code: `at` is the owner, `ws` its literals
  module _ (at : Ref) (owns : at ≡ owner W here) where
    pub stands_at : RefersTo m at standing.0
    stands_at = subst (λ a. RefersTo m a standing.0) (sym owns) standing.1

    lives_at : live_among (numbers W.clauses) (live_of m) at.number standing.0
    lives_at = subst (λ (a : Ref). live_among (numbers W.clauses) (live_of m) a.number standing.0) (sym owns) (lives standing.0 standing.1)

    module _ (ws : Clause) (reads : (C : Clause) → RefersTo m at C → ws ≡ C) where
      pub ws_is : ws ≡ standing.0
      ws_is = reads standing.0 stands_at

      pub ws_in : All (IsWithin t.vars) ws
      ws_in = subst (All (IsWithin t.vars)) (sym ws_is) standing.2

      pub lens : (here % 2 < at.len) × (length ws ≡ at.len)
      lens = let z = side here in let a = two standing.0 standing.1 in let b = stands_at.1 in (omega arith, ap length ws_is ∙ sym b)

      pub found_in : (k : ℕ) (x : Literal) → FindsWatch t.entries ws (Some (record { place = k; literal = x })) → IsWithin t.vars x
      found_in k x found = subst (IsWithin t.vars) (found.2 x) (ws_in k x found.1)

      module _ (none : FindsWatch t.entries ws None) where
        none_free : (k : ℕ) (d : Literal) → 2 ≤ k → k < length standing.0 → holds t.entries (negation (get_or standing.0 k d)) ≡ true
        none_free = subst (λ C. (k : ℕ) (d : Literal) → 2 ≤ k → k < length C → holds t.entries (negation (get_or C k d)) ≡ true) ws_is none

        pub conflicts : (o : Literal) → o ≡ literal_at W.places (twin here) → holds t.entries (negation o) ≡ true → IsConflict (live_among (numbers W.clauses) (live_of m)) t.entries at.number
        conflicts o e h = (standing.0, lives_at, is_false standing.0 standing.1 none_free (ap (λ l. holds t.entries (negation l)) (sym e) ∙ h))

        pub implies : (o : Literal) (n : ℕ) → o ≡ literal_at W.places (twin here) → holds t.entries o ≡ false → holds t.entries (negation o) ≡ false → n ≡ present t.entries
            → IsImplied (live_among (numbers W.clauses) (live_of m)) t.entries (record { literal = o; level = n; reason = Some at.number })
        implies o n e a b l = record {
          number = at.number;
          clause = standing.0;
          reason = refl;
          lives = lives_at;
          unit = subst (IsUnit (holds t.entries) standing.0) (sym e) (is_unit standing.0 standing.1 none_free (ap (holds t.entries) (sym e) ∙ a) (ap (λ l. holds t.entries (negation l)) (sym e) ∙ b));
          level = l;
        }

  -- where the other watch is true the clause is satisfied, by any trail
  pub satisfied : (u : TrailValue) → holds u.entries (literal_at W.places (twin here)) ≡ true → IsSatisfied m u.entries (owner W here)
  satisfied u h C st =
      let z = side (twin here) in
      let l : twin here % 2 < length C = omega (arith, two C st) in
      (literal_at W.places (twin here), (twin here % 2, l, sym (lit_twin C (literal_at W.places (twin here)) st)), h)
