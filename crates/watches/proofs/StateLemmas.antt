-- The invariant of watch lists is kept by a push, a backtrack, and an entry that was propagated.
use Rattle.std.proofs.Common.{◌≡◌, ◌≢◌, ℕ, ◌+◌, ◌*◌, ◌-◌, ◌/◌, ◌%◌, ◌<◌, ◌≤◌, inl, inr, true, List, ◌++◌, length, get_or, Some, None, ap, sym, ◌∙◌, subst, arith, Contains, All}
use Rattle.std.specs.FinMap.{get}
use Rattle.std.proofs.lemmas.Bool.{cases_eq, cases_lt, false≢true}
use Rattle.std.proofs.lemmas.List.{get_or-map, length-map}
use Rattle.dimacs.specs.logic.Literal.{Literal, Clause, IsWithin, negation, index_of}
use Rattle.dimacs.proofs.LiteralLemmas.{negation-negation, same_or_not}
use Rattle.clause_arena.specs.declared.reference.Ref.{Ref}
use Rattle.clause_arena.specs.Clauses.{Clauses, RefersTo, live_of}
use Rattle.watches.specs.declared.trail.Assigned.{Assigned}
use Rattle.watches.specs.Trails.{TrailValue, holds, up_to}
use Rattle.watches.specs.Law.{NeitherFalseNorUnit, IsFixpoint, live_among}
use Rattle.watches.specs.ClauseNumbers.{numbers}
use Rattle.watches.specs.inner.LiveClauses.{IsLiveWithin}
use Rattle.watches.proofs.ScanLemmas.{same_clause}
use Rattle.watches.proofs.TrailLemmas.{holds_at}
use Rattle.watches.specs.inner.WatchLists.{literal_at, twin, IsIn}
use Rattle.watches.specs.inner.WatchInvariants.{owner, no_clause, past_head, IsGuarded, IsLong, IsWatching}
use Rattle.watches.proofs.GuardLemmas.{up_to_holds, up_to_kept, guarded_cut}
use Rattle.watches.proofs.TwinLemmas.{twins_of, owner_twin, long_twin, parity}
use Rattle.watches.specs.inner.ListWalk.{IsConsistent, IsSatisfied}
use Rattle.watches.specs.Watches.{Watches}

module _ (W : Watches) (m : Clauses) (t : TrailValue) (paths : ℕ → List ℕ) (w : IsWatching W m t paths) where
  -- literals above a level were taken out
  pub cut : (u : TrailValue) (gone : List Assigned) (level now : ℕ) → u.vars ≡ t.vars → t.entries ≡ u.entries ++ gone
      → All (λ e. e.level ≤ level) u.entries → All (λ e. level < e.level) gone → now ≤ W.head → now ≤ length u.entries
      → IsWatching (record W { head = now }) m u paths
  cut u gone level now v e a c l n = record {
    lists = w.lists;
    wide = omega (arith, w.wide);
    even = w.even;
    low = w.low;
    paired = w.paired;
    partly = w.partly;
    named = w.named;
    here = subst (λ n. All (IsLiveWithin m n) W.clauses) (sym v) w.here;
    front = w.front;
    apart = w.apart;
    home = λ l p b h. w.home l p (subst (λ n. IsWithin n l) v b) h;
    kept = λ p h. elim (w.kept p h) [
      | inl i ↦ inl i
      | inr i ↦ inr (
        i.0,
        guarded_cut u.entries gone W.head now level (literal_at W.places p) (literal_at W.places (twin p)) a c l n
            (subst (λ es. IsGuarded es W.head (literal_at W.places p) (literal_at W.places (twin p))) e i.1),
      )
    ];
    short = λ i b s. elim (w.short i b s) [
      | inl h ↦ inl h
      | inr h ↦ inr (λ C st. let g = h C st in (g.0, g.1, up_to_kept u.entries gone level 0 g.0 (omega arith) c (subst (λ es. up_to es 0 g.0 ≡ true) e g.2)))
    ];
    handled = n;
  }

  -- an entry was handled: each place in the chain of the literal that it makes false is guarded
  pub advance : (f : Literal) (level : ℕ) → ((d : Assigned) → (get_or t.entries W.head d).literal ≡ negation f) → ((d : Assigned) → (get_or t.entries W.head d).level ≡ level) → W.head < length t.entries
      → ((p : ℕ) → IsIn p (paths (index_of f)) → up_to t.entries level (literal_at W.places (twin p)) ≡ true)
      → IsWatching (past_head W) m t paths
  advance f level is at l g = record {
    lists = w.lists;
    wide = w.wide;
    even = w.even;
    low = w.low;
    paired = w.paired;
    partly = w.partly;
    named = w.named;
    here = w.here;
    front = w.front;
    apart = w.apart;
    home = w.home;
    short = w.short;
    handled = omega arith;
    kept = λ p h. elim (w.kept p h) [
      | inl i ↦ inl i
      | inr i ↦ inr (
        i.0,
        λ j d b e. elim (cases_eq j W.head) [
          | inl q ↦
              let neg : negation f ≡ negation (literal_at W.places p) = sym (is d) ∙ ap (λ z. (get_or t.entries z d).literal) (sym q) ∙ e in
              let same_f : f ≡ literal_at W.places p = sym (negation-negation f) ∙ ap negation neg ∙ negation-negation (literal_at W.places p) in
              subst (λ n. up_to t.entries n (literal_at W.places (twin p)) ≡ true) (sym (ap (λ z. (get_or t.entries z d).level) q ∙ at d))
              (g p (subst (λ z. IsIn p (paths (index_of z))) (sym same_f) i.0))
          | inr n ↦ i.1 j d (omega arith) e
        ],
      )
    ];
  }

-- ---- nothing more follows
module _ (es : List Assigned) (sound : IsConsistent es) (C : Clause) where
  pub calm_true : (b : Literal) → Contains C b → holds es b ≡ true → NeitherFalseNorUnit (holds es) C
  calm_true b i h = (
    λ f. sound b h (f b i),
    λ l u. elim (same_or_not b l) [
      | inl e ↦ false≢true (sym u.not_true ∙ ap (holds es) (sym e) ∙ h)
      | inr n ↦ sound b h (u.others b i n)
    ],
  )

  pub calm_two : (v b : Literal) → Contains C v → Contains C b → v ≢ b → (holds es (negation v) ≡ true → holds es b ≡ true) → (holds es (negation b) ≡ true → holds es v ≡ true) → NeitherFalseNorUnit (holds es) C
  calm_two v b i j d g h = (
    λ f. sound b (g (f v i)) (f b j),
    λ l u. elim (same_or_not v l) [
      | inl e ↦ false≢true (sym u.not_true ∙ ap (holds es) (sym e) ∙ h (u.others b j (λ q. d (e ∙ sym q))))
      | inr n ↦
          let true_b = g (u.others v i n) in
          elim (same_or_not b l) [
            | inl e ↦ false≢true (sym u.not_true ∙ ap (holds es) (sym e) ∙ true_b)
            | inr k ↦ sound b true_b (u.others b j k)
          ]
    ],
  )

  pub guards : (head : ℕ) (v b : Literal) → length es ≤ head → IsGuarded es head v b → holds es (negation v) ≡ true → holds es b ≡ true
  guards head v b l g h =
      let a = holds_at es (negation v) h in
      let d : Assigned = record { literal = v; level = 0; reason = None } in
      up_to_holds es (get_or es a.0 d).level b (g a.0 d (omega (arith, a.1)) (a.2 d))

contains_at : (C : Clause) (i : ℕ) (l : Literal) → i < length C → ((d : Literal) → l ≡ get_or C i d) → Contains C l
contains_at C i l b e = (i, b, sym (e l))

module _ (W : Watches) (m : Clauses) (t : TrailValue) (paths : ℕ → List ℕ) (w : IsWatching W m t paths)
    (sound : IsConsistent t.entries) (done : length t.entries ≤ W.head) (all : length W.places ≡ W.base + 2 * length W.clauses)
    (seen : (p : ℕ) → IsIn p (paths 0) → IsSatisfied m t.entries (owner W p)) where
  calm_short : (i : ℕ) (C : Clause) → i < length W.clauses → (get_or W.clauses i no_clause).len < 2 → RefersTo m (get_or W.clauses i no_clause) C → NeitherFalseNorUnit (holds t.entries) C
  calm_short i C l s st = elim (w.short i (omega arith) s) [
    | inl h ↦
        let half : (W.base + 2 * i - W.base) / 2 ≡ i = omega arith in
        let own : owner W (W.base + 2 * i) ≡ get_or W.clauses i no_clause = ap (λ j. get_or W.clauses j no_clause) half in
        let b = seen (W.base + 2 * i) h C (subst (λ a. RefersTo m a C) (sym own) st) in
        calm_true t.entries sound C b.0 b.1 b.2
    | inr h ↦ let b = h C st in calm_true t.entries sound C b.0 b.1 (up_to_holds t.entries 0 b.0 b.2)
  ]

  abbrev Guards : ℕ → Type 0
  Guards p = holds t.entries (negation (literal_at W.places p)) ≡ true → holds t.entries (literal_at W.places (twin p)) ≡ true

  calm_long : (p : ℕ) (C : Clause) → IsLong W p → RefersTo m (owner W p) C → NeitherFalseNorUnit (holds t.entries) C
  calm_long p C h st =
      let tw = twins_of p in
      let g = long_twin W p w.even w.paired h in
      let st' : RefersTo m (owner W (twin p)) C = subst (λ a. RefersTo m a C) (sym (owner_twin W p w.even)) st in
      let two : 2 ≤ length C = omega (arith, h.2, st.1) in
      let half : (n : ℕ) → n % 2 < 2 = λ n. elim (parity n) [ inl e ↦ omega arith | inr e ↦ omega arith ] in
      elim (w.kept p h) [
        | inl i ↦ let b = seen p i C st in calm_true t.entries sound C b.0 b.1 b.2
        | inr i ↦ elim (w.kept (twin p) g) [
          | inl j ↦ let b = seen (twin p) j C st' in calm_true t.entries sound C b.0 b.1 b.2
          | inr j ↦ calm_two t.entries sound C (literal_at W.places p) (literal_at W.places (twin p))
              (contains_at C (p % 2) (literal_at W.places p) (let a = half p in omega arith) (λ d. w.front p C d h st))
              (contains_at C (twin p % 2) (literal_at W.places (twin p)) (let a = half (twin p) in omega arith) (λ d. w.front (twin p) C d g st'))
              (w.apart p h)
              (guards t.entries sound C W.head (literal_at W.places p) (literal_at W.places (twin p)) done i.1)
              (λ e. ap (λ q. holds t.entries (literal_at W.places q)) (sym tw.back) ∙ guards t.entries sound C W.head (literal_at W.places (twin p)) (literal_at W.places (twin (twin p))) done j.1 e)
        ]
      ]

  pub quiet : IsFixpoint (live_among (numbers W.clauses) (live_of m)) t.entries
  quiet n C h =
      let i = h.0 in
      let l : i.0 < length W.clauses = omega (arith, i.1, length-map W.clauses (λ (x : Ref). x.number)) in
      let e : (get_or W.clauses i.0 no_clause).number ≡ n = sym (get_or-map (λ (x : Ref). x.number) W.clauses i.0 no_clause n l) ∙ i.2 in
      let s = w.here i.0 no_clause l in
      let same_C : s.0 ≡ C = same_clause m n _ h.1.0 s.0 C (subst (λ x. get m x ≡ Some ((get_or W.clauses i.0 no_clause).place, s.0)) e s.1.0) h.1.1 in
      let st : RefersTo m (get_or W.clauses i.0 no_clause) C = subst (RefersTo m (get_or W.clauses i.0 no_clause)) same_C s.1 in
      let half : (W.base + 2 * i.0 - W.base) / 2 ≡ i.0 = omega arith in
      let own : owner W (W.base + 2 * i.0) ≡ get_or W.clauses i.0 no_clause = ap (λ j. get_or W.clauses j no_clause) half in
      elim (cases_lt (get_or W.clauses i.0 no_clause).len 2) [
        | inl b ↦ calm_short i.0 C l b st
        | inr b ↦ calm_long (W.base + 2 * i.0) C (omega arith, omega arith, subst (λ (a : Ref). 2 ≤ a.len) (sym own) b) (subst (λ a. RefersTo m a C) (sym own) st)
      ]
