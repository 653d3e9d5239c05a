-- What is known after a scan has tested some of its clauses.
use Rattle.std.proofs.Common.{◌≡◌, ℕ, ◌+◌, ◌<◌, ◌≤◌, inl, inr, List, [], ◌∷◌, ◌++◌, length, get_or, Option, Some, refl, ap, sym, ◌∙◌, subst, arith, length-append, append_assoc}
use Rattle.std.specs.List.{All}
use Rattle.std.specs.FinMap.{get}
use Rattle.std.proofs.lemmas.List.{append-nil, get_or-map, length-map}
use Rattle.std.proofs.lemmas.Bool.{cases_eq}
use Rattle.dimacs.specs.logic.Literal.{Clause}
use Rattle.dimacs.specs.logic.ClauseMap.{Live}
use Rattle.clause_arena.specs.declared.reference.Ref.{Ref}
use Rattle.clause_arena.specs.Clauses.{Clauses, RefersTo, live_of}
use Rattle.watches.specs.declared.trail.Assigned.{Assigned}
use Rattle.watches.specs.Trails.{TrailValue, holds}
use Rattle.watches.specs.Law.{NeitherFalseNorUnit, IsImplied, AreImplied, Grows, IsFixpoint, live_among, SameUpToOrder}
use Rattle.watches.specs.ClauseNumbers.{numbers}
use Rattle.watches.specs.inner.LiveClauses.{IsLiveWithin}
use Rattle.watches.specs.inner.ScanLaws.{has_number}

-- nothing changed
pub SameUpToOrder-refl : (m : Clauses) → SameUpToOrder m m
SameUpToOrder-refl m = record { there = λ n p C h. (C, h, record { len = refl; literals = λ l. (λ x. x, λ x. x) }); none = λ n h. h }

-- a clause that is neither false nor unit
abbrev pub IsCalmAt : Clauses → List Assigned → Ref → Type 0
IsCalmAt m es at = (C : Clause) → RefersTo m at C → NeitherFalseNorUnit (holds es) C

-- the attached clauses of a scan
abbrev pub among : List Ref → Clauses → Live
among clauses m = live_among (numbers clauses) (live_of m)

-- what is known after the first i clauses
pub record Swept (clauses : List Ref) (m : Clauses) (old new : TrailValue) (i : ℕ) : Type 0 where
  pub grows : Grows (among clauses m) old new
  pub quiet : length new.entries ≡ length old.entries → (k : ℕ) (d : Ref) → k < i → IsCalmAt m new.entries (get_or clauses k d)

-- ---- entries that come after
module _ (live : Live) where
  AreImplied-append : (es more rest : List Assigned) → AreImplied live es more → AreImplied live (es ++ more) rest → AreImplied live es (more ++ rest)
  AreImplied-append es [] rest h k = subst (λ xs. AreImplied live xs rest) (append-nil es) k
  AreImplied-append es (x ∷ more) rest h k = (h.0, AreImplied-append (es ++ x ∷ []) more rest h.1 (subst (λ xs. AreImplied live xs rest) (sym (append_assoc es (x ∷ []) more)) k))

  pub Grows-refl : (t : TrailValue) → Grows live t t
  Grows-refl t = record { vars = refl; more = []; entries = sym (append-nil t.entries); implied = tt }

  pub Grows-trans : (t u v : TrailValue) → Grows live t u → Grows live u v → Grows live t v
  Grows-trans t u v h k = record {
    vars = k.vars ∙ h.vars;
    more = h.more ++ k.more;
    entries = k.entries ∙ ap (λ xs. xs ++ k.more) h.entries ∙ append_assoc t.entries h.more k.more;
    implied = AreImplied-append t.entries h.more k.more h.implied (subst (λ xs. AreImplied live xs k.more) h.entries k.implied);
  }

  pub Grows-push : (t u v : TrailValue) (e : Assigned) → Grows live t u → IsImplied live u.entries e → v.vars ≡ u.vars → v.entries ≡ u.entries ++ e ∷ [] → Grows live t v
  Grows-push t u v e h k q r = Grows-trans t u v h (record { vars = q; more = e ∷ []; entries = r; implied = (k, tt) })

  pub Grows-longer : (t u : TrailValue) → Grows live t u → length t.entries ≤ length u.entries
  Grows-longer t u h = omega (arith, ap length h.entries, length-append t.entries h.more)

-- a number has one clause
pub same_clause : (m : Clauses) (n p q : ℕ) (C D : Clause) → get m n ≡ Some (p, C) → get m n ≡ Some (q, D) → C ≡ D
same_clause m n p q C D h k =
    let e : ◌≡◌ {A = Option (ℕ × Clause)} (Some (p, C)) (Some (q, D)) = sym h ∙ k in
    let f : ◌≡◌ {A = ℕ × Clause} (p, C) (q, D) = cc in
    ap (λ (x : ℕ × Clause). x.1) f

-- ---- a sweep
module _ (clauses : List Ref) (m : Clauses) (old : TrailValue) where
  pub swept_none : Swept clauses m old old 0
  swept_none = record { grows = Grows-refl (among clauses m) old; quiet = λ e k d l. absurd (omega arith) }

  pub swept_calm : (t : TrailValue) (i : ℕ) (at : Ref) → Swept clauses m old t i → ((d : Ref) → get_or clauses i d ≡ at) → IsCalmAt m t.entries at → Swept clauses m old t (i + 1)
  swept_calm t i at s e h = record {
    grows = s.grows;
    quiet = λ q k d l. elim (cases_eq k i) [
      | inl x ↦ subst (IsCalmAt m t.entries) (sym (ap (λ j. get_or clauses j d) x ∙ e d)) h
      | inr x ↦ s.quiet q k d (omega arith)
    ];
  }

  pub swept_push : (t u : TrailValue) (i : ℕ) (e : Assigned) → Swept clauses m old t i → IsImplied (among clauses m) t.entries e → u.vars ≡ t.vars → u.entries ≡ t.entries ++ e ∷ [] → Swept clauses m old u (i + 1)
  swept_push t u i e s h q r = record {
    grows = Grows-push (among clauses m) old t u e s.grows h q r;
    quiet = λ l k d b. let g = Grows-longer (among clauses m) old t s.grows in absurd (omega (arith, ap length r, length-append t.entries (e ∷ [])));
  }

  pub swept_all : (t : TrailValue) (v : ℕ) (i : ℕ) → All (IsLiveWithin m v) clauses → Swept clauses m old t i → length clauses ≤ i → length t.entries ≡ length old.entries → IsFixpoint (among clauses m) t.entries
  swept_all t v i a s b q n C w =
      let h = w.0 in
      let l : h.0 < length clauses = omega (arith, h.1, length-map clauses (λ (x : Ref). x.number)) in
      let d : Ref = record { number = n; place = 0; len = 0 } in
      let st = a h.0 d l in
      let e : (get_or clauses h.0 d).number ≡ n = sym (get_or-map (λ (x : Ref). x.number) clauses h.0 d n l) ∙ h.2 in
      let same : st.0 ≡ C = same_clause m n _ w.1.0 st.0 C (subst (λ x. get m x ≡ Some ((get_or clauses h.0 d).place, st.0)) e st.1.0) w.1.1 in
      subst (NeitherFalseNorUnit (holds t.entries)) same (s.quiet q h.0 d (omega arith) st.0 st.1)

-- ---- the clause of a turn
module _ (clauses : List Ref) (m : Clauses) (v i : ℕ) (d : Ref) (all : All (IsLiveWithin m v) clauses) (l : i < length clauses) where
  pub standing : IsLiveWithin m v (get_or clauses i d)
  standing = all i d l

  pub lives : among clauses m (get_or clauses i d).number standing.0
  lives = (has_number clauses i d l, ((get_or clauses i d).place, standing.1.0))

-- what a read beyond the end would give
abbrev pub none : Ref
none = record { number = 0; place = 0; len = 0 }

pub calm : (m : Clauses) (es : List Assigned) (at : Ref) (C : Clause) → RefersTo m at C → NeitherFalseNorUnit (holds es) C → IsCalmAt m es at
calm m es at C h f = λ D k. subst (NeitherFalseNorUnit (holds es)) (same_clause m _ _ _ C D h.0 k.0) f
