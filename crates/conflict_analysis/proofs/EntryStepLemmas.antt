-- The invariants of walk and lemma are kept when the walk steps past an entry.
use Rattle.std.proofs.Common.{◌≡◌, ℕ, ◌+◌, ◌<◌, ◌⊎◌, true, false, List, [], ◌∷◌, ◌++◌, length, get_or, take, sym, subst, arith, Some, None}
use Rattle.std.specs.Prelude.{max}
use Rattle.clause_arena.specs.Clauses.{Clauses, live_of}
use Rattle.dimacs.specs.logic.Literal.{Clause, negation, var_of}
use Rattle.watches.specs.Law.{IsImplied}
use Rattle.watches.specs.Trails.{TrailValue, present}
use Rattle.watches.specs.declared.trail.Assigned.{Assigned}
use Rattle.conflict_analysis.specs.declared.lemma.Lemma.{Lemma}
use Rattle.conflict_analysis.specs.declared.first_uip.TrailWalk.{TrailWalk}
use Rattle.conflict_analysis.specs.BuiltTrails.{AreBuilt}
use Rattle.conflict_analysis.specs.inner.Seen.{met}
use Rattle.conflict_analysis.specs.inner.TrailWalk.{is_present, AreCounted, AreKnown, AreMet, AreWalked, HasMet, IsLevelled, IsUnderWay, IsWalk}
use Rattle.conflict_analysis.proofs.BuiltTrailLemmas.{implied_by}
use Rattle.conflict_analysis.proofs.EntryLemmas.{waiting_more}
use Rattle.conflict_analysis.proofs.ResolvedEntryLemmas.{was_met, settled_implied}
use Rattle.conflict_analysis.proofs.WalkLemmas.{implied_at, known_at, skips, keeps, resolves, levels_met, levels_kept}

module _ (m : Clauses) (t : TrailValue) (i : ℕ) (below : i < length t.entries) (built : AreBuilt (live_of m) [] t.entries) (d : Assigned)
    (w p : TrailWalk) (lemma : Lemma) (way : IsUnderWay (live_of m) t (i + 1) w lemma) (passed : IsWalk t (take i t.entries) p) (same : p.seen ≡ w.seen)
    (lower : ((get_or t.entries i d).level ≡ present t.entries → ⊥) → p.pending ≡ w.pending) where
  abbrev es : List Assigned
  es = t.entries

  abbrev e : Assigned
  e = get_or t.entries i d

  left : AreCounted es (take i es) (met w.seen) p.pending p.rest
  left = subst (λ s. AreCounted es (take i es) (met s) p.pending p.rest) same passed.counted

  -- it was not met
  pub past_unmet : met w.seen (var_of e.literal) ≡ false → p.pending ≡ w.pending → IsUnderWay (live_of m) t i p lemma
  past_unmet new q = record {
    walk = passed;
    walked = subst (λ s. AreWalked (live_of m) es i (met s) lemma.lits.items lemma.hints.items) (sym same)
        (skips (live_of m) es passed.valid.apart i below d (met w.seen) lemma.lits.items lemma.hints.items way.walked new);
    levels = subst (λ n. IsLevelled es n lemma.lits.items lemma.level) (sym q) way.levels;
  }

  -- the literals of its reason can be met
  pub reason_can_be_met : met w.seen (var_of e.literal) ≡ true → (n : ℕ) → e.reason ≡ Some n → (C : Clause) → live_of m n C → AreKnown (take i es) (met p.seen) C
  reason_can_be_met seen n r C h = subst (λ s. AreKnown (take i es) (met s) C) (sym same) (known_at m es built i d n (met w.seen) below seen r C h)

  pub reason_lives : (n : ℕ) → e.reason ≡ Some n → (C : Clause) × live_of m n C
  reason_lives n r = let h = implied_at m es built i d n below r in (h.clause, implied_by (live_of m) (take i es) e n h r)

  -- it is resolved, by whose reason more was met
  pub past_resolved : met w.seen (var_of e.literal) ≡ true → (n : ℕ) → e.reason ≡ Some n → (e.level ≡ present es → 0 < p.pending)
      → (q : TrailWalk) → IsWalk t (take i es) q → HasMet (take i es) p.seen q.seen → ((C : Clause) → live_of m n C → AreMet (met q.seen) C)
      → (after : Lemma) → after.lits.items ≡ lemma.lits.items → after.hints.items ≡ lemma.hints.items ++ n ∷ [] → after.level ≡ lemma.level
      → IsUnderWay (live_of m) t i q after
  past_resolved seen n r some q walk more all after lits hints level = record {
    walk = walk;
    walked = rw (lits, hints) (resolves (live_of m) es passed.valid.apart i below d (met w.seen) (met q.seen) lemma.lits.items lemma.hints.items n
        met_more.grows (was_met (live_of m) es passed.valid.apart i w.seen q.seen met_more) way.walked seen
        (settled_implied (live_of m) (take i es) (met q.seen) e implied (λ k j. all implied.clause (implied_by (live_of m) (take i es) e n implied r) k j)) r);
    levels = rw (lits, level) (levels_met (live_of m) es built passed.valid.rising i below d (met w.seen) w.pending p.pending way.walk.counted.opened left.opened seen lower
        (met q.seen) q.pending lemma.level lemma.lits.items walk.counted.opened
        (let a = waiting_more (take i es) (met w.seen) (met q.seen) (is_present es) met_more.grows in let b = walk.counted.opened in let c = left.opened in omega (arith, a, b, c))
        some way.levels);
  }
    where
      met_more : HasMet (take i es) w.seen q.seen
      met_more = subst (λ s. HasMet (take i es) s q.seen) same more

      implied : IsImplied (live_of m) (take i es) e
      implied = implied_at m es built i d n below r

  -- it is kept
  pub past_kept : met w.seen (var_of e.literal) ≡ true → (e.level ≡ present es → (p.pending ≡ 0) ⊎ (e.reason ≡ None))
      → (after : Lemma) → after.lits.items ≡ lemma.lits.items ++ negation e.literal ∷ [] → after.hints.items ≡ lemma.hints.items
      → (e.level ≡ present es → after.level ≡ lemma.level) → ((e.level ≡ present es → ⊥) → after.level ≡ max lemma.level e.level)
      → IsUnderWay (live_of m) t i p after
  past_kept seen choice after lits hints here others = record {
    walk = passed;
    walked = subst (λ s. AreWalked (live_of m) es i (met s) after.lits.items after.hints.items) (sym same)
        (rw (lits, hints) (keeps (live_of m) es passed.valid.apart i below d (met w.seen) lemma.lits.items lemma.hints.items way.walked));
    levels = rw lits (levels_kept (live_of m) es built passed.valid.rising i below d (met w.seen) w.pending p.pending way.walk.counted.opened left.opened seen lower
        lemma.level after.level lemma.lits.items choice here others way.levels);
  }
