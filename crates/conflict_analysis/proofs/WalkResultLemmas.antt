-- The lemma of a walk that has ended.
use Rattle.std.proofs.Common.{◌≡◌, ℕ, ◌<◌, ◌≤◌, [], ◌∷◌, ◌++◌, take, reverse, subst}
use Rattle.std.specs.List.{Contains}
use Rattle.std.proofs.lemmas.List.Elements.{All-contains, All-contains_itself, All-weaker}
use Rattle.dimacs.specs.logic.ClauseMap.{Live}
use Rattle.dimacs.specs.logic.Literal.{Clause}
use Rattle.watches.specs.Trails.{TrailValue}
use Rattle.conflict_analysis.specs.declared.lemma.Lemma.{Lemma}
use Rattle.conflict_analysis.specs.declared.first_uip.TrailWalk.{TrailWalk}
use Rattle.conflict_analysis.specs.Lemmas.{AreListedVars, AreDistinctVars, IsPresentConflict, IsLemmaOf}
use Rattle.conflict_analysis.specs.inner.Seen.{met}
use Rattle.conflict_analysis.specs.inner.TrailWalk.{AreCounted, AreMet, HasMet, IsLevelled, IsWalk, HasEnded}
use Rattle.conflict_analysis.proofs.WalkEndLemmas.{some_waits, ordered, follows, asserting, lemma_within}

-- once the false clause was met, some entry of the present level waits
pub conflict_waits : (live : Live) (t : TrailValue) (number : ℕ) (w : TrailWalk) → IsPresentConflict live t number → IsWalk t t.entries w
    → ((C : Clause) → live number C → AreMet (met w.seen) C) → 0 < w.pending
conflict_waits live t number w c walk all =
    let f = c.conflict in
    some_waits t.entries (met w.seen) f.0 w.pending walk.counted.opened f.2 (c.here f.0 f.1) (all f.0 f.1) c.above

pub walk_apart : (live : Live) (t : TrailValue) (w : TrailWalk) (lemma : Lemma) → HasEnded live t w lemma → AreDistinctVars t.vars w.met.items
walk_apart live t w lemma h = let l = h.way.walk.listed in record { within = l.within; distinct = l.distinct }

pub walk_again : (live : Live) (t : TrailValue) (w : TrailWalk) (lemma : Lemma) → HasEnded live t w lemma → AreListedVars t.vars w.met.items w.again.items
walk_again live t w lemma h =
    let l = h.way.walk.listed in
    let among : (v : ℕ) → Contains w.again.items v → Contains w.met.items v = λ v c. l.all v (h.way.walk.again v c) in
    record {
      within = All-weaker (Contains w.again.items) (λ v. (0 < v) × (v ≤ t.vars)) (λ v c. All-contains (λ v. (0 < v) × (v ≤ t.vars)) w.met.items v l.within (among v c)) w.again.items (All-contains_itself w.again.items);
      among = All-weaker (Contains w.again.items) (Contains w.met.items) among w.again.items (All-contains_itself w.again.items);
    }

pub is_lemma : (live : Live) (t : TrailValue) (number : ℕ) (v w : TrailWalk) (lemma after : Lemma) → IsPresentConflict live t number
    → ((C : Clause) → live number C → AreMet (met v.seen) C) → HasMet t.entries v.seen w.seen → HasEnded live t w lemma
    → after.lits.items ≡ lemma.lits.items → after.level ≡ lemma.level → after.hints.items ≡ reverse lemma.hints.items ++ number ∷ [] → IsLemmaOf live t number after
is_lemma live t number v w lemma after c all more h lits level hints =
    let f = c.conflict in
    let valid = h.way.walk.valid in
    record {
      rup = rw (lits, hints) (follows live t.entries valid.apart (met w.seen) h.place lemma.level lemma.lits.items lemma.hints.items counted h.way.walked levels
          f.0 number f.1 f.2 (λ k j. more.grows _ (all f.0 f.1 k j)));
      ordered = rw hints (ordered live t.entries valid.apart (met w.seen) h.place lemma.level lemma.lits.items lemma.hints.items counted h.way.walked levels number);
      asserting = rw (lits, level) (asserting live t.entries valid.apart (met w.seen) h.place lemma.level lemma.lits.items lemma.hints.items counted h.way.walked levels c.above);
      distinct = rw lits h.way.walked.distinct;
      within = rw lits (lemma_within live t.entries valid.apart (met w.seen) h.place lemma.level lemma.lits.items lemma.hints.items counted h.way.walked levels t.vars valid.within);
    }
  where
    counted : AreCounted t.entries (take h.place t.entries) (met w.seen) 0 0
    counted = subst (λ p. AreCounted t.entries (take h.place t.entries) (met w.seen) p 0) h.none_present
        (subst (λ r. AreCounted t.entries (take h.place t.entries) (met w.seen) w.pending r) h.none_lower h.way.walk.counted)

    levels : IsLevelled t.entries 0 lemma.lits.items lemma.level
    levels = subst (λ p. IsLevelled t.entries p lemma.lits.items lemma.level) h.none_present h.way.levels
