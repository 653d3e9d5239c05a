-- The walk's invariant is kept when it meets a literal.
use Rattle.std.proofs.Common.{◌≡◌, ℕ, ◌+◌, ◌/◌, ◌<◌, ◌≤◌, ◌||◌, inl, inr, Bool, true, false, eqb, List, [], ◌∷◌, ◌++◌, length, get_or, set, ap, sym, ◌∙◌, subst, arith}
use Rattle.std.specs.List.{Contains}
use Rattle.std.proofs.lemmas.Bool.{both_ways, or_left}
use Rattle.std.proofs.lemmas.List.{length-set}
use Rattle.dimacs.proofs.LiteralLemmas.{var_of-negation}
use Rattle.dimacs.specs.logic.Literal.{Literal, IsWithin, negation, var_of}
use Rattle.watches.proofs.ListWalkLemmas.{holds_front}
use Rattle.watches.specs.Trails.{TrailValue, holds}
use Rattle.watches.specs.declared.trail.Assigned.{Assigned}
use Rattle.conflict_analysis.specs.declared.first_uip.TrailWalk.{TrailWalk}
use Rattle.conflict_analysis.specs.inner.Seen.{met}
use Rattle.conflict_analysis.specs.inner.TrailWalk.{AreCounted, AreListed, AreMarked, ArePlaced, HasMet, IsKnown, IsWalk}
use Rattle.conflict_analysis.proofs.BlockLemmas.{marks_more, places_more}
use Rattle.conflict_analysis.proofs.MetLemmas.{met_none}
use Rattle.conflict_analysis.proofs.MetLiteralLemmas.{met_set, lists, meets_present, meets_lower}
use Rattle.conflict_analysis.proofs.TraceLemmas.{mark_one}

-- a literal that can be met, and was not, is false
pub unmet_false : (t : TrailValue) (front : List Assigned) (w : TrailWalk) (k : Literal) → IsWalk t front w → IsKnown front (met w.seen) k → met w.seen (var_of k) ≡ false
    → holds t.entries (negation k) ≡ true
unmet_false t front w k walk known new = elim known [
  | inl m ↦ absurd (both_ways (met w.seen (var_of k)) new m)
  | inr h ↦ let b = walk.before in subst (λ es. holds es (negation k) ≡ true) (sym b.1) (holds_front front b.0 (negation k) h)
]

module _ (t : TrailValue) (front : List Assigned) (w : TrailWalk) (k : Literal) (e : Assigned)
    (walk : IsWalk t front w) (within : IsWithin t.vars k) (known : IsKnown front (met w.seen) k) (new : met w.seen (var_of k) ≡ false)
    (here : Contains t.entries e) (is : e.literal ≡ negation k)
    (p : ℕ) (inside : p < length t.entries) (stands : (d : Assigned) → (get_or t.entries p d).literal ≡ negation k) where
  abbrev after : List Bool
  after = set w.seen (var_of k) true

  below : var_of k < length w.seen
  below = let r = walk.room in let l = within.1 in omega (arith, r, l)

  is_false : holds front (negation k) ≡ true
  is_false = elim known [ inl t ↦ absurd (both_ways (met w.seen (var_of k)) new t) | inr h ↦ h ]

  grown : (v : ℕ) → met after v ≡ (met w.seen v || eqb v (var_of k))
  grown v = met_set w.seen (var_of k) v below

  listed : AreListed t.vars (met after) (w.met.items ++ var_of k ∷ [])
  listed = lists t.vars (met w.seen) (met after) w.met.items (var_of k) walk.listed within.0 within.1 new grown

  marks : AreMarked t.entries (met after) (set w.blocks (p / 8) true)
  marks = marks_more t.entries (met w.seen) (met after) w.blocks (var_of k) p walk.valid.apart walk.wide inside (λ d. ap var_of (stands d) ∙ var_of-negation k) grown walk.marked

  placing : ArePlaced t.entries (met after) (set w.places p true)
  placing = places_more t.entries (met w.seen) (met after) w.places (var_of k) p walk.valid.apart walk.whole inside (λ d. ap var_of (stands d) ∙ var_of-negation k) grown walk.placed

  walks : (v : TrailWalk) → v.seen ≡ after → v.blocks ≡ set w.blocks (p / 8) true → v.places ≡ set w.places p true → v.present ≡ w.present → v.met.items ≡ w.met.items ++ var_of k ∷ [] → v.again.items ≡ w.again.items
      → AreCounted t.entries front (met after) v.pending v.rest → IsWalk t front v
  walks v s b x q m a counted = record {
    valid = walk.valid;
    before = walk.before;
    room = let r = walk.room in subst (λ xs. t.vars < length xs) (sym s) (let n = length-set w.seen (var_of k) true in omega (arith, r, n));
    level = q ∙ walk.level;
    counted = subst (λ xs. AreCounted t.entries front (met xs) v.pending v.rest) (sym s) counted;
    listed = subst (λ xs. AreListed t.vars (met xs) v.met.items) (sym s) (subst (AreListed t.vars (met after)) (sym m) listed);
    again = λ u h. subst (λ xs. met xs u ≡ true) (sym s) (grown u ∙ or_left (met w.seen u) (eqb u (var_of k)) (walk.again u (subst (λ xs. Contains xs u) a h)));
    wide = let r = walk.wide in let n = length-set w.blocks (p / 8) true in subst (λ xs. length t.entries / 8 < length xs) (sym b) (omega (arith, r, n));
    marked = subst (λ xs. AreMarked t.entries (met xs) v.blocks) (sym s) (subst (AreMarked t.entries (met after)) (sym b) marks);
    whole = let r = walk.whole in let n = length-set w.places p true in subst (λ xs. length t.entries ≤ length xs) (sym x) (omega (arith, r, n));
    placed = subst (λ xs. ArePlaced t.entries (met xs) v.places) (sym s) (subst (ArePlaced t.entries (met after)) (sym x) placing);
  }

  -- of the present level
  pub meets_here : (v : TrailWalk) → v.seen ≡ after → v.blocks ≡ set w.blocks (p / 8) true → v.places ≡ set w.places p true → v.present ≡ w.present → v.pending ≡ w.pending + 1 → v.rest ≡ w.rest
      → v.met.items ≡ w.met.items ++ var_of k ∷ [] → v.again.items ≡ w.again.items → e.level ≡ w.present → IsWalk t front v
  meets_here v s c x q a b m g l = walks v s c x q m g (rw (a, b) (meets_present t.entries front walk.valid.apart walk.before (met w.seen) (met after) k e here is is_false new grown w.pending w.rest walk.counted (l ∙ walk.level)))

  -- of a lower one
  pub meets_below : (v : TrailWalk) → v.seen ≡ after → v.blocks ≡ set w.blocks (p / 8) true → v.places ≡ set w.places p true → v.present ≡ w.present → v.pending ≡ w.pending → v.rest ≡ w.rest + 1
      → v.met.items ≡ w.met.items ++ var_of k ∷ [] → v.again.items ≡ w.again.items → (e.level ≡ w.present → ⊥) → IsWalk t front v
  meets_below v s c x r a b m g l = walks v s c x r m g (rw (a, b) (meets_lower t.entries front walk.valid.apart walk.before (met w.seen) (met after) k e here is is_false new grown w.pending w.rest walk.counted (λ q. l (q ∙ sym walk.level))))

  pub meets_only : (xs : List Bool) → xs ≡ after → HasMet front w.seen xs
  meets_only xs s = subst (HasMet front w.seen) (sym s) (mark_one front w.seen w.seen k below (met_none front w.seen) known)
