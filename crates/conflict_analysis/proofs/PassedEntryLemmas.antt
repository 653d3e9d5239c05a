-- The walk's invariant is kept when it steps past the last entry of the front.
use Rattle.std.proofs.Common.{◌≡◌, ℕ, ◌+◌, ◌-◌, ◌<◌, ◌==◌, Bool, true, false, not, ◌&&◌, List, length, get_or, take, drop, ap, sym, ◌∙◌, subst, arith}
use Rattle.std.proofs.lemmas.List.{take-append-drop}
use Rattle.std.proofs.lemmas.List.Sums.{count_by_more_no, count_by_more_yes}
use Rattle.dimacs.specs.logic.Literal.{var_of}
use Rattle.watches.specs.Trails.{TrailValue, present}
use Rattle.watches.specs.declared.trail.Assigned.{Assigned}
use Rattle.conflict_analysis.specs.declared.first_uip.TrailWalk.{TrailWalk}
use Rattle.conflict_analysis.specs.inner.Seen.{met}
use Rattle.conflict_analysis.specs.inner.TrailWalk.{waiting, is_present, is_lower, AreCounted, IsWalk}

and_is : (a b t : Bool) → a ≡ true → b ≡ t → (a && b) ≡ t
and_is a b t h k = ap (λ x. x && b) h ∙ k

-- an entry that does not wait is none of those that do
stays : (es : List Assigned) (i : ℕ) (d : Assigned) (f at : ℕ → Bool) (n : ℕ) → i < length es → n ≡ waiting f at (take (i + 1) es)
    → (f (var_of (get_or es i d).literal) && at (get_or es i d).level) ≡ false → n ≡ waiting f at (take i es)
stays es i d f at n below is apart = is ∙ count_by_more_no (λ (e : Assigned). f (var_of e.literal) && at e.level) es i d below apart

-- one that waits goes
goes : (es : List Assigned) (i : ℕ) (d : Assigned) (f at : ℕ → Bool) (n : ℕ) → i < length es → n ≡ waiting f at (take (i + 1) es)
    → (f (var_of (get_or es i d).literal) && at (get_or es i d).level) ≡ true → n - 1 ≡ waiting f at (take i es)
goes es i d f at n below is here =
    let more : waiting f at (take (i + 1) es) ≡ waiting f at (take i es) + 1 = count_by_more_yes (λ (e : Assigned). f (var_of e.literal) && at e.level) es i d below here in
    omega (arith, is, more)

module _ (es : List Assigned) (i : ℕ) (below : i < length es) (e : Assigned) (is : e ≡ get_or es i e) (f : ℕ → Bool) (pending rest : ℕ) (before : AreCounted es (take (i + 1) es) f pending rest) where
  -- the entry was not met
  pub passes_unmet : f (var_of e.literal) ≡ false → AreCounted es (take i es) f pending rest
  passes_unmet unmet =
      let none : (at : ℕ → Bool) → (f (var_of (get_or es i e).literal) && at (get_or es i e).level) ≡ false =
      λ at. subst (λ (x : Assigned). (f (var_of x.literal) && at x.level) ≡ false) is (ap (λ b. b && at e.level) unmet) in
      record {
        opened = stays es i e f (is_present es) pending below before.opened (none (is_present es));
        remaining = stays es i e f (is_lower es) rest below before.remaining (none (is_lower es));
      }

  -- the entry was met, and its level is, or is not, the present one
  tells : (at : ℕ → Bool) (t : Bool) → f (var_of e.literal) ≡ true → at e.level ≡ t → (f (var_of (get_or es i e).literal) && at (get_or es i e).level) ≡ t
  tells at t seen level = subst (λ (x : Assigned). (f (var_of x.literal) && at x.level) ≡ t) is (and_is (f (var_of e.literal)) (at e.level) t seen level)

  pub passes_present : f (var_of e.literal) ≡ true → (e.level == present es) ≡ true → AreCounted es (take i es) f (pending - 1) rest
  passes_present seen level = record {
    opened = goes es i e f (is_present es) pending below before.opened (tells (is_present es) true seen level);
    remaining = stays es i e f (is_lower es) rest below before.remaining (tells (is_lower es) false seen (ap not level));
  }

  pub passes_lower : f (var_of e.literal) ≡ true → (e.level == present es) ≡ false → AreCounted es (take i es) f pending (rest - 1)
  passes_lower seen level = record {
    opened = stays es i e f (is_present es) pending below before.opened (tells (is_present es) false seen level);
    remaining = goes es i e f (is_lower es) rest below before.remaining (tells (is_lower es) true seen (ap not level));
  }

-- the walk that is left
pub passed : (t : TrailValue) (front : List Assigned) (w : TrailWalk) (i pending rest : ℕ) (notes : Bool) → IsWalk t front w → AreCounted t.entries (take i t.entries) (met w.seen) pending rest
    → IsWalk t (take i t.entries) (record { seen = w.seen; present = w.present; pending = pending; rest = rest; met = w.met; again = w.again; notes = notes; blocks = w.blocks; places = w.places })
passed t front w i pending rest notes walk counted = record {
  valid = walk.valid;
  before = (drop i t.entries, sym (take-append-drop i t.entries));
  room = walk.room;
  level = walk.level;
  counted = counted;
  listed = walk.listed;
  again = walk.again;
  wide = walk.wide;
  marked = walk.marked;
  whole = walk.whole;
  placed = walk.placed;
}
