-- Guards of watches are kept by a push and by a backtrack.
use Rattle.std.proofs.Common.{◌≡◌, ℕ, zero, suc, ◌<◌, ◌≤◌, ◌||◌, ◌&&◌, ◌⊎◌, inl, inr, Bool, true, false, List, [], ◌∷◌, ◌++◌, length, get_or, refl, ap, sym, ◌∙◌, subst, arith, nat_le, All}
use Rattle.std.proofs.lemmas.List.Folds.{list_any-append}
use Rattle.std.proofs.lemmas.List.Elements.{All-head, All-tail}
use Rattle.std.proofs.lemmas.List.{get_or_append_left}
use Rattle.std.proofs.lemmas.Bool.{false≢true, or_right, le-leb, leb-true}
use Rattle.dimacs.specs.logic.Literal.{Literal, same, negation}
use Rattle.dimacs.proofs.LiteralLemmas.{same-itself}
use Rattle.watches.specs.declared.trail.Assigned.{Assigned}
use Rattle.watches.specs.Trails.{holds, up_to}
use Rattle.watches.specs.inner.WatchInvariants.{IsGuarded}
use Rattle.watches.specs.inner.ReadyLaws.{or_left}

or_either : (a b : Bool) → (a || b) ≡ true → (a ≡ true) ⊎ (b ≡ true)
or_either true b e = inl refl
or_either false b e = inr e

and_left : (a b : Bool) → (a && b) ≡ true → a ≡ true
and_left true b e = refl
and_left false b e = e

and_right : (a b : Bool) → (a && b) ≡ true → b ≡ true
and_right true b e = e
and_right false b e = absurd (false≢true e)

and_both : (a b : Bool) → a ≡ true → b ≡ true → (a && b) ≡ true
and_both true b e f = f
and_both false b e f = absurd (false≢true e)

le_true : (a b : ℕ) → a ≤ b → nat_le a b ≡ true
le_true a b h = le-leb a b h

true_le : (a b : ℕ) → nat_le a b ≡ true → a ≤ b
true_le a b h = leb-true a b h

-- what is true up to a level is true
pub up_to_holds : (es : List Assigned) (k : ℕ) (l : Literal) → up_to es k l ≡ true → holds es l ≡ true
up_to_holds [] k l h = h
up_to_holds (e ∷ es) k l h = elim (or_either (same e.literal l && nat_le e.level k) (up_to es k l) h) [
  | inl x ↦ or_left (same e.literal l) (holds es l) (and_left (same e.literal l) (nat_le e.level k) x)
  | inr y ↦ or_right _ _ (up_to_holds es k l y)
]

-- if no level is greater, what is true is true up to there
pub holds_up_to : (es : List Assigned) (k : ℕ) (l : Literal) → All (λ e. e.level ≤ k) es → holds es l ≡ true → up_to es k l ≡ true
holds_up_to [] k l a h = h
holds_up_to (e ∷ es) k l a h = elim (or_either (same e.literal l) (holds es l) h) [
  | inl x ↦ or_left _ _ (and_both _ _ x (le_true e.level k (All-head (λ e. e.level ≤ k) e es a)))
  | inr y ↦ or_right _ _ (holds_up_to es k l (All-tail (λ e. e.level ≤ k) e es a) y)
]

above : (es : List Assigned) (k j : ℕ) (l : Literal) → j ≤ k → All (λ e. k < e.level) es → up_to es j l ≡ true → ⊥
above [] k j l le a h = false≢true h
above (e ∷ es) k j l le a h = elim (or_either (same e.literal l && nat_le e.level j) (up_to es j l) h) [
  | inl x ↦ let y = true_le e.level j (and_right _ _ x) in let z = All-head (λ e. k < e.level) e es a in omega arith
  | inr y ↦ above es k j l le (All-tail (λ e. k < e.level) e es a) y
]

pub up_to_kept : (kept gone : List Assigned) (k j : ℕ) (l : Literal) → j ≤ k → All (λ e. k < e.level) gone → up_to (kept ++ gone) j l ≡ true → up_to kept j l ≡ true
up_to_kept kept gone k j l le a h = elim (or_either (up_to kept j l) (up_to gone j l) (sym (list_any-append _ kept gone) ∙ h)) [
  | inl x ↦ x
  | inr y ↦ absurd (above gone k j l le a y)
]

-- after a cut what was handled and is still there is still guarded
pub guarded_cut : (kept gone : List Assigned) (head now level : ℕ) (w b : Literal) → All (λ e. e.level ≤ level) kept → All (λ e. level < e.level) gone
    → now ≤ head → now ≤ length kept → IsGuarded (kept ++ gone) head w b → IsGuarded kept now w b
guarded_cut kept gone head now level w b a c l n g i d h e =
    let s = get_or_append_left kept gone d i (omega arith) in
    let u : up_to (kept ++ gone) (get_or kept i d).level b ≡ true = subst (λ (x : Assigned). up_to (kept ++ gone) x.level b ≡ true) s (g i d (omega arith) (ap (λ (x : Assigned). x.literal) s ∙ e)) in
    up_to_kept kept gone level (get_or kept i d).level b (a i d (omega arith)) c u

-- the literal of an entry is true
pub entry_holds : (es : List Assigned) (i : ℕ) (d : Assigned) → i < length es → holds es (get_or es i d).literal ≡ true
entry_holds [] i d l = absurd (omega arith)
entry_holds (e ∷ es) zero d l = or_left (same e.literal e.literal) (holds es e.literal) (same-itself e.literal)
entry_holds (e ∷ es) (suc i) d l = or_right _ _ (entry_holds es i d (omega arith))

-- where w is not false there is nothing to guard
pub guarded_free : (es : List Assigned) (head : ℕ) (w b : Literal) → head ≤ length es → holds es (negation w) ≡ false → IsGuarded es head w b
guarded_free es head w b l f i d h e = absurd (false≢true (sym f ∙ subst (λ x. holds es x ≡ true) e (entry_holds es i d (omega arith))))
