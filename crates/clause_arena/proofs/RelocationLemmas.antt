-- The places of clauses that are copied one after the other, and the literals there.
use Rattle.std.proofs.Common.{◌≡◌, ℕ, zero, suc, ◌+◌, ◌<◌, ◌≤◌, Bool, true, false, List, [], ◌∷◌, ◌++◌, Option, Some, None, cond, refl, sym, ◌∙◌, ap, subst, length, map, take, drop, arith, append_assoc, length-append, length-take, get_or, add-one, drop-cons}
use Rattle.std.specs.Prelude.{T, nat_eq}
use Rattle.std.specs.Option.{option_or, IsSome}
use Rattle.std.specs.FinMap.{get, insert, find, is_sorted, get-insert}
use Rattle.std.specs.Ordering.{nat_cmp, eq_by_cmp}
use Rattle.std.specs.Cmp.{nat_cmp_total}
use Rattle.std.proofs.lemmas.Bool.{eqb-true}
use Rattle.std.proofs.lemmas.List.{drop_at, take_at, take-append-le}
use Rattle.dimacs.specs.logic.Literal.{Literal}
use Rattle.clause_arena.specs.declared.reference.Ref.{Ref}
use Rattle.clause_arena.specs.declared.slot.Slot.{Slot}
use Rattle.clause_arena.specs.Slots.{Slots}
use Rattle.clause_arena.specs.Contents.{clause_at}
use Rattle.clause_arena.specs.inner.Contents.{slot_of, IsPlaced}
use Rattle.clause_arena.specs.inner.Relocation.{ref_of, relocated, move_of, moves_from, moved_by}
use Rattle.clause_arena.proofs.SlotLemmas.{same_number, same_test, apart_test}
use Rattle.clause_arena.proofs.SortedLemmas.{first_of_both, second_of_both, found_above, none_after}
use Rattle.clause_arena.proofs.ContentLemmas.{length-clause_at}

-- ---- one clause after the other
module _ (refs : List Ref) (i : ℕ) (d : Ref) (lt : i < length refs) where
  next_ref : drop i refs ≡ get_or refs i d ∷ drop (i + 1) refs
  next_ref = drop-cons refs i d lt ∙ ap (λ k. get_or refs i d ∷ drop k refs) (sym (add-one i))

  -- the literals of one clause more are gathered
  pub literals_step : (literals old new all : List Literal) → new ≡ old ++ clause_at literals (slot_of (get_or refs i d)) → old ++ relocated literals (drop i refs) ≡ all
      → new ++ relocated literals (drop (i + 1) refs) ≡ all
  literals_step literals old new all e so_far =
      ap (λ (xs : List Literal). xs ++ relocated literals (drop (i + 1) refs)) e
      ∙ append_assoc old (clause_at literals (slot_of (get_or refs i d))) (relocated literals (drop (i + 1) refs))
      ∙ ap (λ rs. old ++ relocated literals rs) (sym next_ref) ∙ so_far

  -- the place of the next clause
  pub place_step : (literals old new : List Literal) (place next : ℕ) → IsPlaced literals (slot_of (get_or refs i d)) → place ≡ length old → next ≡ length new
      → new ≡ old ++ clause_at literals (slot_of (get_or refs i d)) → next ≡ place + (get_or refs i d).len
  place_step literals old new place next placed e f g =
      let long = length-clause_at literals (slot_of (get_or refs i d)) placed in
      let both : length new ≡ length old + length (clause_at literals (slot_of (get_or refs i d))) = ap length g ∙ length-append old (clause_at literals (slot_of (get_or refs i d))) in
      omega (arith, e, f, long, both)

  -- one move more is told
  pub moves_step : (old new all : List (Ref × Ref)) (place next : ℕ) → new ≡ old ++ move_of place (get_or refs i d) → next ≡ place + (get_or refs i d).len → old ++ moves_from place (drop i refs) ≡ all
      → new ++ moves_from next (drop (i + 1) refs) ≡ all
  moves_step old new all place next e rises so_far =
      ap (λ (xs : List (Ref × Ref)). xs ++ moves_from next (drop (i + 1) refs)) e
      ∙ append_assoc old (move_of place (get_or refs i d)) (moves_from next (drop (i + 1) refs))
      ∙ ap (λ p. old ++ (move_of place (get_or refs i d) ++ moves_from p (drop (i + 1) refs))) rises
      ∙ ap (λ rs. old ++ moves_from place rs) (sym next_ref) ∙ so_far

-- what stands at the front stays there
pub front_step : {X : Type 0} (n : ℕ) (first old new more : List X) → n ≡ length first → new ≡ old ++ more → take n old ≡ first → take n new ≡ first
front_step n first old new more long e so_far =
    let few : n ≤ length old = omega (arith, long, ap length so_far, length-take n old) in
    ap (take n) e ∙ take-append-le n old more few ∙ so_far

-- the slots from a place on
abbrev pub slot_from : ℕ → Slot → Slot
slot_from p s = record { place = p; len = s.len }

abbrev pub packed : ℕ → List (ℕ × Slot) → List (ℕ × Slot)
packed p [] = []
packed p (e ∷ es) = (e.0, slot_from p e.1) ∷ packed (p + e.1.len) es

none_some : (t : Slot) → None ≡ Some t → ⊥
none_some t e = cc

some_not_none : (t : Slot) → Some t ≡ None → ⊥
some_not_none t e = cc

same_some : (s t : Slot) → Some s ≡ Some t → s ≡ t
same_some s t e = cc

-- ---- the same numbers
pub packed_none : (es : List (ℕ × Slot)) (p q : ℕ) → find nat_cmp q es ≡ None → find nat_cmp q (packed p es) ≡ None
packed_none [] p q e = refl
packed_none (x ∷ es) p q e =
    elim (eq_by_cmp nat_cmp q x.0) as (λ b. cond b (Some x.1) (find nat_cmp q es) ≡ None → cond b (Some (slot_from p x.1)) (find nat_cmp q (packed (p + x.1.len) es)) ≡ None) [
      | true ↦ λ e. absurd (some_not_none x.1 e)
      | false ↦ λ e. packed_none es (p + x.1.len) q e
    ] e

pub unpacked_none : (es : List (ℕ × Slot)) (p q : ℕ) → find nat_cmp q (packed p es) ≡ None → find nat_cmp q es ≡ None
unpacked_none [] p q e = refl
unpacked_none (x ∷ es) p q e =
    elim (eq_by_cmp nat_cmp q x.0) as (λ b. cond b (Some (slot_from p x.1)) (find nat_cmp q (packed (p + x.1.len) es)) ≡ None → cond b (Some x.1) (find nat_cmp q es) ≡ None) [
      | true ↦ λ e. absurd (some_not_none (slot_from p x.1) e)
      | false ↦ λ e. unpacked_none es (p + x.1.len) q e
    ] e

pub packed_over : (es : List (ℕ × Slot)) (p q : ℕ) → option_or (find nat_cmp q (packed p es)) (find nat_cmp q es) ≡ find nat_cmp q (packed p es)
packed_over [] p q = refl
packed_over (x ∷ es) p q =
    elim (eq_by_cmp nat_cmp q x.0) as (λ b. option_or (cond b (Some (slot_from p x.1)) (find nat_cmp q (packed (p + x.1.len) es))) (cond b (Some x.1) (find nat_cmp q es)) ≡ cond b (Some (slot_from p x.1)) (find nat_cmp q (packed (p + x.1.len) es))) [
      | true ↦ refl
      | false ↦ packed_over es (p + x.1.len) q
    ]

-- ---- what the moves leave
-- a number after the first entry is another one
pub found_behind : (e : ℕ × Slot) (es : List (ℕ × Slot)) → T (is_sorted nat_cmp (e ∷ es)) → (k : ℕ) (s : Slot) → find nat_cmp k es ≡ Some s → eq_by_cmp nat_cmp k e.0 ≡ false
found_behind e es sorted k s is =
    let lt = found_above e.0 es (first_of_both _ _ sorted) k s is in
    apart_test k e.0 (λ same. absurd (omega arith))

pub found_whole : (e : ℕ × Slot) (es : List (ℕ × Slot)) → T (is_sorted nat_cmp (e ∷ es)) → (k : ℕ) (s : Slot) → find nat_cmp k es ≡ Some s → find nat_cmp k (e ∷ es) ≡ Some s
found_whole e es sorted k s is = ap (λ b. cond b (Some e.1) (find nat_cmp k es)) (found_behind e es sorted k s is) ∙ is

abbrev Has : Slots → List (ℕ × Slot) → Type 0
Has m es = (k : ℕ) (s : Slot) → find nat_cmp k es ≡ Some s → get m k ≡ Some s

-- one entry more: its number finds nothing after it
module _ (e : ℕ × Slot) (m : Slots) (p q : ℕ) (later : Option Slot) (gone : q ≡ e.0 → later ≡ None) where
  -- an entry that stays where it is
  stays : p ≡ e.1.place → get m e.0 ≡ Some e.1 → (b : Bool) → eq_by_cmp nat_cmp q e.0 ≡ b → option_or later (get m q) ≡ option_or (cond b (Some (slot_from p e.1)) later) (get m q)
  stays same first true t =
      let here = same_number q e.0 t in
      ap (λ o. option_or o (get m q)) (gone here) ∙ ap (get m) here ∙ first ∙ ap (λ x. Some (slot_from x e.1)) (sym same)
  stays same first false t = refl

  -- an entry that comes to another place
  comes : (b : Bool) → eq_by_cmp nat_cmp q e.0 ≡ b → option_or later (cond b (Some (slot_from p e.1)) (get m q)) ≡ option_or (cond b (Some (slot_from p e.1)) later) (get m q)
  comes true t = ap (λ o. option_or o (Some (slot_from p e.1))) (gone (same_number q e.0 t))
  comes false t = refl

has_still : (e : ℕ × Slot) (es : List (ℕ × Slot)) (m : Slots) (new : Slot) → T (is_sorted nat_cmp (e ∷ es)) → Has m (e ∷ es) → Has (insert m e.0 new) es
has_still e es m new sorted has k s is =
    get-insert nat_cmp_total m e.0 new k
    ∙ ap (λ b. cond b (Some new) (get m k)) (found_behind e es sorted k s is)
    ∙ has k s (found_whole e es sorted k s is)

pub moved_find : (es : List (ℕ × Slot)) (p : ℕ) (m : Slots) (q : ℕ) → T (is_sorted nat_cmp es) → Has m es → get (moved_by m (moves_from p (map ref_of es))) q ≡ option_or (find nat_cmp q (packed p es)) (get m q)
moved_find [] p m q sorted has = refl
moved_find (e ∷ es) p m q sorted has =
    let later : Option Slot = find nat_cmp q (packed (p + e.1.len) es) in
    let gone : q ≡ e.0 → later ≡ None = λ same. packed_none es (p + e.1.len) q (ap (λ k. find nat_cmp k es) same ∙ none_after e.0 es (first_of_both _ _ sorted)) in
    let first = has e.0 e.1 (ap (λ b. cond b (Some e.1) (find nat_cmp e.0 es)) (same_test e.0 e.0 refl)) in
    elim (nat_eq p e.1.place) as (λ b. nat_eq p e.1.place ≡ b
    → get (moved_by m (cond b [] ((ref_of e, record { number = e.0; place = p; len = e.1.len }) ∷ []) ++ moves_from (p + e.1.len) (map ref_of es))) q ≡ option_or (find nat_cmp q (packed p (e ∷ es))) (get m q)) [
      | true ↦ λ t.
          moved_find es (p + e.1.len) m q (second_of_both _ _ sorted) (λ k s is. has k s (found_whole e es sorted k s is))
          ∙ stays e m p q later gone (eqb-true p e.1.place t) first (eq_by_cmp nat_cmp q e.0) refl
      | false ↦ λ t.
          moved_find es (p + e.1.len) (insert m e.0 (slot_from p e.1)) q (second_of_both _ _ sorted) (has_still e es m (slot_from p e.1) sorted has)
          ∙ ap (option_or later) (get-insert nat_cmp_total m e.0 (slot_from p e.1) q)
          ∙ comes e m p q later gone (eq_by_cmp nat_cmp q e.0) refl
    ] refl

-- ---- where the literals are
abbrev pub AllPlaced : List Literal → List (ℕ × Slot) → Type 0
AllPlaced ws [] = Unit {0}
AllPlaced ws (e ∷ es) = IsPlaced ws e.1 × AllPlaced ws es

pub all_placed : (ws : List Literal) (es : List (ℕ × Slot)) → T (is_sorted nat_cmp es) → ((k : ℕ) (s : Slot) → find nat_cmp k es ≡ Some s → IsPlaced ws s) → AllPlaced ws es
all_placed ws [] sorted h = tt
all_placed ws (e ∷ es) sorted h = (
  h e.0 e.1 (ap (λ b. cond b (Some e.1) (find nat_cmp e.0 es)) (same_test e.0 e.0 refl)),
  all_placed ws es (second_of_both _ _ sorted) (λ k s is. h k s (found_whole e es sorted k s is)),
)

-- a slot that carries the literals of another
pub record IsCarried (ws others : List Literal) (s t : Slot) : Type 0 where
  pub len : t.len ≡ s.len
  pub within : IsPlaced others t
  pub literals : clause_at others t ≡ clause_at ws s

pub record CameFrom (ws literals : List Literal) (es : List (ℕ × Slot)) (q : ℕ) (t : Slot) : Type 0 where
  pub slot : Slot
  pub found : find nat_cmp q es ≡ Some slot
  pub carried : IsCarried ws literals slot t

carried_here : (ws front more : List Literal) (p : ℕ) (s : Slot) → p ≡ length front → IsPlaced ws s → IsCarried ws (front ++ (clause_at ws s ++ more)) s (slot_from p s)
carried_here ws front more p s at placed =
    let long = length-clause_at ws s placed in
    record {
      len = refl;
      within = omega (arith, length-append front (clause_at ws s ++ more), length-append (clause_at ws s) more);
      literals =
          ap (take s.len) (ap (λ k. drop k (front ++ (clause_at ws s ++ more))) at ∙ drop_at front (clause_at ws s ++ more) (length front) refl)
          ∙ take_at (clause_at ws s) more s.len long;
    }

pub carried : (ws : List Literal) (es : List (ℕ × Slot)) (front : List Literal) (p : ℕ) → p ≡ length front → AllPlaced ws es → (q : ℕ) (t : Slot) → find nat_cmp q (packed p es) ≡ Some t
    → CameFrom ws (front ++ relocated ws (map ref_of es)) es q t
carried ws [] front p e placed q t is = absurd (none_some t is)
carried ws (e ∷ es) front p at placed q t is =
    let more : List Literal = relocated ws (map ref_of es) in
    elim (eq_by_cmp nat_cmp q e.0) as (λ b. eq_by_cmp nat_cmp q e.0 ≡ b → cond b (Some (slot_from p e.1)) (find nat_cmp q (packed (p + e.1.len) es)) ≡ Some t → CameFrom ws (front ++ (clause_at ws e.1 ++ more)) (e ∷ es) q t) [
      | true ↦ λ z is.
          let here : slot_from p e.1 ≡ t = same_some (slot_from p e.1) t is in
          record {
            slot = e.1;
            found = ap (λ b. cond b (Some e.1) (find nat_cmp q es)) z;
            carried = subst (λ x. IsCarried ws (front ++ (clause_at ws e.1 ++ more)) e.1 x) here (carried_here ws front more p e.1 at placed.0);
          }
      | false ↦ λ z is.
          let long = length-clause_at ws e.1 placed.0 in
          let rest = carried ws es (front ++ clause_at ws e.1) (p + e.1.len) (omega (arith, length-append front (clause_at ws e.1))) placed.1 q t is in
          record {
            slot = rest.slot;
            found = ap (λ b. cond b (Some e.1) (find nat_cmp q es)) z ∙ rest.found;
            carried = subst (λ literals. IsCarried ws literals rest.slot t) (append_assoc front (clause_at ws e.1) more) rest.carried;
          }
    ] refl is

-- ---- no two overlap
packed_from : (es : List (ℕ × Slot)) (p q : ℕ) (t : Slot) → find nat_cmp q (packed p es) ≡ Some t → p ≤ t.place
packed_from [] p q t e = absurd (none_some t e)
packed_from (x ∷ es) p q t e =
    elim (eq_by_cmp nat_cmp q x.0) as (λ b. cond b (Some (slot_from p x.1)) (find nat_cmp q (packed (p + x.1.len) es)) ≡ Some t → p ≤ t.place) [
      | true ↦ λ e. let place = ap (λ (s : Slot). s.place) (same_some (slot_from p x.1) t e) in omega arith
      | false ↦ λ e. let later = packed_from es (p + x.1.len) q t e in omega arith
    ] e

first_apart : (x : ℕ × Slot) (es : List (ℕ × Slot)) (p r k : ℕ) (t u : Slot) → Some (slot_from p x.1) ≡ Some t → find nat_cmp r (packed (p + x.1.len) es) ≡ Some u → k < t.place + t.len → u.place ≤ k → ⊥
first_apart x es p r k t u e f b c =
    let here = same_some (slot_from p x.1) t e in
    let place = ap (λ (s : Slot). s.place) here in
    let len = ap (λ (s : Slot). s.len) here in
    let later = packed_from es (p + x.1.len) r u f in
    omega arith

pub packed_apart : (es : List (ℕ × Slot)) (p q r k : ℕ) (t u : Slot) → find nat_cmp q (packed p es) ≡ Some t → find nat_cmp r (packed p es) ≡ Some u
    → t.place ≤ k → k < t.place + t.len → u.place ≤ k → k < u.place + u.len → q ≡ r
packed_apart [] p q r k t u e f a b c d = absurd (none_some t e)
packed_apart (x ∷ es) p q r k t u e f a b c d =
    elim (eq_by_cmp nat_cmp q x.0) as (λ v. eq_by_cmp nat_cmp q x.0 ≡ v → cond v (Some (slot_from p x.1)) (find nat_cmp q (packed (p + x.1.len) es)) ≡ Some t → q ≡ r) [
      | true ↦ λ y e.
          elim (eq_by_cmp nat_cmp r x.0) as (λ w. eq_by_cmp nat_cmp r x.0 ≡ w → cond w (Some (slot_from p x.1)) (find nat_cmp r (packed (p + x.1.len) es)) ≡ Some u → q ≡ r) [
            | true ↦ λ z f. same_number q x.0 y ∙ sym (same_number r x.0 z)
            | false ↦ λ z f. absurd (first_apart x es p r k t u e f b c)
          ] refl f
      | false ↦ λ y e.
          elim (eq_by_cmp nat_cmp r x.0) as (λ w. eq_by_cmp nat_cmp r x.0 ≡ w → cond w (Some (slot_from p x.1)) (find nat_cmp r (packed (p + x.1.len) es)) ≡ Some u → q ≡ r) [
            | true ↦ λ z f. absurd (first_apart x es p q k u t f e d a)
            | false ↦ λ z f. packed_apart es (p + x.1.len) q r k t u e f a b c d
          ] refl f
    ] refl e

pub placed_at : (ws : List Literal) (es : List (ℕ × Slot)) → AllPlaced ws es → (i : ℕ) (d : Ref) → i < length (map ref_of es) → IsPlaced ws (slot_of (get_or (map ref_of es) i d))
placed_at ws [] h i d lt = absurd (omega arith)
placed_at ws (e ∷ es) h zero d lt = h.0
placed_at ws (e ∷ es) h (suc i) d lt = placed_at ws es h.1 i d (omega arith)

-- ---- one move after the other
pub moved_step : (m first new : Slots) (moves : List (Ref × Ref)) (i : ℕ) (d : Ref × Ref) → i < length moves → new ≡ insert m (get_or moves i d).1.number (slot_of (get_or moves i d).1)
    → moved_by m (drop i moves) ≡ moved_by first moves → moved_by new (drop (i + 1) moves) ≡ moved_by first moves
moved_step m first new moves i d lt e so_far =
    ap (λ x. moved_by x (drop (i + 1) moves)) e
    ∙ ap (λ k. moved_by (insert m (get_or moves i d).1.number (slot_of (get_or moves i d).1)) (drop k moves)) (add-one i)
    ∙ ap (moved_by m) (sym (drop-cons moves i d lt))
    ∙ so_far

pub live_step : (m new : Slots) (n q : ℕ) (s : Slot) → new ≡ insert m n s → IsSome (get m q) → IsSome (get new q)
live_step m new n q s e live =
    subst (λ o. IsSome o) (sym (ap (λ x. get x q) e ∙ get-insert nat_cmp_total m n s q))
    (elim (eq_by_cmp nat_cmp q n) as (λ b. IsSome (cond b (Some s) (get m q))) [ true ↦ refl | false ↦ live ])
