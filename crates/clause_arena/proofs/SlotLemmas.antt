-- A table and a B-tree of slots are together a map from numbers to slots.
use Rattle.std.proofs.Common.{◌≡◌, ◌≢◌, ℕ, zero, suc, ◌+◌, ◌<◌, ◌≤◌, Bool, true, false, List, [], ◌∷◌, ◌++◌, Option, Some, None, cond, refl, sym, ◌∙◌, ap, length, arith, get_or, set, get_or-set_same, get_or-set_other, length-set, length-append, IsSome}
use Rattle.std.specs.Option.{option_or}
use Rattle.std.specs.Map.{lookup}
use Rattle.std.specs.BTreeMap as tree
use Rattle.std.specs.BTreeMap.{BTreeMap, is_at}
use Rattle.std.specs.FinMap.{get, insert, remove, empty, from_entries, find, get-from_entries, get-insert, get-remove, same_map, nat_cmp-IsAntisymmetric}
use Rattle.std.specs.Ordering.{nat_cmp, eq_by_cmp}
use Rattle.std.specs.Cmp.{nat_cmp_total}
use Rattle.std.proofs.lemmas.Cmp.{eq_by_cmp_equiv}
use Rattle.std.proofs.lemmas.List.{get_or_past}
use Rattle.std.proofs.lemmas.Map.Views.{tells_apart}
use Rattle.std.proofs.lemmas.Map.Lookups.{exact_unsigned}
use Rattle.clause_arena.specs.declared.slot.Slot.{Slot}
use Rattle.clause_arena.specs.declared.slot_map.SlotMap.{SlotMap}
use Rattle.clause_arena.specs.Slots.{Slots}
use Rattle.clause_arena.specs.inner.Slots.{near_entries, slots_of, IsApart}

-- ---- tests of numbers
pub same_test : (q n : ℕ) → q ≡ n → eq_by_cmp nat_cmp q n ≡ true
same_test q n e = ap (λ x. eq_by_cmp nat_cmp x n) e ∙ (eq_by_cmp_equiv nat_cmp_total).refl n

pub same_number : (q n : ℕ) → eq_by_cmp nat_cmp q n ≡ true → q ≡ n
same_number q n e = tells_apart exact_unsigned q n e

pub apart_test : (q n : ℕ) → q ≢ n → eq_by_cmp nat_cmp q n ≡ false
apart_test q n ne = at (eq_by_cmp nat_cmp q n) refl
  where
    at : (b : Bool) → eq_by_cmp nat_cmp q n ≡ b → eq_by_cmp nat_cmp q n ≡ false
    at true e = absurd (ne (same_number q n e))
    at false e = e

pub test_flips : (q n : ℕ) → eq_by_cmp nat_cmp q n ≡ eq_by_cmp nat_cmp n q
test_flips q n = (eq_by_cmp_equiv nat_cmp_total).symm q n

-- two maps that have the same at each number are one
pub same_slots : (m n : Slots) → ((q : ℕ) → get m q ≡ get n q) → m ≡ n
same_slots m n e = same_map nat_cmp_total nat_cmp-IsAntisymmetric m n e

-- ---- what the slots have at a number
or_cond : (b : Bool) (x : Slot) (o p r : Option Slot) → r ≡ option_or o p → cond b (Some x) r ≡ option_or (cond b (Some x) o) p
or_cond true x o p r e = refl
or_cond false x o p r e = e

find-or : (xs ys : List (ℕ × Slot)) (q : ℕ) → find nat_cmp q (xs ++ ys) ≡ option_or (find nat_cmp q xs) (find nat_cmp q ys)
find-or [] ys q = refl
find-or (x ∷ xs) ys q = or_cond (eq_by_cmp nat_cmp q x.0) x.1 (find nat_cmp q xs) (find nat_cmp q ys) (find nat_cmp q (xs ++ ys)) (find-or xs ys q)

-- no slot stands before the first place
find_before : (near : List (Option Slot)) (n q : ℕ) → q < n → find nat_cmp q (near_entries n near) ≡ None
find_before [] n q lt = refl
find_before (None ∷ near) n q lt = find_before near (n + 1) q (omega arith)
find_before (Some v ∷ near) n q lt =
    let ne : q ≢ n = omega arith in
    ap (λ b. cond b (Some v) (find nat_cmp q (near_entries (n + 1) near))) (apart_test q n ne) ∙ find_before near (n + 1) q (omega arith)

find_at : (near : List (Option Slot)) (i n q : ℕ) → q ≡ n + i → find nat_cmp q (near_entries n near) ≡ get_or near i None
find_at [] i n q e = refl
find_at (None ∷ near) zero n q e = find_before near (n + 1) q (omega arith)
find_at (None ∷ near) (suc i) n q e = find_at near i (n + 1) q (omega arith)
find_at (Some v ∷ near) zero n q e =
    ap (λ b. cond b (Some v) (find nat_cmp q (near_entries (n + 1) near))) (same_test q n (omega arith))
find_at (Some v ∷ near) (suc i) n q e =
    let ne : q ≢ n = omega arith in
    ap (λ b. cond b (Some v) (find nat_cmp q (near_entries (n + 1) near))) (apart_test q n ne) ∙ find_at near i (n + 1) q (omega arith)

find-lookup : (es : List (ℕ × Slot)) (q : ℕ) → find nat_cmp q es ≡ lookup (is_at (nat_cmp q)) es
find-lookup [] q = refl
find-lookup (e ∷ es) q = ap (cond (eq_by_cmp nat_cmp q e.0) (Some e.1)) (find-lookup es q)

-- the slot of a number stands at its place, or under its key
pub get-slots_of : (t : SlotMap) (q : ℕ) → get (slots_of t) q ≡ option_or (get_or t.near q None) (tree.get nat_cmp t.far q)
get-slots_of t q =
    get-from_entries nat_cmp_total (near_entries 0 t.near ++ t.far.entries) q
    ∙ find-or (near_entries 0 t.near) t.far.entries q
    ∙ ap (λ o. option_or o (find nat_cmp q t.far.entries)) (find_at t.near q 0 q (omega arith))
    ∙ ap (option_or (get_or t.near q None)) (find-lookup t.far.entries q)

or_none : (o : Option Slot) → option_or o None ≡ o
or_none None = refl
or_none (Some c) = refl

pub get_near : (t : SlotMap) (q : ℕ) → IsApart t → q < length t.near → get (slots_of t) q ≡ get_or t.near q None
get_near t q apart lt = get-slots_of t q ∙ ap (option_or (get_or t.near q None)) (apart.free q lt) ∙ or_none (get_or t.near q None)

pub get_far : (t : SlotMap) (q : ℕ) → length t.near ≤ q → get (slots_of t) q ≡ tree.get nat_cmp t.far q
get_far t q le = get-slots_of t q ∙ ap (λ o. option_or o (tree.get nat_cmp t.far q)) (get_or_past t.near q None le)

-- with another table, or another map
abbrev pub with_near : SlotMap → List (Option Slot) → SlotMap
with_near t near = record t { near = near }

abbrev pub with_far : SlotMap → BTreeMap ℕ Slot → SlotMap
with_far t far = record t { far = far }

-- ---- another slot at a place, or none
module _ (t : SlotMap) (i : ℕ) (apart : IsApart t) (here : i < length t.near) (o : Option Slot) where
  pub apart-set : IsApart (with_near t (set t.near i o))
  apart-set = record { free = λ q lt. apart.free q (omega (arith, length-set t.near i o)) }

  set_changed : (q : ℕ) (b : Bool) → eq_by_cmp nat_cmp q i ≡ b → get (slots_of (with_near t (set t.near i o))) q ≡ cond b o (get (slots_of t) q)
  set_changed q true e =
      let at : q ≡ i = same_number q i e in
      get_near (with_near t (set t.near i o)) q apart-set (omega (arith, length-set t.near i o))
      ∙ ap (λ k. get_or (set t.near i o) k None) at ∙ get_or-set_same t.near i o None here
  set_changed q false e =
      let ne : q ≢ i = λ at. absurd (let h : true ≡ false = sym (same_test q i at) ∙ e in cc) in
      get-slots_of (with_near t (set t.near i o)) q
      ∙ ap (λ x. option_or x (tree.get nat_cmp t.far q)) (get_or-set_other t.near i q o None ne)
      ∙ sym (get-slots_of t q)

  set_change : (q : ℕ) → get (slots_of (with_near t (set t.near i o))) q ≡ cond (eq_by_cmp nat_cmp q i) o (get (slots_of t) q)
  set_change q = set_changed q (eq_by_cmp nat_cmp q i) refl

  pub near-insert : (s : Slot) → o ≡ Some s → slots_of (with_near t (set t.near i o)) ≡ insert (slots_of t) i s
  near-insert s is = same_slots _ _ (λ q.
      set_change q ∙ ap (λ x. cond (eq_by_cmp nat_cmp q i) x (get (slots_of t) q)) is
      ∙ sym (get-insert nat_cmp_total (slots_of t) i s q))

  pub near-remove : o ≡ None → slots_of (with_near t (set t.near i o)) ≡ remove (slots_of t) i
  near-remove is = same_slots _ _ (λ q.
      set_change q ∙ ap (λ x. cond (eq_by_cmp nat_cmp q i) x (get (slots_of t) q)) is
      ∙ sym (get-remove nat_cmp_total (slots_of t) i q))

-- ---- another slot under a key, or none
abbrev pub Says : BTreeMap ℕ Slot → BTreeMap ℕ Slot → ℕ → Option Slot → Type 0
Says old new number o = (q : ℕ) → tree.get nat_cmp new q ≡ cond (is_at (nat_cmp number) q) o (tree.get nat_cmp old q)

module _ (t : SlotMap) (new : BTreeMap ℕ Slot) (number : ℕ) (beyond : length t.near ≤ number) (o : Option Slot) (says : Says t.far new number o) where
  far_changed : (q : ℕ) (b : Bool) → eq_by_cmp nat_cmp number q ≡ b → get (slots_of (with_far t new)) q ≡ cond b o (get (slots_of t) q)
  far_changed q true e =
      let at : number ≡ q = same_number number q e in
      get_far (with_far t new) q (omega arith) ∙ says q ∙ ap (λ b. cond b o (tree.get nat_cmp t.far q)) e
  far_changed q false e =
      get-slots_of (with_far t new) q
      ∙ ap (option_or (get_or t.near q None)) (says q ∙ ap (λ b. cond b o (tree.get nat_cmp t.far q)) e)
      ∙ sym (get-slots_of t q)

  far_change : (q : ℕ) → get (slots_of (with_far t new)) q ≡ cond (eq_by_cmp nat_cmp q number) o (get (slots_of t) q)
  far_change q =
      far_changed q (eq_by_cmp nat_cmp number q) refl ∙ ap (λ b. cond b o (get (slots_of t) q)) (test_flips number q)

  pub apart-far : IsApart t → IsApart (with_far t new)
  apart-far apart = record {
    free = λ q lt. let ne : number ≢ q = omega arith in says q ∙ ap (λ b. cond b o (tree.get nat_cmp t.far q)) (apart_test number q ne) ∙ apart.free q lt;
  }

  pub far-insert : (s : Slot) → o ≡ Some s → slots_of (with_far t new) ≡ insert (slots_of t) number s
  far-insert s is = same_slots _ _ (λ q.
      far_change q ∙ ap (λ x. cond (eq_by_cmp nat_cmp q number) x (get (slots_of t) q)) is
      ∙ sym (get-insert nat_cmp_total (slots_of t) number s q))

  pub far-remove : o ≡ None → slots_of (with_far t new) ≡ remove (slots_of t) number
  far-remove is = same_slots _ _ (λ q.
      far_change q ∙ ap (λ x. cond (eq_by_cmp nat_cmp q number) x (get (slots_of t) q)) is
      ∙ sym (get-remove nat_cmp_total (slots_of t) number q))

-- ---- a free place more
near_entries-push : (near : List (Option Slot)) (n : ℕ) → near_entries n (near ++ None ∷ []) ≡ near_entries n near
near_entries-push [] n = refl
near_entries-push (None ∷ near) n = near_entries-push near (n + 1)
near_entries-push (Some v ∷ near) n = ap (λ (es : List (ℕ × Slot)). (n, v) ∷ es) (near_entries-push near (n + 1))

pub slots_of-push : (t : SlotMap) → slots_of (with_near t (t.near ++ None ∷ [])) ≡ slots_of t
slots_of-push t = ap (λ (es : List (ℕ × Slot)). from_entries {R = nat_cmp} (es ++ t.far.entries)) (near_entries-push t.near 0)

none_there : (o : Option Slot) → (IsSome o → ⊥) → o ≡ None
none_there None h = refl
none_there (Some s) h = absurd (h refl)

-- a number at which the map has nothing
pub nothing_at : (far : BTreeMap ℕ Slot) (place q : ℕ) → ((k : ℕ) → IsSome (tree.get nat_cmp far k) → place < k) → q ≤ place → tree.get nat_cmp far q ≡ None
nothing_at far place q below le = none_there (tree.get nat_cmp far q) (λ s. let lt = below q s in absurd (omega arith))

pub apart-push : (t : SlotMap) (place : ℕ) → length t.near ≤ place → ((k : ℕ) → IsSome (tree.get nat_cmp t.far k) → place < k) → IsApart t → IsApart (with_near t (t.near ++ None ∷ []))
apart-push t place le below apart = record {
  free = λ q lt. nothing_at t.far place q below (omega (arith, length-append t.near (None ∷ [])));
}

-- ---- no slot at all
pub slots_of-none : (t : SlotMap) → t.near ≡ [] → t.far.entries ≡ [] → slots_of t ≡ empty
slots_of-none t e f =
    ap (λ xs. from_entries {R = nat_cmp} (near_entries 0 xs ++ t.far.entries)) e
    ∙ ap (λ (es : List (ℕ × Slot)). from_entries {R = nat_cmp} es) f

pub apart-none : (t : SlotMap) → t.far.entries ≡ [] → IsApart t
apart-none t f = record { free = λ q lt. ap (lookup (is_at (nat_cmp q))) f }
