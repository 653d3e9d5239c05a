-- Clauses that lie one after the other, as entries of a table.
use Rattle.std.proofs.Common.{◌≡◌, ℕ, zero, suc, ◌+◌, ◌-◌, ◌*◌, ◌<◌, ◌≤◌, false, List, [], ◌∷◌, ◌++◌, Option, Some, None, refl, sym, ◌∙◌, ap, subst, length, take, drop, get_or, arith, drop-cons}
use Rattle.std.specs.Option.{option_or, option_map, is_some}
use Rattle.std.specs.List.{slice_range, enumerate_from}
use Rattle.std.specs.FinMap.{get, len, from_entries, get-from_entries}
use Rattle.std.specs.Ordering.{nat_cmp}
use Rattle.std.specs.Map.{lookup}
use Rattle.std.specs.BTreeMap.{is_at}
use Rattle.std.specs.Cmp.{nat_cmp_total}
use Rattle.std.proofs.lemmas.List.{append_assoc, append-nil, drop_all, take_all, length-take-le}
use Rattle.std.proofs.lemmas.List.Elements.{All-take, All-drop}
use Rattle.dimacs.specs.logic.Literal.{Literal, Clause, var_of}
use Rattle.dimacs.specs.layout.Flat.{parts}
use Rattle.lrat_check.specs.declared.slot.Slot.{Slot}
use Rattle.lrat_check.specs.inner.Store.{clause_at, entries_of, near_entries, Tables, live_of, numbered, numbered_entries, place_of, ArePlaced, IsStore}
use Rattle.lrat_check.specs.inner.LiteralTable.{FitsTable, AllFit}
use Rattle.lrat_check.proofs.Counted.{counted_none, counted_new}
use Rattle.lrat_check.proofs.Formula.{clauses_more, find-past}
use Rattle.lrat_check.proofs.Slots.{near_at, get-live_of, placed_at, no_slot, no_place}

entries_of-push : (literals : List Literal) (number : ℕ → ℕ) (slots : List (Option Slot)) (n : ℕ) (s : Slot)
    → entries_of literals number n (slots ++ Some s ∷ []) ≡ entries_of literals number n slots ++ (number (n + length slots), clause_at literals s) ∷ []
entries_of-push literals number [] n s = ap (λ k. (number k, clause_at literals s) ∷ []) (omega arith)
entries_of-push literals number (None ∷ slots) n s =
    entries_of-push literals number slots (n + 1) s ∙ ap (λ k. entries_of literals number (n + 1) slots ++ (number k, clause_at literals s) ∷ []) (omega arith)
entries_of-push literals number (Some v ∷ slots) n s =
    ap (λ (es : List (ℕ × Clause)). (number n, clause_at literals v) ∷ es)
    (entries_of-push literals number slots (n + 1) s ∙ ap (λ k. entries_of literals number (n + 1) slots ++ (number k, clause_at literals s) ∷ []) (omega arith))

-- the part at a place, and those after it
parts_next : (xs : List Literal) (places : List ℕ) (i : ℕ) → i + 1 < length places
    → parts xs (drop i places) ≡ slice_range xs (get_or places i 0) (get_or places (i + 1) 0) ∷ parts xs (drop (i + 1) places)
parts_next xs places i lt =
    let next : i + 1 ≡ suc i = omega arith in
    let second : drop (suc i) places ≡ get_or places (suc i) 0 ∷ drop (suc (suc i)) places = drop-cons places (suc i) 0 (omega arith) in
    ap (parts xs) (drop-cons places i 0 (omega arith) ∙ ap (λ ps. get_or places i 0 ∷ ps) second)
    ∙ ap (λ ps. slice_range xs (get_or places i 0) (get_or places (suc i) 0) ∷ parts xs ps) (sym second)
    ∙ ap (λ k. slice_range xs (get_or places i 0) (get_or places k 0) ∷ parts xs (drop k places)) (sym next)

-- one slot more
pub slots_more : (xs : List Literal) (places : List ℕ) (near : List (Option Slot)) (i : ℕ) (s : Slot) → length near ≡ i + 1 → i + 1 < length places
    → s.place ≡ get_or places i 0 → s.len ≡ get_or places (i + 1) 0 - get_or places i 0
    → near_entries xs (near ++ Some s ∷ []) ++ enumerate_from (i + 1 + 1) (parts xs (drop (i + 1) places)) ≡ near_entries xs near ++ enumerate_from (i + 1) (parts xs (drop i places))
slots_more xs places near i s len lt at is =
    let rest : List (ℕ × Clause) = enumerate_from (i + 1 + 1) (parts xs (drop (i + 1) places)) in
    let clause : clause_at xs s ≡ slice_range xs (get_or places i 0) (get_or places (i + 1) 0) = ap (λ p. take s.len (drop p xs)) at ∙ ap (λ n. take n (drop (get_or places i 0) xs)) is in
    let number : 0 + length near ≡ i + 1 = omega arith in
    ap (λ (es : List (ℕ × Clause)). es ++ rest) (entries_of-push xs (λ n. n) near 0 s)
    ∙ append_assoc (near_entries xs near) ((0 + length near, clause_at xs s) ∷ []) rest
    ∙ ap (λ k. near_entries xs near ++ (k, clause_at xs s) ∷ rest) number
    ∙ ap (λ (C : Clause). near_entries xs near ++ (i + 1, C) ∷ rest) clause
    ∙ ap (λ cs. near_entries xs near ++ enumerate_from (i + 1) cs) (sym (parts_next xs places i lt))

one_place : (xs : List Literal) (places : List ℕ) (i : ℕ) → length places ≤ i + 1 → i < length places → parts xs (drop i places) ≡ []
one_place xs places i le lt = ap (parts xs) (drop-cons places i 0 lt ∙ ap (λ ps. get_or places i 0 ∷ ps) (drop_all (suc i) places (omega arith)))

-- no part is left after the last place
pub slots_all : (xs : List Literal) (places : List ℕ) (es : List (ℕ × Clause)) (i : ℕ) → length places ≤ i + 1 → i < length places → es ++ enumerate_from (i + 1) (parts xs (drop i places)) ≡ es
slots_all xs places es i le lt = ap (λ cs. es ++ enumerate_from (i + 1) cs) (one_place xs places i le lt) ∙ append-nil es

-- the clauses of a table alone
pub live_near : (t : Tables) (F : List Clause) → t.far.slots.items ≡ [] → near_entries t.literals t.near ≡ numbered_entries F → live_of t ≡ numbered F
live_near t F none same =
    ap (λ (es : List (ℕ × Clause)). from_entries {R = nat_cmp} (near_entries t.literals t.near ++ es)) (ap (entries_of t.literals (λ p. get_or t.far.numbers.items p 0) 0) none)
    ∙ ap (λ (es : List (ℕ × Clause)). from_entries {R = nat_cmp} es) (append-nil (near_entries t.literals t.near) ∙ same)

pub store_near : (t : Tables) → ArePlaced t.literals t.near → t.far.places.entries ≡ [] → t.far.numbers.items ≡ [] → t.far.slots.items ≡ [] → IsStore t
store_near t placed places numbers slots = record {
  near_placed = placed;
  far_placed = λ q s is. absurd (no_slot s (sym (ap (λ xs. get_or xs q None) slots) ∙ is));
  level = ap length numbers ∙ sym (ap length slots);
  found = λ q p f. absurd (no_place p (sym (nowhere places q) ∙ f));
  kept = λ q s is. absurd (no_slot s (sym (ap (λ xs. get_or xs q None) slots) ∙ is));
}
  where
    nowhere : t.far.places.entries ≡ [] → (q : ℕ) → place_of t.far q ≡ None
    nowhere none q = ap (lookup (is_at (nat_cmp q))) none

no_clause : (C : Clause) → None ≡ Some C → ⊥
no_clause C e = cc

-- a table that fits all literals fits each clause
pub near_fits : (t : Tables) (places : ℕ) → IsStore t → t.far.slots.items ≡ [] → FitsTable places t.literals → AllFit places (live_of t)
near_fits t places store none fits id C is = at (place_of t.far id) refl
  where
    at_slot : (o : Option Slot) → option_or (option_map (clause_at t.literals) o) None ≡ Some C → FitsTable places C
    at_slot None e = absurd (no_clause C e)
    at_slot (Some s) e =
        let same : clause_at t.literals s ≡ C = cc in
        subst (λ D. FitsTable places D) same (All-take (λ l. 2 * var_of l + 1 < places) s.len (drop s.place t.literals) (All-drop (λ l. 2 * var_of l + 1 < places) s.place t.literals fits))

    at : (o : Option ℕ) → place_of t.far id ≡ o → FitsTable places C
    at None e = at_slot (get_or t.near id None) (sym (get-live_of t id store ∙ ap (λ o. option_or (near_at t.literals t.near id) (placed_at t.literals t.far.slots.items o)) e) ∙ is)
    at (Some p) e = absurd (omega (arith, (store.found id p e).1, ap length none))

-- the next number is not live yet
is_new : (F : List Clause) (i : ℕ) → i ≤ length F → is_some (get (numbered (take i F)) (i + 1)) ≡ false
is_new F i le = ap is_some (get-from_entries nat_cmp_total (numbered_entries (take i F)) (i + 1) ∙ find-past (take i F) 1 (i + 1) (omega (arith, length-take-le i F le)))

-- as many clauses are live as there are in the list
pub len-numbered : (F : List Clause) → length F ≡ len (numbered F)
len-numbered F = at (length F) (omega arith) ∙ ap (λ cs. len (numbered cs)) (take_all (length F) F (omega arith))
  where
    at : (i : ℕ) → i ≤ length F → i ≡ len (numbered (take i F))
    at zero le = counted_none (numbered []) refl
    at (suc i) le =
        let more : i + 1 ≡ len (numbered (take (i + 1) F)) = counted_new (numbered (take i F)) (numbered (take (i + 1) F)) (i + 1) (get_or F i []) i (at i (omega arith)) (clauses_more F i (omega arith)) (is_new F i (omega arith)) in
        let next : i + 1 ≡ suc i = omega arith in
        subst (λ k. k ≡ len (numbered (take k F))) next more
