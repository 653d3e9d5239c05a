-- The slots of a table and of a B-tree are listed in the order of numbers.
use Rattle.std.proofs.Common.{◌≡◌, ℕ, ◌+◌, ◌<◌, ◌≤◌, inl, inr, Bool, true, false, List, [], ◌∷◌, ◌++◌, Option, Some, None, cond, refl, sym, ◌∙◌, ap, subst, length, arith}
use Rattle.std.specs.Prelude.{T, ◌&&◌}
use Rattle.std.specs.List.{AllByRecursion}
use Rattle.std.specs.List.Sorted.{IsStrictlySortedBy}
use Rattle.std.specs.Map.{lookup, keys_of}
use Rattle.std.specs.BTreeMap.{IsOrdered, is_at}
use Rattle.std.specs.FinMap.{entries, from_entries, from_sorted, find, is_sorted, get-from_entries, get-from_sorted, entries-from_sorted, same_map, nat_cmp-IsAntisymmetric}
use Rattle.std.specs.FinMap.Entries.{below_all}
use Rattle.std.specs.Ordering.{nat_cmp, eq_by_cmp, is_lt}
use Rattle.std.specs.declared.cmp.Ordering.{Ordering}
use Rattle.std.specs.declared.cmp.Ordering.TheVariants.{Less, Equal, Greater}
use Rattle.std.specs.Cmp.{nat_cmp_total, nat_cmp_is, ranked}
use Rattle.std.proofs.lemmas.Bool.Decides.{leb_tells}
use Rattle.clause_arena.specs.declared.slot.Slot.{Slot}
use Rattle.clause_arena.specs.declared.slot_map.SlotMap.{SlotMap}
use Rattle.clause_arena.specs.inner.Slots.{near_entries, slots_of, IsApart}
use Rattle.clause_arena.proofs.SlotLemmas.{same_test, same_number}

-- ---- tests
pub both : (a b : Bool) → T a → T b → T (a && b)
both true b p q = q
both false b p q = p

pub first_of_both : (a b : Bool) → T (a && b) → T a
first_of_both true b p = tt
first_of_both false b p = p

pub second_of_both : (a b : Bool) → T (a && b) → T b
second_of_both true b p = p
second_of_both false b p = absurd p

less_by : (x y : ℕ) (r : Ordering) → r ≡ nat_cmp x y → T (is_lt r) → x < y
less_by x y Less e h = ranked x y Less e
less_by x y Equal e h = absurd h
less_by x y Greater e h = absurd h

less_from : (x y : ℕ) → T (is_lt (nat_cmp x y)) → x < y
less_from x y h = less_by x y (nat_cmp x y) refl h

less_to : (x y : ℕ) → x < y → T (is_lt (nat_cmp x y))
less_to x y h = subst (λ r. T (is_lt r)) (nat_cmp_is x y Less h) tt

-- ---- in a list of entries by rising numbers
-- each number is above x
pub found_above : (x : ℕ) (es : List (ℕ × Slot)) → T (below_all nat_cmp x es) → (q : ℕ) (s : Slot) → find nat_cmp q es ≡ Some s → x < q
found_above x [] h q s e = cc
found_above x (e ∷ es) h q s is =
    elim (eq_by_cmp nat_cmp q e.0) as (λ b. eq_by_cmp nat_cmp q e.0 ≡ b → cond b (Some e.1) (find nat_cmp q es) ≡ Some s → x < q) [
      | true ↦ λ t is. let here : q ≡ e.0 = same_number q e.0 t in let lt = less_from x e.0 (first_of_both _ _ h) in omega arith
      | false ↦ λ t is. found_above x es (second_of_both _ _ h) q s is
    ] refl is

none_here : (q : ℕ) (es : List (ℕ × Slot)) (o : Option Slot) → ((s : Slot) → o ≡ Some s → ⊥) → o ≡ None
none_here q es None h = refl
none_here q es (Some s) h = absurd (h s refl)

-- no number stands twice
pub none_after : (x : ℕ) (es : List (ℕ × Slot)) → T (below_all nat_cmp x es) → find nat_cmp x es ≡ None
none_after x es h = none_here x es (find nat_cmp x es) (λ s e. let lt = found_above x es h x s e in absurd (omega arith))

-- ---- listing
abbrev KeysFrom : ℕ → List (ℕ × Slot) → Type 0
KeysFrom n [] = Unit {0}
KeysFrom n (e ∷ es) = (n ≤ e.0) × KeysFrom n es

keys_weaker : (n m : ℕ) (es : List (ℕ × Slot)) → n ≤ m → KeysFrom m es → KeysFrom n es
keys_weaker n m [] le h = tt
keys_weaker n m (e ∷ es) le h = let at = h.0 in (omega arith, keys_weaker n m es le h.1)

below_keys : (n m : ℕ) (es : List (ℕ × Slot)) → n < m → KeysFrom m es → T (below_all nat_cmp n es)
below_keys n m [] lt h = tt
below_keys n m (e ∷ es) lt h = let at = h.0 in both _ _ (less_to n e.0 (omega arith)) (below_keys n m es lt h.1)

pub record IsListed (n : ℕ) (es : List (ℕ × Slot)) : Type 0 where
  pub from : KeysFrom n es
  pub sorted : T (is_sorted nat_cmp es)

listed : (near : List (Option Slot)) (n m : ℕ) (es : List (ℕ × Slot)) → n + length near ≡ m → IsListed m es → IsListed n (near_entries n near ++ es)
listed [] n m es e h = record { from = keys_weaker n m es (omega arith) h.from; sorted = h.sorted }
listed (None ∷ near) n m es e h =
    let rest = listed near (n + 1) m es (omega arith) h in
    record { from = keys_weaker n (n + 1) (near_entries (n + 1) near ++ es) (omega arith) rest.from; sorted = rest.sorted }
listed (Some s ∷ near) n m es e h =
    let rest = listed near (n + 1) m es (omega arith) h in
    record {
      from = (omega arith, keys_weaker n (n + 1) (near_entries (n + 1) near ++ es) (omega arith) rest.from);
      sorted = both _ _ (below_keys n (n + 1) (near_entries (n + 1) near ++ es) (omega arith) rest.from) rest.sorted;
    }

le_unless : (n m : ℕ) → (m < n → ⊥) → n ≤ m
le_unless n m h = elim (leb_tells n m) [ inl l ↦ l.1 | inr l ↦ absurd (h l.1) ]

some_not_none : (s : Slot) → Some s ≡ None → ⊥
some_not_none s e = cc

-- what no number below n finds has keys from n on
keys_beyond : (n : ℕ) (es : List (ℕ × Slot)) → ((q : ℕ) → q < n → lookup (is_at (nat_cmp q)) es ≡ None) → KeysFrom n es
keys_beyond n [] h = tt
keys_beyond n (e ∷ es) h = (
  le_unless n e.0 (λ lt. some_not_none e.1 (sym (ap (λ b. cond b (Some e.1) (lookup (is_at (nat_cmp e.0)) es)) (same_test e.0 e.0 refl)) ∙ h e.0 lt)),
  keys_beyond n es (λ q lt.
      elim (is_at (nat_cmp q) e.0) as (λ b. cond b (Some e.1) (lookup (is_at (nat_cmp q)) es) ≡ None → lookup (is_at (nat_cmp q)) es ≡ None) [
        | true ↦ λ i. absurd (some_not_none e.1 i)
        | false ↦ λ i. i
      ] (h q lt)),
)

all_below : (x : ℕ) (es : List (ℕ × Slot)) → AllByRecursion (λ y. nat_cmp x y ≡ Less) (keys_of es) → T (below_all nat_cmp x es)
all_below x [] h = tt
all_below x (e ∷ es) h = both _ _ (subst (λ r. T (is_lt r)) (sym h.0) tt) (all_below x es h.1)

sorted_entries : (es : List (ℕ × Slot)) → IsStrictlySortedBy nat_cmp (keys_of es) → T (is_sorted nat_cmp es)
unfolding IsStrictlySortedBy
sorted_entries [] h = tt
sorted_entries (e ∷ es) h = both _ _ (all_below e.0 es h.0) (sorted_entries es h.1)

pub sorted_all : (t : SlotMap) → IsApart t → IsOrdered nat_cmp t.far → T (is_sorted nat_cmp (near_entries 0 t.near ++ t.far.entries))
sorted_all t apart ordered =
    (listed t.near 0 (length t.near) t.far.entries (omega arith) (record {
      from = keys_beyond (length t.near) t.far.entries (λ q lt. apart.free q lt);
      sorted = sorted_entries t.far.entries ordered;
    })).sorted

pub entries-from_entries : {X : Type 0} (es : List (ℕ × X)) → T (is_sorted nat_cmp es) → entries (from_entries {R = nat_cmp} es) ≡ es
entries-from_entries es sorted =
    ap entries (same_map nat_cmp_total nat_cmp-IsAntisymmetric (from_entries es) (from_sorted es) (λ q. get-from_entries nat_cmp_total es q ∙ sym (get-from_sorted nat_cmp es q sorted)))
    ∙ entries-from_sorted nat_cmp es sorted

pub entries-slots_of : (t : SlotMap) → IsApart t → IsOrdered nat_cmp t.far → entries (slots_of t) ≡ near_entries 0 t.near ++ t.far.entries
entries-slots_of t apart ordered = entries-from_entries (near_entries 0 t.near ++ t.far.entries) (sorted_all t apart ordered)
