-- Compaction keeps the clauses, and reports exactly those that moved.
use Rattle.std.proofs.Common.{◌≡◌, ℕ, ◌+◌, ◌-◌, ◌<◌, ◌≤◌, List, [], ◌∷◌, ◌++◌, Option, Some, None, refl, sym, ◌∙◌, ap, subst, length, map, take, drop, arith, get_or, append_assoc, sum_by, length-append}
use Rattle.std.specs.Prelude.{T}
use Rattle.std.specs.List.{IsDistinct}
use Rattle.std.specs.Option.{option_or, option_map, IsSome}
use Rattle.std.specs.BTreeMap.{IsOrdered}
use Rattle.std.specs.FinMap.{get, entries, entries_sorted, get-entries, find, is_sorted}
use Rattle.std.specs.FinMap.Entries.{below_all}
use Rattle.std.specs.Ordering.{nat_cmp}
use Rattle.std.proofs.lemmas.List.{map-append, drop_at, take_all}
use Rattle.std.proofs.lemmas.List.Sums.{sum_by-cons}
use Rattle.std.proofs.lemmas.List.Elements.{Contains-get_or}
use Rattle.dimacs.specs.logic.Literal.{Literal, Clause, same}
use Rattle.clause_arena.specs.declared.reference.Ref.{Ref}
use Rattle.clause_arena.specs.declared.slot.Slot.{Slot}
use Rattle.clause_arena.specs.declared.slot_map.SlotMap.{SlotMap}
use Rattle.clause_arena.specs.Slots.{Slots}
use Rattle.clause_arena.specs.inner.Slots.{near_entries, slots_of, IsApart}
use Rattle.clause_arena.specs.Contents.{clause_at, value_at, entry_at, contents}
use Rattle.clause_arena.specs.inner.Contents.{slot_of, IsPlaced, IsArena}
use Rattle.clause_arena.specs.Compaction.{literals_of, literals_in, HasMoved, IsCompacted}
use Rattle.clause_arena.specs.inner.Relocation.{ref_of, refs_of, relocated, moves_from, moved_by}
use Rattle.clause_arena.proofs.ContentLemmas.{get-contents, length-clause_at, here, slot_found}
use Rattle.clause_arena.proofs.SortedLemmas.{both, first_of_both, second_of_both, entries-slots_of, entries-from_entries}
use Rattle.clause_arena.proofs.RelocationLemmas.{packed, packed_over, unpacked_none, moved_find, all_placed, placed_at, CameFrom, carried, packed_apart}
use Rattle.clause_arena.proofs.MoveLemmas.{IsTold, told_has_moved, moved_is_told, moves_rise}

-- the lists of the table and of the map, one after the other
pub refs_listed : (t : SlotMap) (old mid : List Ref) → IsApart t → IsOrdered nat_cmp t.far → mid ≡ old ++ map ref_of (near_entries 0 t.near)
    → mid ++ map ref_of t.far.entries ≡ old ++ refs_of (slots_of t)
refs_listed t old mid apart ordered e =
    ap (λ xs. xs ++ map ref_of t.far.entries) e
    ∙ append_assoc old (map ref_of (near_entries 0 t.near)) (map ref_of t.far.entries)
    ∙ ap (λ xs. old ++ xs) (sym (map-append ref_of (near_entries 0 t.near) t.far.entries) ∙ ap (map ref_of) (sym (entries-slots_of t apart ordered)))

-- ---- how many literals there are
below_entries : (ws : List Literal) (x : ℕ) (es : List (ℕ × Slot)) → T (below_all nat_cmp x es) → T (below_all nat_cmp x (map (entry_at ws) es))
below_entries ws x [] h = tt
below_entries ws x (e ∷ es) h = both _ _ (first_of_both _ _ h) (below_entries ws x es (second_of_both _ _ h))

sorted_entries : (ws : List Literal) (es : List (ℕ × Slot)) → T (is_sorted nat_cmp es) → T (is_sorted nat_cmp (map (entry_at ws) es))
sorted_entries ws [] h = tt
sorted_entries ws (e ∷ es) h = both _ _ (below_entries ws e.0 es (first_of_both _ _ h)) (sorted_entries ws es (second_of_both _ _ h))

length-relocated : (ws : List Literal) (es : List (ℕ × Slot)) → sum_by (λ (e : ℕ × (ℕ × Clause)). length e.1.1) (map (entry_at ws) es) ≡ length (relocated ws (map ref_of es))
length-relocated ws [] = refl
length-relocated ws (e ∷ es) =
    sum_by-cons (λ (e : ℕ × (ℕ × Clause)). length e.1.1) (entry_at ws e) (map (entry_at ws) es)
    ∙ ap (λ n. length (clause_at ws e.1) + n) (length-relocated ws es) ∙ sym (length-append (clause_at ws e.1) (relocated ws (map ref_of es)))

-- ---- an arena whose gaps are closed
module _ (ws : List Literal) (index : Slots) (arena : IsArena ws index) where
  abbrev literals : List Literal
  literals = relocated ws (refs_of index)

  abbrev moves : List (Ref × Ref)
  moves = moves_from 0 (refs_of index)

  abbrev after : Slots
  after = moved_by index moves

  literals-literals : literals_in (contents ws index) ≡ length literals
  literals-literals =
      ap (sum_by (λ (e : ℕ × (ℕ × Clause)). length e.1.1)) (entries-from_entries (map (entry_at ws) (entries index)) (sorted_entries ws (entries index) (entries_sorted index)))
      ∙ length-relocated ws (entries index)

  get-after : (q : ℕ) → get after q ≡ find nat_cmp q (packed 0 (entries index))
  get-after q =
      moved_find (entries index) 0 index q (entries_sorted index) (λ k s is. get-entries index k ∙ is)
      ∙ ap (option_or (find nat_cmp q (packed 0 (entries index)))) (get-entries index q)
      ∙ packed_over (entries index) 0 q

  came : (q : ℕ) (t : Slot) → get after q ≡ Some t → CameFrom ws literals (entries index) q t
  came q t is =
      carried ws (entries index) [] 0 refl (all_placed ws (entries index) (entries_sorted index) (λ k s e. arena.placed k s (get-entries index k ∙ e)))
      q t (sym (get-after q) ∙ is)

  pub arena-compacted : IsArena literals after
  arena-compacted = record {
    placed = λ n s e. (came n s e).carried.within;
    distinct = λ n s e.
        let from = came n s e in
        subst (λ C. IsDistinct same C) (sym from.carried.literals) (arena.distinct n from.slot (get-entries index n ∙ from.found));
    apart = λ n m k s t e f a b c d. packed_apart (entries index) 0 n m k s t (sym (get-after n) ∙ e) (sym (get-after m) ∙ f) a b c d;
  }

  abbrev clause_of : ℕ × Clause → Clause
  clause_of c = c.1

  kept_at : (n : ℕ) (o : Option Slot) → get after n ≡ o → option_map clause_of (option_map (value_at literals) o) ≡ option_map clause_of (option_map (value_at ws) (get index n))
  kept_at n None e =
      ap (λ o. option_map clause_of (option_map (value_at ws) o)) (sym (get-entries index n ∙ unpacked_none (entries index) 0 n (sym (get-after n) ∙ e)))
  kept_at n (Some t) e =
      let from = came n t e in
      ap Some from.carried.literals ∙ ap (λ o. option_map clause_of (option_map (value_at ws) o)) (sym (get-entries index n ∙ from.found))

  kept : (n : ℕ) → literals_of (contents literals after) n ≡ literals_of (contents ws index) n
  kept n =
      ap (option_map clause_of) (get-contents literals after n) ∙ kept_at n (get after n) refl ∙ ap (option_map clause_of) (sym (get-contents ws index n))

  closed : (n p : ℕ) (C : Clause) → get (contents literals after) n ≡ Some (p, C) → p + length C ≤ literals_in (contents ws index)
  closed n p C e =
      let f = slot_found literals (get after n) p C (sym (get-contents literals after n) ∙ e) in
      let within = (came n f.slot f.is).carried.within in
      omega (arith, literals-literals, length-clause_at literals f.slot within, ap length f.literals, f.place)

  -- a move that is told
  moved_by_told : (from to : Ref) → IsTold (entries index) 0 from to → HasMoved (contents ws index) (contents literals after) from to
  moved_by_told from to h =
      let at = get-entries index from.number ∙ h.before in
      let is = get-after from.number ∙ h.after in
      let origin = came from.number (slot_of to) is in
      let same_slot : origin.slot ≡ slot_of from = let g : Some origin.slot ≡ Some (slot_of from) = sym origin.found ∙ h.before in cc in
      let long = length-clause_at ws (slot_of from) (arena.placed from.number (slot_of from) at) in
      record {
        literals = clause_at ws (slot_of from);
        number = h.number;
        before = (get-contents ws index from.number ∙ ap (option_map (value_at ws)) at, sym long);
        after = (
          ap (get (contents literals after)) h.number ∙ get-contents literals after from.number ∙ ap (option_map (value_at literals)) is
              ∙ ap (λ (C : Clause). Some (to.place, C)) (origin.carried.literals ∙ ap (clause_at ws) same_slot),
          origin.carried.len ∙ ap (λ (s : Slot). s.len) same_slot ∙ sym long,
        );
        elsewhere = h.elsewhere;
      }

  -- a clause that has moved
  told_by_moved : (from to : Ref) → HasMoved (contents ws index) (contents literals after) from to → IsTold (entries index) 0 from to
  told_by_moved from to h = record {
    number = h.number;
    before = sym (get-entries index from.number) ∙ (here ws index (contents ws index) refl arena from h.literals h.before).slot;
    after = sym (get-after from.number) ∙ ap (get after) (sym h.number) ∙ (here literals after (contents literals after) refl arena-compacted to h.literals h.after).slot;
    elsewhere = h.elsewhere;
  }

  pub compacted : IsCompacted (contents ws index) (contents literals after) moves
  compacted = record {
    kept = kept;
    told = λ from to h. moved_by_told from to (told_has_moved (entries index) 0 from to (entries_sorted index) h);
    all = λ from to h. moved_is_told (entries index) 0 from to (told_by_moved from to h);
    rising = moves_rise (entries index) 0 (entries_sorted index);
    closed = closed;
  }

  -- what the code asks on the way
  pub refs_placed : (i : ℕ) (d : Ref) → i < length (refs_of index) → IsPlaced ws (slot_of (get_or (refs_of index) i d))
  refs_placed = placed_at ws (entries index) (all_placed ws (entries index) (entries_sorted index) (λ k s e. arena.placed k s (get-entries index k ∙ e)))

  pub moves_live : (i : ℕ) (d : Ref × Ref) → i < length moves → IsSome (get index (get_or moves i d).1.number)
  moves_live i d lt =
      let a = get_or moves i d in
      let h = told_has_moved (entries index) 0 a.0 a.1 (entries_sorted index) (Contains-get_or moves i d lt) in
      subst (λ o. IsSome o) (sym (ap (get index) h.number ∙ get-entries index a.0.number ∙ h.before)) refl

  pub moves_placed : (i : ℕ) (d : Ref × Ref) → i < length moves → (get_or moves i d).1.place ≤ length literals
  moves_placed i d lt =
      let a = get_or moves i d in
      let h = told_has_moved (entries index) 0 a.0 a.1 (entries_sorted index) (Contains-get_or moves i d lt) in
      omega (arith, (came a.0.number (slot_of a.1) (get-after a.0.number ∙ h.after)).carried.within)

-- what stands after the first of a list
pub lent : (D old more : List (Ref × Ref)) (n : ℕ) → n ≡ length old → D ≡ old ++ more → take (length D - n) (drop n D) ≡ more
lent D old more n e is =
    ap (λ xs. take (length xs - n) (drop n xs)) is
    ∙ ap (take (length (old ++ more) - n)) (ap (λ k. drop k (old ++ more)) e ∙ drop_at old more (length old) refl)
    ∙ take_all (length (old ++ more) - n) more (omega (arith, length-append old more))
