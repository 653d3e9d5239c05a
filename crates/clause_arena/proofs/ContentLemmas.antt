-- The clauses that slots cut out of the literals, after a clause is added or removed.
use Rattle.std.proofs.Common.{◌≡◌, ℕ, ◌⊎◌, inl, inr, Bool, true, false, List, [], ◌∷◌, ◌++◌, Option, Some, None, cond, refl, sym, ◌∙◌, ap, subst, length, map, take, drop, arith, length-drop, length-append}
use Rattle.std.specs.Option.{option_map}
use Rattle.std.specs.List.{IsDistinct}
use Rattle.std.specs.FinMap.{get, insert, remove, empty, entries, find, get-from_entries, get-entries, get-insert, get-remove, get-empty, same_map, nat_cmp-IsAntisymmetric}
use Rattle.std.specs.Ordering.{nat_cmp, eq_by_cmp}
use Rattle.std.specs.Cmp.{nat_cmp_total}
use Rattle.std.proofs.lemmas.List.{drop-append-le, take-append-le, take_all, length-take-le, drop_at}
use Rattle.dimacs.specs.logic.Literal.{Literal, Clause, same}
use Rattle.clause_arena.specs.declared.reference.Ref.{Ref}
use Rattle.clause_arena.specs.declared.slot.Slot.{Slot}
use Rattle.clause_arena.specs.Slots.{Slots}
use Rattle.clause_arena.specs.Clauses.{Clauses, RefersTo, IsLive}
use Rattle.clause_arena.specs.Contents.{clause_at, value_at, entry_at, contents}
use Rattle.clause_arena.specs.inner.Contents.{IsPlaced, slot_of, IsArena}
use Rattle.clause_arena.proofs.SlotLemmas.{same_number}

-- ---- what the contents have at a number
find_entry : (ws : List Literal) (q : ℕ) (es : List (ℕ × Slot)) → find nat_cmp q (map (entry_at ws) es) ≡ option_map (value_at ws) (find nat_cmp q es)
find_entry ws q [] = refl
find_entry ws q (e ∷ es) =
    elim (eq_by_cmp nat_cmp q e.0) as (λ b. cond b (Some (value_at ws e.1)) (find nat_cmp q (map (entry_at ws) es)) ≡ option_map (value_at ws) (cond b (Some e.1) (find nat_cmp q es))) [
      | true ↦ refl
      | false ↦ find_entry ws q es
    ]

pub get-contents : (ws : List Literal) (index : Slots) (q : ℕ) → get (contents ws index) q ≡ option_map (value_at ws) (get index q)
get-contents ws index q =
    get-from_entries nat_cmp_total (map (entry_at ws) (entries index)) q
    ∙ find_entry ws q (entries index)
    ∙ ap (option_map (value_at ws)) (sym (get-entries index q))

pub same_clauses : (m n : Clauses) → ((q : ℕ) → get m q ≡ get n q) → m ≡ n
same_clauses m n e = same_map nat_cmp_total nat_cmp-IsAntisymmetric m n e

pub record IsFound (ws : List Literal) (o : Option Slot) (p : ℕ) (C : Clause) : Type 0 where
  pub slot : Slot
  pub is : o ≡ Some slot
  pub place : slot.place ≡ p
  pub literals : clause_at ws slot ≡ C

pub slot_found : (ws : List Literal) (o : Option Slot) (p : ℕ) (C : Clause) → option_map (value_at ws) o ≡ Some (p, C) → IsFound ws o p C
slot_found ws None p C e = absurd (let h : None ≡ Some (p, C) = e in cc)
slot_found ws (Some s) p C e =
    let f : ◌≡◌ {A = ℕ × Clause} (s.place, clause_at ws s) (p, C) = cc in
    record { slot = s; is = refl; place = ap (λ (x : ℕ × Clause). x.0) f; literals = ap (λ (x : ℕ × Clause). x.1) f }

-- as long as its slot says
pub length-clause_at : (ws : List Literal) (s : Slot) → IsPlaced ws s → length (clause_at ws s) ≡ s.len
length-clause_at ws s within = length-take-le s.len (drop s.place ws) (omega (arith, length-drop s.place ws))

-- ---- where a clause that the contents hold stands, and what it is
pub record IsHere (ws : List Literal) (index : Slots) (at : Ref) (C : Clause) : Type 0 where
  pub slot : get index at.number ≡ Some (slot_of at)
  pub literals : clause_at ws (slot_of at) ≡ C

module _ (ws : List Literal) (index : Slots) (v : Clauses) (view : contents ws index ≡ v) (arena : IsArena ws index) (at : Ref) where
  pub here : (C : Clause) → RefersTo v at C → IsHere ws index at C
  here C h =
      let f = slot_found ws (get index at.number) at.place C (sym (get-contents ws index at.number) ∙ ap (λ m. get m at.number) view ∙ h.0) in
      let within = arena.placed at.number f.slot f.is in
      let long : f.slot.len ≡ at.len = sym (length-clause_at ws f.slot within) ∙ ap length f.literals ∙ sym h.1 in
      let is : f.slot ≡ slot_of at = λ i. record { place = f.place i; len = long i } in
      record { slot = f.is ∙ ap Some is; literals = ap (clause_at ws) (sym is) ∙ f.literals }

  pub placed_here : IsLive v at → IsPlaced ws (slot_of at)
  placed_here l = arena.placed at.number (slot_of at) (here l.0 l.1).slot

  pub distinct_here : IsLive v at → IsDistinct same (clause_at ws (slot_of at))
  distinct_here l = arena.distinct at.number (slot_of at) (here l.0 l.1).slot

  pub length_here : IsLive v at → length (clause_at ws (slot_of at)) ≡ at.len
  length_here l = length-clause_at ws (slot_of at) (placed_here l)

-- what a look-up finds
pub found_here : (ws : List Literal) (index : Slots) (v : Clauses) → contents ws index ≡ v → IsArena ws index → (at : Ref) → get index at.number ≡ Some (slot_of at) → IsLive v at
found_here ws index v view arena at e = (
  clause_at ws (slot_of at),
  (
    ap (λ m. get m at.number) (sym view) ∙ get-contents ws index at.number ∙ ap (option_map (value_at ws)) e,
    sym (length-clause_at ws (slot_of at) (arena.placed at.number (slot_of at) e)),
  ),
)

pub not_found : (ws : List Literal) (index : Slots) (v : Clauses) (n : ℕ) → contents ws index ≡ v → get index n ≡ None → get v n ≡ None
not_found ws index v n view e = ap (λ m. get m n) (sym view) ∙ get-contents ws index n ∙ ap (option_map (value_at ws)) e

none_in : (ws : List Literal) (o : Option Slot) → option_map (value_at ws) o ≡ None → o ≡ None
none_in ws None e = refl
none_in ws (Some s) e = cc

pub not_live : (ws : List Literal) (index : Slots) (v : Clauses) (n : ℕ) → contents ws index ≡ v → get v n ≡ None → get index n ≡ None
not_live ws index v n view e = none_in ws (get index n) (sym (get-contents ws index n) ∙ ap (λ m. get m n) view ∙ e)

-- ---- no clause
pub contents-empty : (ws : List Literal) → contents ws empty ≡ empty
contents-empty ws = same_clauses _ _ (λ q. get-contents ws empty q ∙ ap (option_map (value_at ws)) (get-empty nat_cmp q) ∙ sym (get-empty nat_cmp q))

none_at : (q : ℕ) (s : Slot) → get (empty {X = Slot} {R = nat_cmp}) q ≡ Some s → ⊥
none_at q s e = let h : None ≡ Some s = sym (get-empty nat_cmp q) ∙ e in cc

pub arena-empty : (ws : List Literal) → IsArena ws empty
arena-empty ws = record {
  placed = λ n s e. absurd (none_at n s e);
  distinct = λ n s e. absurd (none_at n s e);
  apart = λ n m k s t e. absurd (none_at n s e);
}

-- ---- literals that come after
clause_kept : (ws more : List Literal) (s : Slot) → IsPlaced ws s → clause_at (ws ++ more) s ≡ clause_at ws s
clause_kept ws more s within =
    ap (take s.len) (drop-append-le s.place ws more (omega arith)) ∙ take-append-le s.len (drop s.place ws) more (omega (arith, length-drop s.place ws))

pub same_values : (ws vs : List Literal) (o : Option Slot) → ((s : Slot) → o ≡ Some s → clause_at vs s ≡ clause_at ws s) → option_map (value_at vs) o ≡ option_map (value_at ws) o
same_values ws vs None h = refl
same_values ws vs (Some s) h = ap (λ (C : Clause). Some (s.place, C)) (h s refl)

-- ---- a clause that is added
either : (b : Bool) (s t : Slot) (o : Option Slot) → cond b (Some t) o ≡ Some s → ((b ≡ true) × (s ≡ t)) ⊎ ((b ≡ false) × (o ≡ Some s))
either true s t o e = inl (refl, cc)
either false s t o e = inr (refl, e)

module _ (ws lits : List Literal) (index : Slots) (arena : IsArena ws index) (number : ℕ) (new : Slot) (at_end : new.place ≡ length ws) (long : new.len ≡ length lits) where
  -- the new clause, or one from before
  which : (n : ℕ) (s : Slot) → get (insert index number new) n ≡ Some s → ((n ≡ number) × (s ≡ new)) ⊎ (get index n ≡ Some s)
  which n s e = elim (either (eq_by_cmp nat_cmp n number) s new (get index n) (sym (get-insert nat_cmp_total index number new n) ∙ e)) [
    | inl u ↦ inl (same_number n number u.0, u.1)
    | inr u ↦ inr u.1
  ]

  clause_new : clause_at (ws ++ lits) new ≡ lits
  clause_new = ap (λ p. take new.len (drop p (ws ++ lits))) at_end ∙ ap (take new.len) (drop_at ws lits (length ws) refl) ∙ take_all new.len lits (omega arith)

  pub arena-add : IsDistinct same lits → IsArena (ws ++ lits) (insert index number new)
  arena-add differ = record {
    placed = λ n s e. elim (which n s e) [
      | inl u ↦ subst (λ x. IsPlaced (ws ++ lits) x) (sym u.1) (omega (arith, length-append ws lits))
      | inr u ↦ let f = arena.placed n s u in omega (arith, length-append ws lits)
    ];
    distinct = λ n s e. elim (which n s e) [
      | inl u ↦ subst (λ x. IsDistinct same (clause_at (ws ++ lits) x)) (sym u.1) (subst (λ C. IsDistinct same C) (sym clause_new) differ)
      | inr u ↦ subst (λ C. IsDistinct same C) (sym (clause_kept ws lits s (arena.placed n s u))) (arena.distinct n s u)
    ];
    apart = λ n m k s t e f a b c d. elim (which n s e) [
      | inl u ↦ elim (which m t f) [
        | inl w ↦ u.0 ∙ sym w.0
        | inr w ↦ let g = arena.placed m t w in let z : s.place ≡ new.place = ap (λ (x : Slot). x.place) u.1 in absurd (omega arith)
      ]
      | inr u ↦ elim (which m t f) [
        | inl w ↦ let g = arena.placed n s u in let z : t.place ≡ new.place = ap (λ (x : Slot). x.place) w.1 in absurd (omega arith)
        | inr w ↦ arena.apart n m k s t u w a b c d
      ]
    ];
  }

  added : (b : Bool) (o : Option Slot) → ((s : Slot) → o ≡ Some s → IsPlaced ws s) → option_map (value_at (ws ++ lits)) (cond b (Some new) o) ≡ cond b (Some (new.place, lits)) (option_map (value_at ws) o)
  added true o h = ap (λ (C : Clause). Some (new.place, C)) clause_new
  added false o h = same_values ws (ws ++ lits) o (λ s e. clause_kept ws lits s (h s e))

  pub contents-add : contents (ws ++ lits) (insert index number new) ≡ insert (contents ws index) number (new.place, lits)
  contents-add = same_clauses _ _ (λ q.
      get-contents (ws ++ lits) (insert index number new) q
      ∙ ap (option_map (value_at (ws ++ lits))) (get-insert nat_cmp_total index number new q)
      ∙ added (eq_by_cmp nat_cmp q number) (get index q) (arena.placed q)
      ∙ sym (get-insert nat_cmp_total (contents ws index) number (new.place, lits) q
      ∙ ap (cond (eq_by_cmp nat_cmp q number) (Some (new.place, lits))) (get-contents ws index q)))

-- ---- a clause that is taken out
was : (b : Bool) (o : Option Slot) (s : Slot) → cond b None o ≡ Some s → o ≡ Some s
was true o s h = cc
was false o s h = h

taken : (ws : List Literal) (b : Bool) (o : Option Slot) → option_map (value_at ws) (cond b None o) ≡ cond b None (option_map (value_at ws) o)
taken ws true o = refl
taken ws false o = refl

module _ (ws : List Literal) (index : Slots) (number : ℕ) where
  left : (n : ℕ) (s : Slot) → get (remove index number) n ≡ Some s → get index n ≡ Some s
  left n s e = was (eq_by_cmp nat_cmp n number) (get index n) s (sym (get-remove nat_cmp_total index number n) ∙ e)

  pub arena-remove : IsArena ws index → IsArena ws (remove index number)
  arena-remove arena = record {
    placed = λ n s e. arena.placed n s (left n s e);
    distinct = λ n s e. arena.distinct n s (left n s e);
    apart = λ n m k s t e f. arena.apart n m k s t (left n s e) (left m t f);
  }

  pub contents-remove : contents ws (remove index number) ≡ remove (contents ws index) number
  contents-remove = same_clauses _ _ (λ q.
      get-contents ws (remove index number) q
      ∙ ap (option_map (value_at ws)) (get-remove nat_cmp_total index number q)
      ∙ taken ws (eq_by_cmp nat_cmp q number) (get index q)
      ∙ sym (get-remove nat_cmp_total (contents ws index) number q ∙ ap (cond (eq_by_cmp nat_cmp q number) None) (get-contents ws index q)))
