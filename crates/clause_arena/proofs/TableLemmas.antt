-- The dense table of slots: a flat vector, followed by blocks.
use Rattle.std.proofs.Common.{◌≡◌, ℕ, ◌+◌, ◌-◌, ◌<◌, ◌≤◌, List, [], ◌∷◌, ◌++◌, Option, Some, None, sym, ◌∙◌, ap, length, map, arith, set, append_assoc}
use Rattle.std.proofs.lemmas.List.{map-append, set-append_left, set-append_right}
use Rattle.clause_arena.specs.declared.reference.Ref.{Ref}
use Rattle.clause_arena.specs.declared.slot.Slot.{Slot}
use Rattle.clause_arena.specs.inner.Relocation.{ref_of}
use Rattle.clause_arena.specs.inner.Slots.{near_entries}

-- ---- a place of the table
module _ (flat rest slots : List (Option Slot)) (q : ℕ) (o : Option Slot) (view : flat ++ rest ≡ slots) where
  pub set_flat : (v : Option Slot) → q < length flat → v ≡ o → set flat q v ++ rest ≡ set slots q o
  set_flat v lt e =
      sym (set-append_left flat rest q v lt) ∙ ap (λ (xs : List (Option Slot)). set xs q v) view ∙ ap (λ (x : Option Slot). set slots q x) e

  pub set_rest : (n : ℕ) (new : List (Option Slot)) → length flat ≡ n → n ≤ q → new ≡ set rest (q - n) o → flat ++ new ≡ set slots q o
  set_rest n new len le e =
      ap (λ (xs : List (Option Slot)). flat ++ xs) e ∙ sym (set-append_right flat rest n q o len le) ∙ ap (λ (xs : List (Option Slot)). set xs q o) view

-- ---- what is listed
near_entries-append : (xs ys : List (Option Slot)) (n m : ℕ) → n + length xs ≡ m → near_entries n (xs ++ ys) ≡ near_entries n xs ++ near_entries m ys
near_entries-append [] ys n m e = ap (λ (k : ℕ). near_entries k ys) (let same : n ≡ m = omega arith in same)
near_entries-append (None ∷ xs) ys n m e = near_entries-append xs ys (n + 1) m (omega arith)
near_entries-append (Some s ∷ xs) ys n m e = ap (λ (es : List (ℕ × Slot)). (n, s) ∷ es) (near_entries-append xs ys (n + 1) m (omega arith))

-- the rest is listed after the flat places
pub listed_rest : (flat rest slots : List (Option Slot)) (n : ℕ) (old mid new : List Ref) → flat ++ rest ≡ slots → length flat ≡ n
    → mid ≡ old ++ map ref_of (near_entries 0 flat) → new ≡ mid ++ map ref_of (near_entries n rest) → new ≡ old ++ map ref_of (near_entries 0 slots)
listed_rest flat rest slots n old mid new view len first second =
    second
    ∙ ap (λ (xs : List Ref). xs ++ map ref_of (near_entries n rest)) first
    ∙ append_assoc old (map ref_of (near_entries 0 flat)) (map ref_of (near_entries n rest))
    ∙ ap (λ (xs : List Ref). old ++ xs) (sym (map-append ref_of (near_entries 0 flat) (near_entries n rest)))
    ∙ ap (λ (es : List (ℕ × Slot)). old ++ map ref_of es) (sym (near_entries-append flat rest 0 n (omega arith)) ∙ ap (near_entries 0) view)
