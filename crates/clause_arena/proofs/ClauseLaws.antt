-- Laws of arenas for the crates above: which clause a reference refers to after each call.
use Rattle.std.proofs.Common.{◌≡◌, ◌≢◌, ℕ, ◌⊎◌, inl, inr, List, Option, Some, None, cond, refl, sym, ◌∙◌, ap, subst, length, swap, Contains}
use Rattle.std.specs.Option.{option_map}
use Rattle.std.specs.FinMap.{get, insert, remove, empty, get-insert, get-remove, get-empty}
use Rattle.std.specs.Ordering.{nat_cmp}
use Rattle.std.specs.Cmp.{nat_cmp_total}
use Rattle.std.proofs.lemmas.Bool.{cases_eq}
use Rattle.std.proofs.lemmas.List.Edits.{length-swap}
use Rattle.dimacs.specs.logic.Literal.{Clause}
use Rattle.clause_arena.specs.declared.reference.Ref.{Ref}
use Rattle.clause_arena.specs.Clauses.{Clauses, live_of, RefersTo, IsLive}
use Rattle.clause_arena.specs.Compaction.{IsCompacted}
use Rattle.clause_arena.proofs.SlotLemmas.{same_test, apart_test}

-- ---- one number
pub get-insert_same : (m : Clauses) (n : ℕ) (v : ℕ × Clause) → get (insert m n v) n ≡ Some v
get-insert_same m n v = get-insert nat_cmp_total m n v n ∙ ap (λ b. cond b (Some v) (get m n)) (same_test n n refl)

pub get-insert_other : (m : Clauses) (n q : ℕ) (v : ℕ × Clause) → q ≢ n → get (insert m n v) q ≡ get m q
get-insert_other m n q v ne = get-insert nat_cmp_total m n v q ∙ ap (λ b. cond b (Some v) (get m q)) (apart_test q n ne)

pub get-remove_same : (m : Clauses) (n : ℕ) → get (remove m n) n ≡ None
get-remove_same m n = get-remove nat_cmp_total m n n ∙ ap (λ b. cond b None (get m n)) (same_test n n refl)

pub get-remove_other : (m : Clauses) (n q : ℕ) → q ≢ n → get (remove m n) q ≡ get m q
get-remove_other m n q ne = get-remove nat_cmp_total m n q ∙ ap (λ b. cond b None (get m q)) (apart_test q n ne)

same_pair : (p q : ℕ) (C D : Clause) (o : Option (ℕ × Clause)) → o ≡ Some (p, C) → o ≡ Some (q, D) → (p ≡ q) × (C ≡ D)
same_pair p q C D o e f =
    let h : ◌≡◌ {A = ℕ × Clause} (p, C) (q, D) = let g : Some (p, C) ≡ Some (q, D) = sym e ∙ f in cc in
    (ap (λ (x : ℕ × Clause). x.0) h, ap (λ (x : ℕ × Clause). x.1) h)

-- one clause stands at a place
pub stands_once : (m : Clauses) (at : Ref) (C D : Clause) → RefersTo m at C → RefersTo m at D → C ≡ D
stands_once m at C D h g = (same_pair at.place at.place C D (get m at.number) h.0 g.0).1

-- a clause stands at one place
pub stands_there : (m : Clauses) (at to : Ref) (C D : Clause) → RefersTo m at C → RefersTo m to D → at.number ≡ to.number → at ≡ to
stands_there m at to C D h g n =
    let same = same_pair at.place to.place C D (get m at.number) h.0 (ap (get m) n ∙ g.0) in
    let long = h.1 ∙ ap length same.1 ∙ sym g.1 in
    λ i. record { number = n i; place = same.0 i; len = long i }

-- a clause that stands is live
pub stands_live : (m : Clauses) (at : Ref) (C : Clause) → RefersTo m at C → live_of m at.number C
stands_live m at C h = (at.place, h.0)

-- the clause of a reference is the live clause of its number
pub live_stands : (m : Clauses) (at : Ref) (C : Clause) → IsLive m at → live_of m at.number C → RefersTo m at C
live_stands m at C l h =
    let same = same_pair at.place h.0 l.0 C (get m at.number) l.1.0 h.1 in
    subst (λ D. RefersTo m at D) same.1 l.1

-- two clauses of a number are one
pub live_once : (m : Clauses) (n : ℕ) (C D : Clause) → live_of m n C → live_of m n D → C ≡ D
live_once m n C D h g = (same_pair h.0 g.0 C D (get m n) h.1 g.1).1

none_there : (m : Clauses) (n p : ℕ) (C : Clause) → get m n ≡ None → get m n ≡ Some (p, C) → ⊥
none_there m n p C e f = let h : None ≡ Some (p, C) = sym e ∙ f in cc

pub none_empty : (n : ℕ) (C : Clause) → live_of empty n C → ⊥
none_empty n C h = none_there empty n h.0 C (get-empty nat_cmp n) h.1

-- ---- `add`
pub added_stands : (m : Clauses) (at : Ref) (C : Clause) → at.len ≡ length C → RefersTo (insert m at.number (at.place, C)) at C
added_stands m at C long = (get-insert_same m at.number (at.place, C), long)

pub added_kept : (m : Clauses) (n : ℕ) (v : ℕ × Clause) (at : Ref) (C : Clause) → get m n ≡ None → RefersTo m at C → RefersTo (insert m n v) at C
added_kept m n v at C new h =
    let ne : at.number ≢ n = λ e. none_there m at.number at.place C (ap (get m) e ∙ new) h.0 in
    (get-insert_other m n at.number v ne ∙ h.0, h.1)

-- ---- `swap`
pub swapped_stands : (m : Clauses) (at : Ref) (C : Clause) (i j : ℕ) → RefersTo m at C → RefersTo (insert m at.number (at.place, swap C i j)) at (swap C i j)
swapped_stands m at C i j h = (get-insert_same m at.number (at.place, swap C i j), h.1 ∙ sym (length-swap C i j))

-- ---- `add`, `swap` and `remove`: clauses of other numbers
pub other_stands : (m : Clauses) (n : ℕ) (v : ℕ × Clause) (at : Ref) (C : Clause) → at.number ≢ n → RefersTo m at C → RefersTo (insert m n v) at C
other_stands m n v at C ne h = (get-insert_other m n at.number v ne ∙ h.0, h.1)

pub other_stood : (m : Clauses) (n : ℕ) (v : ℕ × Clause) (at : Ref) (C : Clause) → at.number ≢ n → RefersTo (insert m n v) at C → RefersTo m at C
other_stood m n v at C ne h = (sym (get-insert_other m n at.number v ne) ∙ h.0, h.1)

pub removed_stands : (m : Clauses) (n : ℕ) (at : Ref) (C : Clause) → at.number ≢ n → RefersTo m at C → RefersTo (remove m n) at C
removed_stands m n at C ne h = (get-remove_other m n at.number ne ∙ h.0, h.1)

pub removed_stood : (m : Clauses) (n : ℕ) (at : Ref) (C : Clause) → RefersTo (remove m n) at C → RefersTo m at C
removed_stood m n at C h = elim (cases_eq at.number n) [
  | inl e ↦ absurd (none_there (remove m n) n at.place C (get-remove_same m n) (ap (get (remove m n)) (sym e) ∙ h.0))
  | inr ne ↦ (sym (get-remove_other m n at.number ne) ∙ h.0, h.1)
]

-- ---- `compact`
literals_at : (o : Option (ℕ × Clause)) (C : Clause) → option_map (λ (c : ℕ × Clause). c.1) o ≡ Some C → (p : ℕ) × (o ≡ Some (p, C))
literals_at None C e = absurd (let h : None ≡ Some C = e in cc)
literals_at (Some c) C e = let is : c.1 ≡ C = cc in (c.0, ap (λ (D : Clause). Some (c.0, D)) is)

-- the live clauses are those from before
pub compacted_live : (old new : Clauses) (moves : List (Ref × Ref)) → IsCompacted old new moves → (n : ℕ) (C : Clause) → live_of old n C → live_of new n C
compacted_live old new moves h n C l = literals_at (get new n) C (h.kept n ∙ ap (option_map (λ (c : ℕ × Clause). c.1)) l.1)

pub compacted_was : (old new : Clauses) (moves : List (Ref × Ref)) → IsCompacted old new moves → (n : ℕ) (C : Clause) → live_of new n C → live_of old n C
compacted_was old new moves h n C l = literals_at (get old n) C (sym (h.kept n) ∙ ap (option_map (λ (c : ℕ × Clause). c.1)) l.1)

-- a clause is told, with where it stands now, or stands where it stood
pub moved_or_stands : (old new : Clauses) (moves : List (Ref × Ref)) → IsCompacted old new moves → (at : Ref) (C : Clause) → RefersTo old at C
    → ((to : Ref) × Contains moves (at, to) × RefersTo new to C) ⊎ RefersTo new at C
moved_or_stands old new moves h at C st =
    let l = compacted_live old new moves h at.number C (at.place, st.0) in
    let to : Ref = record { number = at.number; place = l.0; len = at.len } in
    elim (cases_eq at.place l.0) [
      | inl e ↦ inr (l.1 ∙ ap (λ (p : ℕ). Some (p, C)) (sym e), st.1)
      | inr ne ↦ inl (to, h.all at to (record { literals = C; number = refl; before = st; after = (l.1, st.1); elsewhere = ne }), (l.1, st.1))
    ]

-- a clause whose number no move tells stands where it stood
pub untold_stands : (old new : Clauses) (moves : List (Ref × Ref)) → IsCompacted old new moves → (at : Ref) (C : Clause) → RefersTo old at C
    → ((from to : Ref) → Contains moves (from, to) → from.number ≢ at.number) → RefersTo new at C
untold_stands old new moves h at C st none = elim (moved_or_stands old new moves h at C st) [
  | inl l ↦ absurd (none at l.0 l.1 refl)
  | inr s ↦ s
]

-- a clause whose number a move tells stood where that says, and stands where it says
pub told_stands : (old new : Clauses) (moves : List (Ref × Ref)) → IsCompacted old new moves → (at : Ref) (C : Clause) → RefersTo old at C
    → (from to : Ref) → Contains moves (from, to) → from.number ≡ at.number → (from ≡ at) × RefersTo new to C
told_stands old new moves h at C st from to member n =
    let moved = h.told from to member in
    let same = stands_there old from at moved.literals C moved.before st n in
    let literals = stands_once old at moved.literals C (subst (λ x. RefersTo old x moved.literals) same moved.before) st in
    (same, subst (λ D. RefersTo new to D) literals moved.after)
