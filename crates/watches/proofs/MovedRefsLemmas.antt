-- References that are updated after clauses moved.
use Rattle.std.proofs.Common.{◌≡◌, ℕ, ◌+◌, ◌<◌, ◌≤◌, inl, inr, List, length, get_or, set, Option, Some, None, refl, ap, sym, ◌∙◌, subst, arith}
use Rattle.std.specs.Option.{option_map}
use Rattle.std.specs.List.{All}
use Rattle.std.specs.FinMap.{get}
use Rattle.std.proofs.lemmas.Bool.{cases_eq}
use Rattle.std.proofs.lemmas.List.{ext_get_or, get_or-map, length-map, get_or-set_other, get_or-set_same, get_or_default}
use Rattle.std.proofs.lemmas.List.Elements.{Contains-get_or}
use Rattle.dimacs.specs.logic.Literal.{Clause}
use Rattle.clause_arena.specs.declared.reference.Ref.{Ref}
use Rattle.clause_arena.specs.Clauses.{Clauses, RefersTo}
use Rattle.clause_arena.specs.Compaction.{IsCompacted}
use Rattle.watches.specs.ClauseNumbers.{numbers}
use Rattle.watches.specs.inner.LiveClauses.{IsLiveWithin}
use Rattle.watches.specs.inner.MovedRefs.{AreRising, IsUnmoved, IsMovedTo, Follows, AreFollowed}
use Rattle.watches.proofs.ScanLemmas.{same_clause}

some_of : (o : Option (ℕ × Clause)) (C : Clause) → option_map (λ (c : ℕ × Clause). c.1) o ≡ Some C → (p : ℕ) × (o ≡ Some (p, C))
some_of None C e = absurd (cc)
some_of (Some x) C e =
    let f : x.1 ≡ C = cc in
    (x.0, ap (λ (D : Clause). Some (x.0, D)) f)

-- where a clause stands that the moves tell nothing of
stays : (m k : Clauses) (moves : List (Ref × Ref)) (at : Ref) (C : Clause) (p : ℕ) → IsCompacted m k moves → RefersTo m at C → IsUnmoved moves at.number → get k at.number ≡ Some (p, C) → p ≡ at.place
stays m k moves at C p h s u e = elim (cases_eq p at.place) [
  | inl q ↦ q
  | inr d ↦
      let to : Ref = record { number = at.number; place = p; len = at.len } in
      absurd (u at to (h.all at to (record { literals = C; number = refl; before = s; after = (e, s.1); elsewhere = λ q. d (sym q) })) refl)
]

pub stands_followed : (m k : Clauses) (moves : List (Ref × Ref)) (old new : Ref) (C : Clause) → IsCompacted m k moves → Follows moves old new → RefersTo m old C → RefersTo k new C
stands_followed m k moves old new C h f s = elim f.follows [
  | inl w ↦
      let t = h.told w.0 new w.1 in
      let same : t.literals ≡ C = same_clause m old.number _ _ t.literals C (subst (λ n. get m n ≡ Some (w.0.place, t.literals)) w.2 t.before.0) s.0 in
      subst (RefersTo k new) same t.after
  | inr w ↦
      let e = some_of (get k old.number) C (h.kept old.number ∙ ap (option_map (λ (c : ℕ × Clause). c.1)) s.0) in
      let q = stays m k moves old C e.0 h s (w.1 h.rising (λ from to i. (h.told from to i).number)) e.1 in
      subst (λ x. RefersTo k x C) (sym w.0) (subst (λ p. get k old.number ≡ Some (p, C)) q e.1, s.1)
]

pub here_followed : (m k : Clauses) (moves : List (Ref × Ref)) (v : ℕ) (old new : Ref) → IsCompacted m k moves → Follows moves old new → IsLiveWithin m v old → IsLiveWithin k v new
here_followed m k moves v old new h f s = (s.0, stands_followed m k moves old new s.0 h f s.1, s.2)

pub all_here_followed : (m k : Clauses) (moves : List (Ref × Ref)) (v : ℕ) (old new : List Ref) → IsCompacted m k moves → AreFollowed moves old new → All (IsLiveWithin m v) old → All (IsLiveWithin k v) new
all_here_followed m k moves v old new h f s = λ i d l.
    let b : i < length old = omega (arith, f.long) in
    here_followed m k moves v (get_or old i d) (get_or new i d) h (f.each i d b) (s i d b)

pub numbers_followed : (moves : List (Ref × Ref)) (old new : List Ref) → AreFollowed moves old new → numbers new ≡ numbers old
numbers_followed moves old new f = ext_get_or 0 _ _ (length-map new (λ (x : Ref). x.number) ∙ f.long ∙ sym (length-map old (λ (x : Ref). x.number))) (λ i l.
    let b : i < length old = omega (arith, f.long, length-map new (λ (x : Ref). x.number)) in
    let d : Ref = record { number = 0; place = 0; len = 0 } in
    get_or-map (λ (x : Ref). x.number) new i d 0 (omega (arith, f.long)) ∙ (f.each i d b).number ∙ sym (get_or-map (λ (x : Ref). x.number) old i d 0 b))

-- ---- a search by halving
pub below_middle : (moves : List (Ref × Ref)) (i n : ℕ) (e : Ref × Ref) → i < length moves → (get_or moves i e).0.number < n → AreRising moves → (k : ℕ) (d : Ref × Ref) → k < i + 1 → (get_or moves k d).0.number < n
below_middle moves i n e l h r k d b = elim (cases_eq k i) [
  | inl q ↦ subst (λ (x : Ref × Ref). x.0.number < n) (sym (ap (λ j. get_or moves j d) q ∙ get_or_default moves i d e l)) h
  | inr q ↦
      let s = r k i e (omega arith) l in
      subst (λ (x : Ref × Ref). x.0.number < n) (get_or_default moves k e d (omega arith)) (omega arith)
]

pub above_middle : (moves : List (Ref × Ref)) (i n : ℕ) (e : Ref × Ref) → i < length moves → n < (get_or moves i e).0.number → AreRising moves → (k : ℕ) (d : Ref × Ref) → i ≤ k → k < length moves → n < (get_or moves k d).0.number
above_middle moves i n e l h r k d b u = elim (cases_eq k i) [
  | inl q ↦ subst (λ (x : Ref × Ref). n < x.0.number) (sym (ap (λ j. get_or moves j d) q ∙ get_or_default moves i d e l)) h
  | inr q ↦
      let s = r i k e (omega arith) u in
      subst (λ (x : Ref × Ref). n < x.0.number) (get_or_default moves k e d u) (omega arith)
]

-- a number before the first move is none of the moves
pub before_all : (moves : List (Ref × Ref)) (n : ℕ) (e : Ref × Ref) → 0 < length moves → n < (get_or moves 0 e).0.number → AreRising moves → IsUnmoved moves n
before_all moves n e some less r from to h same =
    let d : Ref × Ref = (from, to) in
    let above = above_middle moves 0 n e some less r h.0 d (omega arith) h.1 in
    let here : n < from.number = subst (λ (x : Ref × Ref). n < x.0.number) h.2 above in
    absurd (omega (arith, here, same))

pub found_move : (moves : List (Ref × Ref)) (i n : ℕ) (e : Ref × Ref) → i < length moves → (get_or moves i e).0.number ≡ n → IsMovedTo moves n (get_or moves i e).1
found_move moves i n e l h = ((get_or moves i e).0, Contains-get_or moves i e l, h)

-- ---- one clause after the other
module _ (moves : List (Ref × Ref)) (old cur : List Ref) (i : ℕ) (v n : Ref) (e : length cur ≡ length old) (l : i < length old) where
  pub step_followed : ((k : ℕ) (d : Ref) → k < i → Follows moves (get_or old k d) (get_or cur k d)) → ((k : ℕ) (d : Ref) → i ≤ k → get_or cur k d ≡ get_or old k d) → Follows moves (get_or cur i n) v
      → (k : ℕ) (d : Ref) → k < i + 1 → Follows moves (get_or old k d) (get_or (set cur i v) k d)
  step_followed f w h k d b = elim (cases_eq k i) [
    | inl q ↦
        let x : get_or cur i n ≡ get_or old k d = get_or_default cur i n d (omega arith) ∙ w i d (omega arith) ∙ ap (λ j. get_or old j d) (sym q) in
        let y : get_or (set cur i v) k d ≡ v = ap (λ j. get_or (set cur i v) j d) q ∙ get_or-set_same cur i v d (omega arith) in
        subst (λ z. Follows moves (get_or old k d) z) (sym y) (subst (λ z. Follows moves z v) x h)
    | inr q ↦ subst (λ z. Follows moves (get_or old k d) z) (sym (get_or-set_other cur i k v d q)) (f k d (omega arith))
  ]

  pub step_waiting : ((k : ℕ) (d : Ref) → i ≤ k → get_or cur k d ≡ get_or old k d) → (k : ℕ) (d : Ref) → i + 1 ≤ k → get_or (set cur i v) k d ≡ get_or old k d
  step_waiting w k d b = get_or-set_other cur i k v d (λ q. omega arith) ∙ w k d (omega arith)
