-- Tables of marks.
use Rattle.std.proofs.Common.{◌≡◌, ℕ, ◌+◌, ◌*◌, ◌/◌, ◌%◌, ◌<◌, ◌≤◌, Bool, true, false, not, ◌||◌, ◌&&◌, List, ◌++◌, replicate, length, get_or, set, take, eqb, refl, sym, ap, ◌∙◌, arith, ⊎_elim, get_or-set_same, get_or-set_other, length-set}
use Rattle.std.specs.List.{list_any}
use Rattle.std.proofs.lemmas.Bool.{cases_eq, eq-eqb, ne_eqb}
use Rattle.std.proofs.lemmas.Bool.Decides.{nat_tests}
use Rattle.std.proofs.lemmas.List.{get_or-replicate, length-replicate}
use Rattle.std.proofs.lemmas.List.Folds.{list_any-append, list_any_more, list_any_at}
use Rattle.dimacs.specs.inner.Codes.{index_of-literal_of}
use Rattle.dimacs.specs.logic.Literal.{Literal, Pos, Neg, same, has, index_of, literal_of}
use Rattle.cube_split.specs.inner.Marks.{AreMarked}

-- literals are the same where their places are
pub same_by_place : (x l : Literal) → same x l ≡ eqb (index_of x) (index_of l)
same_by_place (Pos v) (Pos w) = grind (arith, nat_tests)
same_by_place (Pos v) (Neg w) = grind (arith, nat_tests)
same_by_place (Neg v) (Pos w) = grind (arith, nat_tests)
same_by_place (Neg v) (Neg w) = grind (arith, nat_tests)

or_true : (a b c : Bool) → c ≡ true → (a || (b || c)) ≡ true
or_true true b c e = refl
or_true false true c e = refl
or_true false false c e = e

or_false : (a b c : Bool) → c ≡ false → (a || (b || c)) ≡ (a || b)
or_false true b c e = refl
or_false false true c e = refl
or_false false false c e = e

or_none : (a : Bool) → (a || false) ≡ a
or_none true = refl
or_none false = refl

-- no literal marked yet
pub mark_none : (marks : List Bool) (test : Literal → Bool) → AreMarked marks test → AreMarked marks (λ x. test x || false)
mark_none marks test h = record { marked = λ k below. h.marked k below ∙ sym (or_none (test (literal_of k))) }

-- the literal at i is that of place k, or not
has_at : (xs : List Literal) (i k : ℕ) (l : Literal) → i < length xs → l ≡ get_or xs i l → k ≡ index_of l → (a : Bool) → (a || has (take (i + 1) xs) (literal_of k)) ≡ true
has_at xs i k l below is e a =
    let more = list_any_more (same (literal_of k)) xs i l below in
    let found : same (literal_of k) (get_or xs i l) ≡ true = ap (same (literal_of k)) (sym is) ∙ same_by_place (literal_of k) l ∙ eq-eqb _ _ (index_of-literal_of k ∙ e) in
    ap (λ (b : Bool). a || b) more ∙ or_true a (has (take i xs) (literal_of k)) (same (literal_of k) (get_or xs i l)) found

has_other : (xs : List Literal) (i k : ℕ) (l : Literal) → i < length xs → l ≡ get_or xs i l → (k ≡ index_of l → ⊥) → (a : Bool) → (a || has (take (i + 1) xs) (literal_of k)) ≡ (a || has (take i xs) (literal_of k))
has_other xs i k l below is ne a =
    let more = list_any_more (same (literal_of k)) xs i l below in
    let missed : same (literal_of k) (get_or xs i l) ≡ false = ap (same (literal_of k)) (sym is) ∙ same_by_place (literal_of k) l ∙ ne_eqb _ _ (λ e. ne (sym (index_of-literal_of k) ∙ e)) in
    ap (λ (b : Bool). a || b) more ∙ or_false a (has (take i xs) (literal_of k)) (same (literal_of k) (get_or xs i l)) missed

-- one more literal is marked
pub mark_one : (marks : List Bool) (test : Literal → Bool) (xs : List Literal) (i : ℕ) (l : Literal) → i < length xs → l ≡ get_or xs i l → index_of l < length marks
    → AreMarked marks (λ x. test x || has (take i xs) x) → AreMarked (set marks (index_of l) true) (λ x. test x || has (take (i + 1) xs) x)
mark_one marks test xs i l below is inside h = record {
  marked = λ k kb. ⊎_elim
      (λ (e : k ≡ index_of l). ap (λ (n : ℕ). get_or (set marks (index_of l) true) n false) e ∙ get_or-set_same marks (index_of l) true false inside ∙ sym (has_at xs i k l below is e (test (literal_of k))))
      (λ (ne : k ≡ index_of l → ⊥). get_or-set_other marks (index_of l) k true false ne ∙ h.marked k (omega (arith, length-set marks (index_of l) true)) ∙ sym (has_other xs i k l below is ne (test (literal_of k))))
      (cases_eq k (index_of l));
}

-- a literal beyond the table is passed over
pub mark_past : (marks : List Bool) (test : Literal → Bool) (xs : List Literal) (i : ℕ) (l : Literal) → i < length xs → l ≡ get_or xs i l → length marks ≤ index_of l
    → AreMarked marks (λ x. test x || has (take i xs) x) → AreMarked marks (λ x. test x || has (take (i + 1) xs) x)
mark_past marks test xs i l below is past h = record {
  marked = λ k kb.
      h.marked k kb ∙ sym (has_other xs i k l below is (λ e. absurd (omega arith)) (test (literal_of k)));
}

-- the literal of the place of a literal
pub literal_of-index_of : (l : Literal) → literal_of (index_of l) ≡ l
literal_of-index_of (Pos v) =
    let even : (2 * v) % 2 ≡ 0 = omega arith in
    let half : (2 * v) / 2 ≡ v = omega arith in
    rw (even, half) refl
literal_of-index_of (Neg v) =
    let odd : (2 * v + 1) % 2 ≡ 1 = omega arith in
    let half : (2 * v + 1) / 2 ≡ v = omega arith in
    rw (odd, half) refl

-- what the table says of a literal
pub marked_at : (marks : List Bool) (test : Literal → Bool) (l : Literal) → AreMarked marks test → index_of l < length marks → get_or marks (index_of l) false ≡ test l
marked_at marks test l h below = h.marked (index_of l) below ∙ ap test (literal_of-index_of l)

-- two tests that agree
pub marked_same : (marks : List Bool) (f g : Literal → Bool) → ((x : Literal) → f x ≡ g x) → AreMarked marks f → AreMarked marks g
marked_same marks f g e h = record { marked = λ k below. h.marked k below ∙ e (literal_of k) }

-- a table of which nothing is marked
pub mark_clear : (n : ℕ) → AreMarked (replicate n false) (λ x. false)
mark_clear n = record { marked = λ k below. get_or-replicate n k false false (omega (arith, length-replicate n false)) }

-- one more literal of a clause, which is not marked
pub apart_more : (marks : List Bool) (test : Literal → Bool) (C : List Literal) (i : ℕ) (l : Literal) → i < length C → l ≡ get_or C i l → AreMarked marks test → index_of l < length marks
    → get_or marks (index_of l) false ≡ false → list_any test (take i C) ≡ false → list_any test (take (i + 1) C) ≡ false
apart_more marks test C i l below is h inside free rest =
    let last : test (get_or C i l) ≡ false = ap test (sym is) ∙ sym (marked_at marks test l h inside) ∙ free in
    list_any_more test C i l below ∙ ap (λ b. b || test (get_or C i l)) rest ∙ last

-- a literal of a clause that is marked
pub not_apart : (marks : List Bool) (test : Literal → Bool) (C : List Literal) (i : ℕ) (l : Literal) → i < length C → l ≡ get_or C i l → AreMarked marks test → index_of l < length marks
    → get_or marks (index_of l) false ≡ true → list_any test C ≡ true
not_apart marks test C i l below is h inside found =
    list_any_at test C i l below (ap test (sym is) ∙ sym (marked_at marks test l h inside) ∙ found)

-- ---- marks are taken away

pub unmark_none : (marks : List Bool) (test : Literal → Bool) → AreMarked marks test → AreMarked marks (λ x. test x && not false)
unmark_none marks test h = record { marked = λ k below. h.marked k below ∙ sym (and_all (test (literal_of k))) } where
  and_all : (a : Bool) → (a && true) ≡ a
  and_all true = refl
  and_all false = refl

-- one mark less
pub unmark_one : (marks : List Bool) (test : Literal → Bool) (xs : List Literal) (i : ℕ) (l : Literal) → i < length xs → l ≡ get_or xs i l → index_of l < length marks
    → AreMarked marks (λ x. test x && not (has (take i xs) x)) → AreMarked (set marks (index_of l) false) (λ x. test x && not (has (take (i + 1) xs) x))
unmark_one marks test xs i l below is inside h = record {
  marked = λ k kb. ⊎_elim
      (λ (e : k ≡ index_of l).
      ap (λ (n : ℕ). get_or (set marks (index_of l) false) n false) e ∙ get_or-set_same marks (index_of l) false false inside
      ∙ sym (and_none (test (literal_of k)) (has (take (i + 1) xs) (literal_of k)) (has_at xs i k l below is e false)))
      (λ (ne : k ≡ index_of l → ⊥).
      get_or-set_other marks (index_of l) k false false ne ∙ h.marked k (omega (arith, length-set marks (index_of l) false))
      ∙ sym (ap (λ (b : Bool). test (literal_of k) && not b) (has_other xs i k l below is ne false)))
      (cases_eq k (index_of l));
} where
  and_none : (a b : Bool) → b ≡ true → (a && not b) ≡ false
  and_none true b e = rw e refl
  and_none false b e = refl

-- a literal beyond the table is passed over
pub unmark_past : (marks : List Bool) (test : Literal → Bool) (xs : List Literal) (i : ℕ) (l : Literal) → i < length xs → l ≡ get_or xs i l → length marks ≤ index_of l
    → AreMarked marks (λ x. test x && not (has (take i xs) x)) → AreMarked marks (λ x. test x && not (has (take (i + 1) xs) x))
unmark_past marks test xs i l below is past h = record {
  marked = λ k kb. h.marked k kb ∙ sym (ap (λ (b : Bool). test (literal_of k) && not b) (has_other xs i k l below is (λ e. absurd (omega arith)) false));
}

-- the marks of two lists are taken away, and none is left
pub unmarked_both : (marks : List Bool) (xs ys : List Literal) → AreMarked marks (λ l. (has (xs ++ ys) l && not (has xs l)) && not (has ys l)) → AreMarked marks (λ l. false)
unmarked_both marks xs ys h = marked_same marks (λ l. (has (xs ++ ys) l && not (has xs l)) && not (has ys l)) (λ l. false)
    (λ l. ap (λ (b : Bool). (b && not (has xs l)) && not (has ys l)) (list_any-append (same l) xs ys) ∙ nothing (has xs l) (has ys l)) h where
      nothing : (a b : Bool) → (((a || b) && not a) && not b) ≡ false
      nothing true true = refl
      nothing true false = refl
      nothing false true = refl
      nothing false false = refl
