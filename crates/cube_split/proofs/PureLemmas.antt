-- The literals of pure variables.
use Rattle.std.proofs.Common.{◌≡◌, ℕ, zero, suc, ◌+◌, ◌<◌, ◌≤◌, Bool, ◌||◌, List, [], ◌∷◌, ◌++◌, length, get_or, take, refl, sym, ap, ◌∙◌, arith, append_assoc}
use Rattle.std.specs.List.{filter, flat_map, All}
use Rattle.std.proofs.lemmas.List.{append-nil}
use Rattle.std.proofs.lemmas.List.Elements.{filter-append, All-filter, All-cons, All-nil}
use Rattle.std.proofs.lemmas.List.Folds.{list_any_more}
use Rattle.dimacs.specs.logic.Base.{occurs, is_pure, numbers_from, pure_literals}
use Rattle.dimacs.specs.logic.Cnf.{Cnf}
use Rattle.dimacs.specs.logic.Literal.{Literal, Clause, Pos, Neg, has, IsWithin}
use Rattle.cube_split.specs.inner.Marks.{AreMarked}
use Rattle.cube_split.proofs.MarkLemmas.{marked_same}

numbers_push : (first count : ℕ) → numbers_from first (suc count) ≡ numbers_from first count ++ (first + count) ∷ []
numbers_push first zero = ap (λ (n : ℕ). n ∷ []) (omega arith)
numbers_push first (suc count) = ap (λ (ns : List ℕ). first ∷ ns) (numbers_push (first + 1) count ∙ ap (λ (n : ℕ). numbers_from (first + 1) count ++ n ∷ []) (omega arith))

flat_map_append : (f : ℕ → List Literal) (xs ys : List ℕ) → flat_map f (xs ++ ys) ≡ flat_map f xs ++ flat_map f ys
flat_map_append f [] ys = refl
flat_map_append f (x ∷ xs) ys = ap (λ (zs : List Literal). f x ++ zs) (flat_map_append f xs ys) ∙ sym (append_assoc (f x) (flat_map f xs) (flat_map f ys))

-- one more variable
pub pure_more : (p : Literal → Bool) (count v : ℕ) (found : List Literal) → v ≡ 1 + count → found ≡ filter p (Pos v ∷ Neg v ∷ [])
    → filter p (flat_map (λ w. Pos w ∷ Neg w ∷ []) (numbers_from 1 count)) ++ found ≡ filter p (flat_map (λ w. Pos w ∷ Neg w ∷ []) (numbers_from 1 (suc count)))
pure_more p count v found is e =
    let both : ℕ → List Literal = λ w. Pos w ∷ Neg w ∷ [] in
    ap (λ (xs : List Literal). filter p (flat_map both (numbers_from 1 count)) ++ xs) (e ∙ ap (λ (n : ℕ). filter p (Pos n ∷ Neg n ∷ [])) is)
    ∙ sym (filter-append p (flat_map both (numbers_from 1 count)) (both (1 + count)))
    ∙ ap (filter p) (sym (flat_map_append both (numbers_from 1 count) ((1 + count) ∷ []) ∙ ap (λ (xs : List Literal). flat_map both (numbers_from 1 count) ++ xs) (append-nil (both (1 + count)))))
    ∙ ap (λ (ns : List ℕ). filter p (flat_map both ns)) (sym (numbers_push 1 count))

-- the clauses so far
pub occurs_more : (marks : List Bool) (clauses : List Clause) (i : ℕ) (C : Clause) → i < length clauses → C ≡ get_or clauses i [] → AreMarked marks (λ l. occurs (take i clauses) l || has C l) → AreMarked marks (occurs (take (i + 1) clauses))
occurs_more marks clauses i C below is h = marked_same marks (λ l. occurs (take i clauses) l || has C l) (occurs (take (i + 1) clauses))
    (λ l. sym (list_any_more (λ D. has D l) clauses i [] below ∙ ap (λ (D : Clause). occurs (take i clauses) l || has D l) (sym is))) h

within_from : (vars first count : ℕ) → 0 < first → first + count ≤ vars + 1 → All (IsWithin vars) (flat_map (λ v. Pos v ∷ Neg v ∷ []) (numbers_from first count))
within_from vars first zero low high = All-nil (IsWithin vars)
within_from vars first (suc count) low high =
    let here : IsWithin vars (Pos first) = (low, omega arith) in
    let rest : List Literal = flat_map (λ v. Pos v ∷ Neg v ∷ []) (numbers_from (first + 1) count) in
    All-cons (IsWithin vars) (Pos first) (Neg first ∷ rest) here (All-cons (IsWithin vars) (Neg first) rest here (within_from vars (first + 1) count (omega arith) (omega arith)))

-- pure literals are literals of the formula's variables
pub pure_within : (f : Cnf) → All (IsWithin f.vars) (pure_literals f)
pure_within f = All-filter (is_pure f) (IsWithin f.vars) (flat_map (λ v. Pos v ∷ Neg v ∷ []) (numbers_from 1 f.vars)) (within_from f.vars 1 f.vars (omega arith) (omega arith))
