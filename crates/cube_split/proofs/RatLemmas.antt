-- Units of pure literals have no candidate.
use Rattle.std.proofs.Common.{◌≡◌, ℕ, zero, suc, ◌+◌, Bool, true, false, ◌||◌, not, cond, List, [], ◌∷◌, ◌++◌, map, Some, refl, sym, ap, subst, ◌∙◌, arith, nat_eq}
use Rattle.std.specs.List.{list_any, All, Contains, IsDistinct, enumerate_from, flat_map}
use Rattle.std.specs.Ordering.{nat_cmp, eq_by_cmp}
use Rattle.std.specs.Cmp.{nat_cmp_total}
use Rattle.std.specs.FinMap.{find, get-from_entries}
use Rattle.std.proofs.lemmas.Bool.{both_ways, and_parts, or_parts, or_from, not-true as not_true}
use Rattle.std.proofs.lemmas.List.Elements.{filter_passes, All-nil, All-cons, All-head, All-tail}
use Rattle.std.proofs.lemmas.List.Folds.{list_any-append}
use Rattle.dimacs.specs.logic.Base.{occurs, is_pure, numbers_from, pure_literals}
use Rattle.dimacs.specs.logic.ClauseMap.{live_in, map_of}
use Rattle.dimacs.specs.logic.Cnf.{Cnf}
use Rattle.dimacs.specs.logic.Literal.{Literal, Pos, Neg, Clause, negation, same, has}
use Rattle.dimacs.specs.logic.Propagation.{negations}
use Rattle.dimacs.specs.logic.Rat.{Rat}
use Rattle.dimacs.proofs.LiteralLemmas.{same-true, negation_apart}
use Rattle.dimacs.proofs.Members.{Contains-has}
use Rattle.cube_split.specs.SplitTree.{with_units}

-- a clause that a number finds is one of the clauses
fails_found : (P : Clause → Bool) (clauses : List Clause) (n q : ℕ) (D : Clause) → list_any P clauses ≡ false → find nat_cmp q (enumerate_from n clauses) ≡ Some D → P D ≡ false
fails_found P [] n q D none e = cc
fails_found P (C ∷ clauses) n q D none e = by_test (eq_by_cmp nat_cmp q n) e (λ f. fails_found P clauses (n + 1) q D (or_parts (P C) (list_any P clauses) none).1 f)
  where
    here : Some C ≡ Some D → P D ≡ false
    here f = let same_clause : C ≡ D = cc in ap P (sym same_clause) ∙ (or_parts (P C) (list_any P clauses) none).0

    by_test : (b : Bool) → cond b (Some C) (find nat_cmp q (enumerate_from (n + 1) clauses)) ≡ Some D → (find nat_cmp q (enumerate_from (n + 1) clauses) ≡ Some D → P D ≡ false) → P D ≡ false
    by_test true f later = here f
    by_test false f later = later f

-- the units of other pure literals do not hold the negation
units_without : (f : Cnf) (l : Literal) (units : List Literal) → occurs f.clauses (negation l) ≡ false → All (λ k. is_pure f k ≡ true) units → occurs (map (λ k. k ∷ []) units) (negation l) ≡ false
units_without f l [] none pure = refl
units_without f l (k ∷ units) none pure =
    or_from (has (k ∷ []) (negation l)) (occurs (map (λ m. m ∷ []) units) (negation l)) (other (same (negation l) k) refl) (units_without f l units none (All-tail (λ m. is_pure f m ≡ true) k units pure))
  where
    other : (b : Bool) → same (negation l) k ≡ b → (same (negation l) k || false) ≡ false
    other true e =
        let parts = and_parts (occurs f.clauses k) (not (occurs f.clauses (negation k))) (All-head (λ m. is_pure f m ≡ true) k units pure) in
        absurd (both_ways (occurs f.clauses k) (ap (occurs f.clauses) (sym (same-true (negation l) k e)) ∙ none) parts.0)
    other false e = ap (λ b. b || false) e

single : (l m : Literal) → Contains (l ∷ []) m → l ≡ m
single l m (zero, below, e) = e
single l m (suc k, below, e) = absurd (omega arith)

all_front : (P : Literal → Type 0) (xs ys : List Literal) → All P (xs ++ ys) → All P xs
all_front P [] ys h = All-nil P
all_front P (x ∷ xs) ys h = All-cons P x xs (All-head P x (xs ++ ys) h) (all_front P xs ys (All-tail P x (xs ++ ys) h))

all_back : (P : Literal → Type 0) (xs ys : List Literal) → All P (xs ++ ys) → All P ys
all_back P [] ys h = h
all_back P (x ∷ xs) ys h = all_back P xs ys (All-tail P x (xs ++ ys) h)

-- nothing of the formula and the units before holds the negation of a pure literal
without : (f : Cnf) (before after : List Literal) (l : Literal) → pure_literals f ≡ before ++ l ∷ after → occurs (with_units f before).clauses (negation l) ≡ false
without f before after l e =
    let pure : Literal → Type 0 = λ k. is_pure f k ≡ true in
    let all : All pure (before ++ l ∷ after) = subst (λ (xs : List Literal). All pure xs) e (filter_passes (is_pure f) (flat_map (λ v. Pos v ∷ Neg v ∷ []) (numbers_from 1 f.vars))) in
    let here : is_pure f l ≡ true = All-head pure l after (all_back pure before (l ∷ after) all) in
    let none : occurs f.clauses (negation l) ≡ false = not_true (occurs f.clauses (negation l)) (and_parts (occurs f.clauses l) (not (occurs f.clauses (negation l))) here).1 in
    list_any-append (λ C. has C (negation l)) f.clauses (map (λ k. k ∷ []) before)
    ∙ or_from (occurs f.clauses (negation l)) (occurs (map (λ k. k ∷ []) before) (negation l)) none (units_without f l before none (all_front pure before (l ∷ after) all))

distinct_none : IsDistinct nat_eq []
unfolding IsDistinct
distinct_none = tt

pub unit_is_rat : (f : Cnf) (before after : List Literal) (l : Literal) → pure_literals f ≡ before ++ l ∷ after → Rat (live_in (map_of (with_units f before))) (l ∷ []) [] []
unit_is_rat f before after l e = record {
  pivot = l;
  rest = [];
  begins = refl;
  no_pair = λ pair. negation_apart pair.0 (sym (single l (negation pair.0) pair.2) ∙ single l pair.0 pair.1);
  reached = negations (l ∷ []);
  leads = refl;
  once = distinct_none;
  hold = λ g inside. absurd (omega (arith, inside.1));
  complete = λ id D lives holds. absurd (both_ways (has D (negation l))
      (fails_found (λ C. has C (negation l)) (with_units f before).clauses 1 id D (without f before after l e) (sym (get-from_entries nat_cmp_total (enumerate_from 1 (with_units f before).clauses) id) ∙ lives))
      (Contains-has D (negation l) holds));
}
