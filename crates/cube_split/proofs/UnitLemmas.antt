-- Unit clauses after a formula.
use Rattle.std.proofs.Common.{◌≡◌, ℕ, ◌+◌, ◌*◌, ◌<◌, List, [], ◌∷◌, ◌++◌, map, length, get_or, take, refl, sym, ap, ◌∙◌, arith, length-append, append_assoc}
use Rattle.std.proofs.lemmas.List.{length-map, map_more, length-take-le, take_more}
use Rattle.dimacs.specs.logic.Cnf.{Cnf, literal_count}
use Rattle.dimacs.specs.logic.Literal.{Literal, Clause}
use Rattle.cube_split.specs.Definitions.{all_clauses, both_clause, part_clause}
use Rattle.cube_split.specs.SplitTree.{with_units}
use Rattle.cube_split.specs.declared.pair.Pair.{Pair}

pub count_append : (xs ys : List Clause) → literal_count (xs ++ ys) ≡ literal_count xs + literal_count ys
count_append [] ys = omega arith
count_append (x ∷ xs) ys = omega (arith, count_append xs ys)

pub count_push : (F : List Clause) (C : Clause) → literal_count (F ++ C ∷ []) ≡ literal_count F + length C
count_push F C = omega (arith, count_append F (C ∷ []))

count_units : (units : List Literal) → literal_count (map (λ l. l ∷ []) units) ≡ length units
count_units [] = refl
count_units (l ∷ units) = omega (arith, count_units units)

-- how many clauses and literals there are after so many units
pub units_len : (f : Cnf) (units : List Literal) → length (with_units f units).clauses ≡ length f.clauses + length units
units_len f units = omega (arith, length-append f.clauses (map (λ l. l ∷ []) units), length-map units (λ (l : Literal). l ∷ []))

pub units_count : (f : Cnf) (units : List Literal) → literal_count (with_units f units).clauses ≡ literal_count f.clauses + length units
units_count f units = omega (arith, count_append f.clauses (map (λ l. l ∷ []) units), count_units units)

-- one more unit
pub units_more : (f : Cnf) (units : List Literal) (i : ℕ) (l : Literal) → i < length units → l ≡ get_or units i l → record f { clauses = (with_units f (take i units)).clauses ++ (l ∷ []) ∷ [] } ≡ with_units f (take (i + 1) units)
units_more f units i l below is =
    ap (λ (cs : List Clause). record f { clauses = cs }) (append_assoc f.clauses (map (λ l. l ∷ []) (take i units)) ((l ∷ []) ∷ [])
    ∙ ap (λ (cs : List Clause). f.clauses ++ cs) (ap (λ (k : Literal). map (λ l. l ∷ []) (take i units) ++ (k ∷ []) ∷ []) is ∙ sym (map_more (λ (l : Literal). l ∷ []) units i l below)))

-- the clauses of a definition more
pub definitions_len : (d : ℕ) (pairs : List Pair) → length (all_clauses d pairs) ≡ 3 * length pairs
definitions_len d [] = refl
definitions_len d (p ∷ pairs) = omega (arith, definitions_len (d + 1) pairs)

pub definitions_count : (d : ℕ) (pairs : List Pair) → literal_count (all_clauses d pairs) ≡ 7 * length pairs
definitions_count d [] = refl
definitions_count d (p ∷ pairs) = omega (arith, definitions_count (d + 1) pairs)

all_append : (d : ℕ) (ps qs : List Pair) → all_clauses d (ps ++ qs) ≡ all_clauses d ps ++ all_clauses (d + length ps) qs
all_append d [] qs = ap (λ (n : ℕ). all_clauses n qs) (let e : d ≡ d + 0 = omega arith in e)
all_append d (p ∷ ps) qs =
    ap (λ (cs : List Clause). both_clause d p ∷ part_clause d p.first ∷ part_clause d p.second ∷ cs)
    (all_append (d + 1) ps qs ∙ ap (λ (n : ℕ). all_clauses (d + 1) ps ++ all_clauses n qs) (let e : d + 1 + length ps ≡ d + length (p ∷ ps) = omega arith in e))

pub definitions_more : (F : List Clause) (d : ℕ) (pairs : List Pair) (i : ℕ) (p : Pair) → i < length pairs → p ≡ get_or pairs i p
    → (F ++ all_clauses d (take i pairs)) ++ all_clauses (d + i) (p ∷ []) ≡ F ++ all_clauses d (take (i + 1) pairs)
definitions_more F d pairs i p below is =
    append_assoc F (all_clauses d (take i pairs)) (all_clauses (d + i) (p ∷ []))
    ∙ ap (λ (cs : List Clause). F ++ cs)
    (ap (λ (n : ℕ). all_clauses d (take i pairs) ++ all_clauses n (p ∷ [])) (let e : d + i ≡ d + length (take i pairs) = omega (arith, length-take-le i pairs (omega arith)) in e)
    ∙ sym (all_append d (take i pairs) (p ∷ []))
    ∙ ap (all_clauses d) (ap (λ (q : Pair). take i pairs ++ q ∷ []) is ∙ sym (take_more pairs i p below)))
