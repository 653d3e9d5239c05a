-- The literals that hold with defined variables, and which of these variables are undecided.
use Rattle.std.proofs.Common.{◌≡◌, ℕ, ◌+◌, ◌*◌, ◌<◌, ◌≤◌, Bool, true, false, not, ◌||◌, ◌&&◌, cond, List, [], ◌∷◌, ◌++◌, length, get_or, take, Option, Some, refl, sym, ◌∙◌, ap, subst, arith, inl, inr, append_assoc}
use Rattle.std.specs.List.{All}
use Rattle.std.proofs.lemmas.Bool.{cases_Bool, or_from, or_parts, cond-true, cond-false, true≢false}
use Rattle.std.proofs.lemmas.List.{append-nil, length-take-le, take_more}
use Rattle.std.proofs.lemmas.List.Elements.{All-head, All-tail, All-get_or, All-take}
use Rattle.std.proofs.lemmas.List.Folds.{list_any-append}
use Rattle.std.proofs.lemmas.Option.{slice_get_within, get_or_from_slice_get, slice_get_read}
use Rattle.dimacs.specs.logic.Cnf.{Cnf}
use Rattle.dimacs.specs.logic.Literal.{Literal, Pos, same, has, index_of, var_of}
use Rattle.dimacs.proofs.LiteralLemmas.{same-false}
use Rattle.icnf.specs.Leaves.{Cube}
use Rattle.cube_split.specs.Choice.{Choice}
use Rattle.cube_split.specs.ChoiceWithDefinitions.{IsChosen, IsUndecided, held_by}
use Rattle.cube_split.specs.Definitions.{IsPairOf}
use Rattle.cube_split.specs.inner.Marks.{AreMarked, IsUndecidedBy, IsUnmarked, literals_of}
use Rattle.cube_split.specs.declared.pair.Pair.{Pair}
use Rattle.cube_split.proofs.ChoiceLemmas.{free_unmarked, unmarked_from}
use Rattle.cube_split.proofs.MarkLemmas.{marked_at, marked_same}

-- ---- what is held
abbrev pub brings : List Literal → ℕ → Pair → List Literal
brings S d p = cond (has S (Pos d)) (p.first ∷ p.second ∷ []) []

held_push : (S : List Literal) (d : ℕ) (xs : List Pair) (p : Pair) → held_by S d (xs ++ p ∷ []) ≡ held_by S d xs ++ brings S (d + length xs) p
held_push S d [] p = append-nil (brings S d p) ∙ ap (λ (n : ℕ). brings S n p) (let e : d ≡ d + 0 = omega arith in e)
held_push S d (x ∷ xs) p =
    ap (λ (ls : List Literal). brings S d x ++ ls) (held_push S (d + 1) xs p ∙ ap (λ (n : ℕ). held_by S (d + 1) xs ++ brings S n p) (let e : d + 1 + length xs ≡ d + length (x ∷ xs) = omega arith in e))
    ∙ sym (append_assoc (brings S d x) (held_by S (d + 1) xs) (brings S (d + length (x ∷ xs)) p))

pub has_append : (xs ys : List Literal) (l : Literal) → has (xs ++ ys) l ≡ (has xs l || has ys l)
has_append xs ys l = list_any-append (same l) xs ys

-- a literal of a higher variable is in no pair
not_in_pair : (vars w : ℕ) (p : Pair) → IsPairOf vars p → vars < w → has (p.first ∷ p.second ∷ []) (Pos w) ≡ false
not_in_pair vars w p h above =
    let a = h.rise in
    let b = h.up_to in
    or_from (same (Pos w) p.first) (same (Pos w) p.second || false) (same-false (Pos w) p.first (λ e. let f = ap var_of e in omega arith))
    (or_from (same (Pos w) p.second) false (same-false (Pos w) p.second (λ e. let f = ap var_of e in omega arith)) refl)

held_low : (vars w : ℕ) (S : List Literal) (d : ℕ) (pairs : List Pair) → All (IsPairOf vars) pairs → vars < w → has (held_by S d pairs) (Pos w) ≡ false
held_low vars w S d [] h above = refl
held_low vars w S d (p ∷ pairs) h above =
    has_append (brings S d p) (held_by S (d + 1) pairs) (Pos w)
    ∙ or_from (has (brings S d p) (Pos w)) (has (held_by S (d + 1) pairs) (Pos w)) (one S d p (All-head (IsPairOf vars) p pairs h)) (held_low vars w S (d + 1) pairs (All-tail (IsPairOf vars) p pairs h) above)
  where
    one : (S : List Literal) (d : ℕ) (p : Pair) → IsPairOf vars p → has (brings S d p) (Pos w) ≡ false
    one S d p is = elim (cases_Bool (has S (Pos d))) [
      | inl t ↦ ap (λ (ls : List Literal). has ls (Pos w)) (cond-true (has S (Pos d)) (p.first ∷ p.second ∷ []) [] t) ∙ not_in_pair vars w p is above
      | inr f ↦ ap (λ (ls : List Literal). has ls (Pos w)) (cond-false (has S (Pos d)) (p.first ∷ p.second ∷ []) [] f)
    ]

-- ---- the walk that marks what is held
pub held_none : (S : List Literal) (d : ℕ) (marks : List Bool) → AreMarked marks (has S) → AreMarked marks (has (S ++ []))
held_none S d marks h = marked_same marks (has S) (has (S ++ [])) (λ l. ap (λ (ls : List Literal). has ls l) (sym (append-nil S))) h

take_next : (pairs : List Pair) (i : ℕ) (p : Pair) → i < length pairs → p ≡ get_or pairs i p → take (i + 1) pairs ≡ take i pairs ++ p ∷ []
take_next pairs i p below is = take_more pairs i p below ∙ ap (λ (q : Pair). take i pairs ++ q ∷ []) (sym is)

-- what the table says of the variable
variable_marked : (vars : ℕ) (S : List Literal) (pairs : List Pair) (i d : ℕ) (marks : List Bool) → All (IsPairOf vars) pairs → i ≤ length pairs → vars < d → 2 * d < length marks
    → AreMarked marks (has (S ++ held_by S (vars + 1) (take i pairs))) → get_or marks (index_of (Pos d)) false ≡ has S (Pos d)
variable_marked vars S pairs i d marks are le above inside h =
    marked_at marks (has (S ++ held_by S (vars + 1) (take i pairs))) (Pos d) h inside
    ∙ has_append S (held_by S (vars + 1) (take i pairs)) (Pos d)
    ∙ ap (λ (b : Bool). has S (Pos d) || b) (held_low vars d S (vars + 1) (take i pairs) (All-take (IsPairOf vars) i pairs are) above)
    ∙ or_false (has S (Pos d))
  where
    or_false : (a : Bool) → (a || false) ≡ a
    or_false true = refl
    or_false false = refl

pub held_marked : (vars : ℕ) (S : List Literal) (pairs : List Pair) (i d : ℕ) (p : Pair) (marks new : List Bool) → i < length pairs → p ≡ get_or pairs i p → All (IsPairOf vars) pairs → d ≡ vars + 1 + i
    → 2 * d < length marks → get_or marks (index_of (Pos d)) false ≡ true
    → AreMarked marks (has (S ++ held_by S (vars + 1) (take i pairs))) → AreMarked new (λ l. has (S ++ held_by S (vars + 1) (take i pairs)) l || has (p.first ∷ p.second ∷ []) l)
    → AreMarked new (has (S ++ held_by S (vars + 1) (take (i + 1) pairs)))
held_marked vars S pairs i d p marks new below is are number inside found old h =
    let front : List Pair = take i pairs in
    let held : List Literal = held_by S (vars + 1) front in
    let yes : has S (Pos d) ≡ true = sym (variable_marked vars S pairs i d marks are (omega arith) (omega arith) inside old) ∙ found in
    let place : vars + 1 + length front ≡ d = omega (arith, length-take-le i pairs (omega arith)) in
    let brought : brings S (vars + 1 + length front) p ≡ p.first ∷ p.second ∷ [] = ap (λ (n : ℕ). brings S n p) place ∙ cond-true (has S (Pos d)) (p.first ∷ p.second ∷ []) [] yes in
    let all : held_by S (vars + 1) (take (i + 1) pairs) ≡ held ++ (p.first ∷ p.second ∷ []) =
    ap (held_by S (vars + 1)) (take_next pairs i p below is) ∙ held_push S (vars + 1) front p ∙ ap (λ (ls : List Literal). held ++ ls) brought in
    marked_same new (λ l. has (S ++ held) l || has (p.first ∷ p.second ∷ []) l) (has (S ++ held_by S (vars + 1) (take (i + 1) pairs)))
    (λ l. sym (has_append (S ++ held) (p.first ∷ p.second ∷ []) l) ∙ ap (λ (ls : List Literal). has ls l) (append_assoc S held (p.first ∷ p.second ∷ []) ∙ ap (λ (ls : List Literal). S ++ ls) (sym all))) h

pub held_other : (vars : ℕ) (S : List Literal) (pairs : List Pair) (i d : ℕ) (p : Pair) (marks : List Bool) → i < length pairs → p ≡ get_or pairs i p → All (IsPairOf vars) pairs → d ≡ vars + 1 + i
    → 2 * d < length marks → get_or marks (index_of (Pos d)) false ≡ false
    → AreMarked marks (has (S ++ held_by S (vars + 1) (take i pairs))) → AreMarked marks (has (S ++ held_by S (vars + 1) (take (i + 1) pairs)))
held_other vars S pairs i d p marks below is are number inside missed old =
    let front : List Pair = take i pairs in
    let held : List Literal = held_by S (vars + 1) front in
    let none : has S (Pos d) ≡ false = sym (variable_marked vars S pairs i d marks are (omega arith) (omega arith) inside old) ∙ missed in
    let place : vars + 1 + length front ≡ d = omega (arith, length-take-le i pairs (omega arith)) in
    let brought : brings S (vars + 1 + length front) p ≡ [] = ap (λ (n : ℕ). brings S n p) place ∙ cond-false (has S (Pos d)) (p.first ∷ p.second ∷ []) [] none in
    let all : held_by S (vars + 1) (take (i + 1) pairs) ≡ held =
    ap (held_by S (vars + 1)) (take_next pairs i p below is) ∙ held_push S (vars + 1) front p ∙ ap (λ (ls : List Literal). held ++ ls) brought ∙ append-nil held in
    marked_same marks (has (S ++ held)) (has (S ++ held_by S (vars + 1) (take (i + 1) pairs))) (λ l. ap (λ (ls : List Literal). has (S ++ ls) l) (sym all)) old

-- ---- the walk that takes marks away
literals_push : (xs : List Pair) (p : Pair) → literals_of (xs ++ p ∷ []) ≡ literals_of xs ++ (p.first ∷ p.second ∷ [])
literals_push [] p = refl
literals_push (x ∷ xs) p = ap (λ (ls : List Literal). x.first ∷ x.second ∷ ls) (literals_push xs p)

and_not : (t a b : Bool) → ((t && not a) && not b) ≡ (t && not (a || b))
and_not true true b = refl
and_not true false b = refl
and_not false a b = refl

pub unmarked_none : (marks : List Bool) (test : Literal → Bool) → AreMarked marks test → AreMarked marks (λ l. test l && not (has [] l))
unmarked_none marks test h = marked_same marks test (λ l. test l && not (has [] l)) (λ l. sym (and_true (test l))) h
  where
    and_true : (a : Bool) → (a && true) ≡ a
    and_true true = refl
    and_true false = refl

pub unmarked_more : (marks : List Bool) (test : Literal → Bool) (pairs : List Pair) (i : ℕ) (p : Pair) → i < length pairs → p ≡ get_or pairs i p
    → AreMarked marks (λ l. (test l && not (has (literals_of (take i pairs)) l)) && not (has (p.first ∷ p.second ∷ []) l)) → AreMarked marks (λ l. test l && not (has (literals_of (take (i + 1) pairs)) l))
unmarked_more marks test pairs i p below is h =
    let front : List Literal = literals_of (take i pairs) in
    let two : List Literal = p.first ∷ p.second ∷ [] in
    let all : literals_of (take (i + 1) pairs) ≡ front ++ two = ap literals_of (take_next pairs i p below is) ∙ literals_push (take i pairs) p in
    marked_same marks (λ l. (test l && not (has front l)) && not (has two l)) (λ l. test l && not (has (literals_of (take (i + 1) pairs)) l))
    (λ l. and_not (test l) (has front l) (has two l) ∙ ap (λ (b : Bool). test l && not b) (sym (has_append front two l) ∙ ap (λ (ls : List Literal). has ls l) (sym all))) h

-- ---- all marks are taken away
held_inside : (S : List Literal) (d : ℕ) (pairs : List Pair) (l : Literal) → has (literals_of pairs) l ≡ false → has (held_by S d pairs) l ≡ false
held_inside S d [] l h = refl
held_inside S d (p ∷ pairs) l h =
    let first = or_parts (same l p.first) (same l p.second || has (literals_of pairs) l) h in
    let second = or_parts (same l p.second) (has (literals_of pairs) l) first.1 in
    has_append (brings S d p) (held_by S (d + 1) pairs) l
    ∙ or_from (has (brings S d p) l) (has (held_by S (d + 1) pairs) l) (one S d p l first.0 second.0) (held_inside S (d + 1) pairs l second.1)
  where
    one : (S : List Literal) (d : ℕ) (p : Pair) (l : Literal) → same l p.first ≡ false → same l p.second ≡ false → has (brings S d p) l ≡ false
    one S d p l a b = elim (cases_Bool (has S (Pos d))) [
      | inl t ↦ ap (λ (ls : List Literal). has ls l) (cond-true (has S (Pos d)) (p.first ∷ p.second ∷ []) [] t) ∙ or_from (same l p.first) (same l p.second || false) a (or_from (same l p.second) false b refl)
      | inr f ↦ ap (λ (ls : List Literal). has ls l) (cond-false (has S (Pos d)) (p.first ∷ p.second ∷ []) [] f)
    ]

nothing_left : (u c h a : Bool) → (a ≡ false → h ≡ false) → (((((u || c) || h) && not u) && not c) && not a) ≡ false
nothing_left true c h a e = and_false ((not (true) && not c)) a
  where
    and_false : (x a : Bool) → ((false && x) && not a) ≡ false
    and_false x a = refl
nothing_left false true h a e = refl
nothing_left false false true true e = refl
nothing_left false false true false e = absurd (true≢false (e refl))
nothing_left false false false a e = refl

pub all_unmarked : (marks : List Bool) (units cube : List Literal) (d : ℕ) (pairs : List Pair)
    → AreMarked marks (λ l. ((has ((units ++ cube) ++ held_by (units ++ cube) d pairs) l && not (has units l)) && not (has cube l)) && not (has (literals_of pairs) l))
    → AreMarked marks (λ l. false)
all_unmarked marks units cube d pairs h =
    let S : List Literal = units ++ cube in
    marked_same marks (λ l. ((has (S ++ held_by S d pairs) l && not (has units l)) && not (has cube l)) && not (has (literals_of pairs) l)) (λ l. false)
    (λ l.
    ap (λ (b : Bool). ((b && not (has units l)) && not (has cube l)) && not (has (literals_of pairs) l)) (has_append S (held_by S d pairs) l ∙ ap (λ (b : Bool). b || has (held_by S d pairs) l) (has_append units cube l))
    ∙ nothing_left (has units l) (has cube l) (has (held_by S d pairs) l) (has (literals_of pairs) l) (held_inside S d pairs l)) h

-- ---- open by the table, and open
open_from : (F : Cnf) (pairs : List Pair) (S : List Literal) (marks : List Bool) (i : ℕ) → All (IsPairOf F.vars) pairs → AreMarked marks (has S) → 2 * (F.vars + length pairs + 1) ≤ length marks
    → IsUndecided F pairs S i → IsUndecidedBy marks F.vars pairs i
open_from F pairs S marks i are m room h =
    let within = slice_get_within pairs i h.pair h.there in
    let is : IsPairOf F.vars h.pair = subst (IsPairOf F.vars) (get_or_from_slice_get pairs i h.pair h.pair h.there) (All-get_or (IsPairOf F.vars) pairs i h.pair within are) in
    let a = is.rise in
    let b = is.up_to in
    record {
      pair = h.pair;
      there = h.there;
      itself = unmarked_from marks S (F.vars + 1 + i) m (omega arith) h.itself;
      first = unmarked_from marks S (var_of h.pair.first) m (omega arith) h.first;
      second = unmarked_from marks S (var_of h.pair.second) m (omega arith) h.second;
    }

open_back : (F : Cnf) (pairs : List Pair) (S : List Literal) (marks : List Bool) (i : ℕ) → All (IsPairOf F.vars) pairs → AreMarked marks (has S) → 2 * (F.vars + length pairs + 1) ≤ length marks
    → IsUndecidedBy marks F.vars pairs i → IsUndecided F pairs S i
open_back F pairs S marks i are m room h =
    let within = slice_get_within pairs i h.pair h.there in
    let is : IsPairOf F.vars h.pair = subst (IsPairOf F.vars) (get_or_from_slice_get pairs i h.pair h.pair h.there) (All-get_or (IsPairOf F.vars) pairs i h.pair within are) in
    let a = is.rise in
    let b = is.up_to in
    record {
      pair = h.pair;
      there = h.there;
      itself = free_unmarked marks S (F.vars + 1 + i) m (omega arith) h.itself;
      first = free_unmarked marks S (var_of h.pair.first) m (omega arith) h.first;
      second = free_unmarked marks S (var_of h.pair.second) m (omega arith) h.second;
    }

defined_at : (F : Cnf) (pairs : List Pair) (S : List Literal) (marks : List Bool) (v : ℕ) → All (IsPairOf F.vars) pairs → AreMarked marks (has S) → 2 * (F.vars + length pairs + 1) ≤ length marks
    → (i : ℕ) × (v ≡ F.vars + 1 + i) × IsUndecidedBy marks F.vars pairs i × ((j : ℕ) → j < i → ¬ (IsUndecidedBy marks F.vars pairs j)) → IsChosen F pairs S (Some v)
defined_at F pairs S marks v are m room (i, e, is_undecided, lowest) =
    IsChosen.defined i (open_back F pairs S marks i are m room is_undecided) (λ j below h. lowest j below (open_from F pairs S marks j are m room h)) (ap (λ (n : ℕ). Some n) e)

pub defined_by : (F : Cnf) (pairs : List Pair) (S : List Literal) (marks : List Bool) (vars v : ℕ) → vars ≡ F.vars → All (IsPairOf F.vars) pairs → AreMarked marks (has S) → 2 * (F.vars + length pairs + 1) ≤ length marks
    → (i : ℕ) × (v ≡ vars + 1 + i) × IsUndecidedBy marks vars pairs i × ((j : ℕ) → j < i → ¬ (IsUndecidedBy marks vars pairs j)) → IsChosen F pairs S (Some v)
defined_by F pairs S marks vars v e are m room h =
    defined_at F pairs S marks v are m room (subst (λ (n : ℕ). (i : ℕ) × (v ≡ n + 1 + i) × IsUndecidedBy marks n pairs i × ((j : ℕ) → j < i → ¬ (IsUndecidedBy marks n pairs j))) e h)

pub plain_by : (F : Cnf) (pairs : List Pair) (S : List Literal) (marks : List Bool) (vars : ℕ) (v : Option ℕ) → vars ≡ F.vars → All (IsPairOf F.vars) pairs → AreMarked marks (has S) → 2 * (F.vars + length pairs + 1) ≤ length marks
    → ((j : ℕ) → ¬ (IsUndecidedBy marks vars pairs j)) → Choice F S v → IsChosen F pairs S v
plain_by F pairs S marks vars v e are m room none choice = IsChosen.plain (λ j h. none j (subst (λ (n : ℕ). IsUndecidedBy marks n pairs j) (sym e) (open_from F pairs S marks j are m room h))) choice

-- without definitions
pub plain_choice : (F : Cnf) (units : List Literal) (pairs : List Pair) (cube : Cube) (v : Option ℕ) → pairs ≡ [] → IsChosen F pairs ((units ++ cube) ++ held_by (units ++ cube) (F.vars + 1) pairs) v → Choice F (units ++ cube) v
plain_choice F units pairs cube v none h =
    let S : List Literal = units ++ cube in
    go F S v (subst (λ (ps : List Pair). IsChosen F ps (S ++ held_by S (F.vars + 1) ps) v) none h)
  where
    go : (F : Cnf) (S : List Literal) (v : Option ℕ) → IsChosen F [] (S ++ []) v → Choice F S v
    go F S v (IsChosen.defined i is_undecided lowest e) = let within = slice_get_within [] i is_undecided.pair is_undecided.there in absurd (omega arith)
    go F S v (IsChosen.plain none choice) = subst (λ (T : List Literal). Choice F T v) (append-nil S) choice

-- ---- the walk that looks for an open one
pub not_open : (marks : List Bool) (vars : ℕ) (pairs : List Pair) (i v : ℕ) (p : Pair) → i < length pairs → p ≡ get_or pairs i p → v ≡ vars + 1 + i
    → (IsUnmarked marks v → IsUnmarked marks (var_of p.first) → IsUnmarked marks (var_of p.second) → ⊥) → ¬ (IsUndecidedBy marks vars pairs i)
not_open marks vars pairs i v p below is e apart h =
    let same_one : h.pair ≡ p = sym (get_or_from_slice_get pairs i h.pair p h.there) ∙ sym is in
    apart (subst (IsUnmarked marks) (sym e) h.itself) (subst (λ (q : Pair). IsUnmarked marks (var_of q.first)) same_one h.first) (subst (λ (q : Pair). IsUnmarked marks (var_of q.second)) same_one h.second)

pub is_open_at : (marks : List Bool) (vars : ℕ) (pairs : List Pair) (i v : ℕ) (p : Pair) → i < length pairs → p ≡ get_or pairs i p → v ≡ vars + 1 + i
    → IsUnmarked marks v × IsUnmarked marks (var_of p.first) × IsUnmarked marks (var_of p.second) → IsUndecidedBy marks vars pairs i
is_open_at marks vars pairs i v p below is e h = record {
  pair = p;
  there = slice_get_read pairs (length pairs) i p refl below is;
  itself = subst (IsUnmarked marks) e h.0;
  first = h.1;
  second = h.2;
}

pub not_past : (marks : List Bool) (vars : ℕ) (pairs : List Pair) (j : ℕ) → length pairs ≤ j → ¬ (IsUndecidedBy marks vars pairs j)
not_past marks vars pairs j over h = let within = slice_get_within pairs j h.pair h.there in omega arith
