-- Clauses in the making, as they lie in lists.
use Rattle.std.proofs.Common.{◌≡◌, ℕ, zero, suc, ◌+◌, ◌-◌, ◌<◌, ◌≤◌, ◌^◌, max, List, [], ◌∷◌, ◌++◌, length, get_or, take, drop, refl, sym, ap, ◌∙◌, arith, length-append, length-drop, ⊎_elim}
use Rattle.std.proofs.Math.Seq.{get_or-append_seam}
use Rattle.std.proofs.lemmas.Bool.{cases_lt}
use Rattle.std.proofs.lemmas.List.{take_all, drop_all, take-append-le, take-append-drop, drop-append-le, get_or_append_left, get_or_read}
use Rattle.dimacs.specs.layout.BuilderState.{BuilderState}
use Rattle.dimacs.specs.inner.BuilderLayout.{IsLaid}
use Rattle.dimacs.specs.logic.Cnf.{AreWithin, greatest_of, greatest_in}
use Rattle.dimacs.proofs.WithinLemmas.{EachWithin, each_within}
use Rattle.dimacs.specs.logic.Literal.{Literal, Clause, IsWithin, var_of}
use Rattle.std.specs.List.{All, AllByRecursion}
use Rattle.std.proofs.lemmas.List.Elements.{All-weaker, All-push, All-nil}
use Rattle.dimacs.specs.layout.Flat.{parts, ArePlaces, Fills, last_place}
use Rattle.dimacs.proofs.FormulaLemmas.{places_tail}

abbrev pub state : List Clause → Clause → ℕ → BuilderState
state done open_clause total = record { done = done; open_clause = open_clause; total = total }

slice_stays : (xs ys : List Literal) (a b : ℕ) → a ≤ b → b ≤ length xs → take (b - a) (drop a (xs ++ ys)) ≡ take (b - a) (drop a xs)
slice_stays xs ys a b low high =
    let p : a ≤ length xs = omega arith in
    let q : b - a ≤ length (drop a xs) = omega (arith, length-drop a xs) in
    rw (drop-append-le, take-append-le) refl

-- more at the end changes no part
pub parts_append : (xs ys : List Literal) (places : List ℕ) → ArePlaces places (length xs) → parts (xs ++ ys) places ≡ parts xs places
parts_append xs ys [] h = refl
parts_append xs ys (a ∷ []) h = refl
parts_append xs ys (a ∷ b ∷ places) h =
    let low : a ≤ b = h.rise 0 (omega arith) in
    let high : b ≤ length xs = h.inside 1 (omega arith) in
    rw (slice_stays xs ys a b low high, parts_append xs ys (b ∷ places) (places_tail a b places (length xs) h)) refl

pub last_cons : (a b : ℕ) (places : List ℕ) → last_place (a ∷ b ∷ places) ≡ last_place (b ∷ places)
last_cons a b places =
    let k : length (a ∷ b ∷ places) - 1 ≡ suc (length (b ∷ places) - 1) = omega arith in
    rw k refl

-- the last place, at the end of the list, makes one more part
pub parts_end : (xs : List Literal) (places : List ℕ) (n : ℕ) → n ≡ length xs → ArePlaces places n → parts xs (places ++ n ∷ []) ≡ parts xs places ++ drop (last_place places) xs ∷ []
parts_end xs [] n e h = absurd (omega (arith, h.some))
parts_end xs (a ∷ []) n e h = ap (λ (p : List Literal). p ∷ []) (take_all (n - a) (drop a xs) (omega (arith, length-drop a xs)))
parts_end xs (a ∷ b ∷ places) n e h =
    rw (last_cons a b places) (ap (λ (ps : List Clause). take (b - a) (drop a xs) ∷ ps) (parts_end xs (b ∷ places) n e (places_tail a b places n h)))

rise_push : (places : List ℕ) (len n i : ℕ) → n ≡ len → ArePlaces places len → i + 1 < length (places ++ n ∷ []) → get_or (places ++ n ∷ []) i 0 ≤ get_or (places ++ n ∷ []) (i + 1) 0
rise_push places len n i e h lt =
    let all = length-append places (n ∷ []) in
    let here : i < length places = omega arith in
    ⊎_elim
    (λ (more : i + 1 < length places). rw (get_or_append_left places (n ∷ []) 0 i here, get_or_append_left places (n ∷ []) 0 (i + 1) more) (h.rise i more))
    (λ (last : length places ≤ i + 1).
    let at : i + 1 ≡ length places = omega arith in
    rw (get_or_append_left places (n ∷ []) 0 i here, at, get_or-append_seam places n [] 0) (omega (arith, h.inside i here)))
    (cases_lt (i + 1) (length places))

inside_push : (places : List ℕ) (len n i : ℕ) → n ≡ len → ArePlaces places len → i < length (places ++ n ∷ []) → get_or (places ++ n ∷ []) i 0 ≤ len
inside_push places len n i e h lt =
    let all = length-append places (n ∷ []) in
    ⊎_elim
    (λ (more : i < length places). rw (get_or_append_left places (n ∷ []) 0 i more) (h.inside i more))
    (λ (last : length places ≤ i).
    let at : i ≡ length places = omega arith in
    rw (at, get_or-append_seam places n [] 0) (omega arith))
    (cases_lt i (length places))

-- the new end is a place
pub places_push : (places : List ℕ) (len n : ℕ) → n ≡ len → ArePlaces places len → ArePlaces (places ++ n ∷ []) len
places_push places len n e h = record {
  some = omega (arith, length-append places (n ∷ []));
  rise = λ i lt. rise_push places len n i e h lt;
  inside = λ i lt. inside_push places len n i e h lt;
}

-- places stay places in a longer list
pub places_longer : (places : List ℕ) (len more : ℕ) → len ≤ more → ArePlaces places len → ArePlaces places more
places_longer places len more le h = record { some = h.some; rise = h.rise; inside = λ i lt. omega (arith, h.inside i lt) }

-- the last place is within the list
pub last_inside : (places : List ℕ) (len : ℕ) → ArePlaces places len → last_place places ≤ len
last_inside places len h = h.inside (length places - 1) (omega (arith, h.some))

-- what reading the last place gives
pub last_read : (places : List ℕ) (n r : ℕ) → n ≡ length places → 0 < length places → r ≡ get_or places (n - 1) r → r ≡ last_place places
last_read places n r e some h = get_or_read places (n - 1) r (omega arith) h 0 ∙ ap (λ k. get_or places (k - 1) 0) e

-- after the new end
pub last_push : (places : List ℕ) (n : ℕ) → last_place (places ++ n ∷ []) ≡ n
last_push places n =
    let at : length (places ++ n ∷ []) - 1 ≡ length places = omega (arith, length-append places (n ∷ [])) in
    rw (at, get_or-append_seam places n [] 0) refl

-- one more literal
pub builder_push : (n m : ℕ) (xs ys : List Literal) (places : List ℕ) (l : Literal) → n ≡ length xs → m ≡ n + 1 → ys ≡ xs ++ l ∷ [] → ArePlaces places n
    → state (parts ys places) (drop (last_place places) ys) m ≡ state (parts xs places) (drop (last_place places) xs ++ l ∷ []) (n + 1)
builder_push n m xs ys places l e f g h =
    let at : ArePlaces places (length xs) = rw e at h in
    let low : last_place places ≤ length xs = last_inside places (length xs) at in
    rw (f, g, parts_append xs (l ∷ []) places at, drop-append-le) refl

-- the end of a clause
pub builder_end : (n : ℕ) (xs : List Literal) (places more : List ℕ) → n ≡ length xs → more ≡ places ++ n ∷ [] → ArePlaces places n
    → state (parts xs more) (drop (last_place more) xs) n ≡ state (parts xs places ++ drop (last_place places) xs ∷ []) [] n
builder_end n xs places more e f h =
    rw (f, parts_end xs places n e h, last_push places n, drop_all n xs (omega arith)) refl

-- ---- the greatest variable

greatest_append : (xs ys : Clause) → greatest_of (xs ++ ys) ≡ max (greatest_of xs) (greatest_of ys)
greatest_append [] ys = omega arith
greatest_append (x ∷ xs) ys = omega (arith, greatest_append xs ys)

greatest_split : (n : ℕ) (xs : Clause) → greatest_of xs ≡ max (greatest_of (take n xs)) (greatest_of (drop n xs))
greatest_split n xs = ap greatest_of (sym (take-append-drop n xs)) ∙ greatest_append (take n xs) (drop n xs)

pub drop_on : (a b : ℕ) (xs : Clause) → a ≤ b → drop (b - a) (drop a xs) ≡ drop b xs
drop_on zero b xs h = let e : b - 0 ≡ b = omega arith in rw e refl
drop_on (suc a) zero xs h = absurd (omega arith)
drop_on (suc a) (suc b) [] h = drop_all (suc b - suc a) [] (omega arith)
drop_on (suc a) (suc b) (x ∷ xs) h = let e : suc b - suc a ≡ b - a = omega arith in rw e (drop_on a b xs (omega arith))

greatest_parts : (xs : Clause) (a : ℕ) (places : List ℕ) → ArePlaces (a ∷ places) (length xs)
    → greatest_of (drop a xs) ≡ max (greatest_in (parts xs (a ∷ places))) (greatest_of (drop (last_place (a ∷ places)) xs))
greatest_parts xs a [] h = omega arith
greatest_parts xs a (b ∷ places) h =
    let low : a ≤ b = h.rise 0 (omega arith) in
    let split = greatest_split (b - a) (drop a xs) in
    let rest = ap greatest_of (drop_on a b xs low) in
    rw (last_cons a b places) (omega (arith, split, rest, greatest_parts xs b places (places_tail a b places (length xs) h)))

-- the greatest variable of all that lies in the list
pub greatest_is : (xs : Clause) (places : List ℕ) (greatest : ℕ) → IsLaid xs places greatest → greatest ≡ max (greatest_in (parts xs places)) (greatest_of (drop (last_place places) xs))
greatest_is xs [] greatest h = absurd (omega (arith, h.rise.some))
greatest_is xs (a ∷ places) greatest h = h.top ∙ ap (λ n. greatest_of (drop n xs)) (sym h.first) ∙ greatest_parts xs a places h.rise

-- ---- how the lists lie

pub within_more : (m n : ℕ) (xs : Clause) → m ≤ n → All (IsWithin m) xs → All (IsWithin n) xs
within_more m n xs le h = All-weaker (IsWithin m) (IsWithin n) (λ l w. (w.0, omega (arith, w.1))) xs h

pub laid_new : IsLaid [] (0 ∷ []) 0
laid_new = record {
  total = omega arith;
  count = omega arith;
  rise = record { some = omega arith; rise = λ i h. absurd (omega arith); inside = λ i h. inside_one i h };
  first = refl;
  within = All-nil (IsWithin 0);
  top = refl;
  limit = omega arith;
} where
  inside_one : (i : ℕ) → i < 1 → get_or (0 ∷ []) i 0 ≤ 0
  inside_one zero h = omega arith
  inside_one (suc i) h = absurd (omega arith)

pub laid_push : (xs ys : Clause) (places : List ℕ) (l : Literal) (g m : ℕ) → IsLaid xs places g → length xs < 999999999 → 0 < var_of l → var_of l < 2 ^ 31 → m ≡ max g (var_of l) → ys ≡ xs ++ l ∷ [] → IsLaid ys places m
laid_push xs ys places l g m h room some small is e =
    let more = length-append xs (l ∷ []) in
    rw (is, e) record {
      total = omega arith;
      count = h.count;
      rise = places_longer places (length xs) (length (xs ++ l ∷ [])) (omega arith) h.rise;
      first = h.first;
      within = All-push (IsWithin (max g (var_of l))) xs l (within_more g (max g (var_of l)) xs (omega arith) h.within) (some, omega arith);
      top = omega (arith, greatest_append xs (l ∷ []), h.top);
      limit = omega (arith, h.limit);
    }

pub laid_end : (xs : Clause) (places more : List ℕ) (g n : ℕ) → IsLaid xs places g → length places ≤ 99999999 → n ≡ length xs → more ≡ places ++ n ∷ [] → IsLaid xs more g
laid_end xs places more g n h room e f =
    rw f record {
      total = h.total;
      count = omega (arith, length-append places (n ∷ []));
      rise = places_push places (length xs) n e h.rise;
      first = get_or_append_left places (n ∷ []) 0 0 h.rise.some ∙ h.first;
      within = h.within;
      top = h.top;
      limit = h.limit;
    }

-- ---- what is asked at the end

clause_greatest : (vars : ℕ) (c : Clause) → AllByRecursion (IsWithin vars) c → greatest_of c ≤ vars
clause_greatest vars [] h = omega arith
clause_greatest vars (l ∷ c) h = omega (arith, h.0.1, clause_greatest vars c h.1)

clauses_greatest : (vars : ℕ) (cs : List Clause) → EachWithin vars cs → greatest_in cs ≤ vars
clauses_greatest vars [] h = omega arith
clauses_greatest vars (c ∷ cs) h = omega (arith, clause_greatest vars c h.0, clauses_greatest vars cs h.1)

-- literals within the variables, if no clause is open
pub closed_within : (xs : Clause) (places : List ℕ) (g vars : ℕ) → IsLaid xs places g → drop (last_place places) xs ≡ [] → AreWithin vars (parts xs places) → All (IsWithin vars) xs
closed_within xs places g vars h closed w =
    let top = greatest_is xs places g h in
    let none = ap greatest_of closed in
    within_more g vars xs (omega (arith, top, none, clauses_greatest vars (parts xs places) (each_within vars (parts xs places) w))) h.within

-- they fill the list, if no clause is open
pub closed_fills : (xs : Clause) (places : List ℕ) (g : ℕ) → IsLaid xs places g → drop (last_place places) xs ≡ [] → Fills xs places
closed_fills xs places g h closed =
    let none = ap length closed in
    record { rise = h.rise; begins = h.first; ends = omega (arith, none, length-drop (last_place places) xs, last_inside places (length xs) h.rise) }
