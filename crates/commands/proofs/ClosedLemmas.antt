-- Which leaves a receipt closes, beside those that it leaves open.
use Rattle.std.specs.Prelude.{if◌then◌else◌}
use Rattle.std.proofs.Common.{◌≡◌, inl, inr, ◌∙◌, ◌+◌, ◌<◌, ◌≤◌, ◌^◌, ◌==◌, ◌++◌, ℕ, zero, suc, Bool, true, false, not, List, [], ◌∷◌, length, drop, refl, sym, ap, subst, append_assoc, append-nil, add-one, arith}
use Rattle.std.specs.List.{All}
use Rattle.std.proofs.lemmas.Bool.{ne_eqb}
use Rattle.std.proofs.lemmas.Bool.Decides.{eqb_tells}
use Rattle.std.proofs.lemmas.List.Elements.{All-cons, All-nil, All-weaker}
use Rattle.commands.specs.Receipts.{closed_at, closed_lines}
use Rattle.commands.specs.inner.Receipts.{IsAt, is_first}
use Rattle.dimacs.specs.logic.Cnf.{AreWithin}
use Rattle.dimacs.specs.logic.Literal.{Clause, IsWithin}
use Rattle.dimacs.proofs.BuilderLemmas.{within_more}
use Rattle.log_join.specs.ClosedLeaves.{Leaf, is_closed, open_from, with_open}

-- ---- the tree of a formula
-- what is within the variables of a formula is within those of lemmas
pub within_lemmas : (vars : ℕ) (cs : List Clause) → vars ≤ 1000000 → AreWithin vars cs → AreWithin 2000000 cs
within_lemmas vars cs le h = All-weaker (All (IsWithin vars)) (All (IsWithin 2000000)) (λ C w. within_more vars 2000000 C (omega (arith, le)) w) cs h

-- ---- the places of open leaves
same_place : (n : ℕ) → (n == n) ≡ true
same_place n = elim (eqb_tells n n) [
  | inl same ↦ same.0
  | inr other ↦ absurd (other.1 refl)
]

other_of : (b : Bool) (place from : ℕ) (rest : List ℕ) → place < from → is_first place rest ≡ false → is_first place (with_open b from rest) ≡ false
other_of true place from rest h e = e
other_of false place from rest h e = ne_eqb from place (λ same. omega (arith, same, h))

-- a place is not the first of those after it
not_behind : (place from : ℕ) (rest : List Leaf) → place < from → is_first place (open_from from rest) ≡ false
not_behind place from [] h = refl
not_behind place from (k ∷ rest) h = other_of (is_closed k) place from (open_from (from + 1) rest) h (not_behind place (from + 1) rest (omega (arith, h)))

first_of : (b : Bool) (place : ℕ) (rest : List ℕ) → is_first place rest ≡ false → is_first place (with_open b place rest) ≡ not b
first_of true place rest e = e
first_of false place rest e = same_place place

first_is : (place : ℕ) (k : Leaf) (rest : List Leaf) → is_first place (open_from place (k ∷ rest)) ≡ not (is_closed k)
first_is place k rest = first_of (is_closed k) place (open_from (place + 1) rest) (not_behind place (place + 1) rest (omega arith))

drop_next : (at : ℕ) (xs ys : List ℕ) (y : ℕ) → drop at xs ≡ y ∷ ys → drop (suc at) xs ≡ ys
drop_next zero xs ys y e = ap (drop 1) e
drop_next (suc at) [] ys y e = absurd (cc)
drop_next (suc at) (x ∷ xs) ys y e = drop_next at xs ys y e

-- ---- a place more
told_case : (b is_open : Bool) (place at : ℕ) (places tail out text all : List ℕ) → is_open ≡ not b → drop at places ≡ with_open b place tail
    → out ++ (closed_at b place ++ text) ≡ all → (drop (if is_open then at + 1 else at) places ≡ tail) × ((out ++ closed_at (not is_open) place) ++ text ≡ all)
told_case true false place at places tail out text all e left lines = (left, append_assoc out (closed_at true place) text ∙ lines)
told_case false true place at places tail out text all e left lines =
    (ap (λ n. drop n places) (add-one at) ∙ drop_next at places tail place left, append_assoc out [] text ∙ lines)
told_case true true place at places tail out text all e left lines = absurd (cc)
told_case false false place at places tail out text all e left lines = absurd (cc)

told_at : (places : List ℕ) (leaves : List Leaf) (from : List ℕ) (place at : ℕ) (out : List ℕ) (is_open : Bool) (rest : List Leaf)
    → drop at places ≡ open_from place rest → out ++ closed_lines place rest ≡ from ++ closed_lines 0 leaves → place + length rest ≡ length leaves
    → place < length leaves → is_open ≡ is_first place (drop at places)
    → IsAt places leaves from (place + 1) (if is_open then at + 1 else at) (out ++ closed_at (not is_open) place)
told_at places leaves from place at out is_open [] left lines many within e = absurd (omega (arith, many, within))
told_at places leaves from place at out is_open (k ∷ rest) left lines many within e =
    let told = told_case (is_closed k) is_open place at places (open_from (place + 1) rest) out (closed_lines (place + 1) rest) (from ++ closed_lines 0 leaves)
    (e ∙ ap (is_first place) left ∙ first_is place k rest) left lines in
    record { rest = rest; left = told.0; lines = told.1; many = omega (arith, many) }

-- one place more was gone through
pub told_next : (places : List ℕ) (leaves : List Leaf) (from : List ℕ) (place at : ℕ) (out more : List ℕ) (is_open : Bool)
    → IsAt places leaves from place at out → place < length leaves → is_open ≡ is_first place (drop at places) → more ≡ out ++ closed_at (not is_open) place
    → IsAt places leaves from (place + 1) (if is_open then at + 1 else at) more
told_next places leaves from place at out more is_open h within e is =
    subst (IsAt places leaves from (place + 1) (if is_open then at + 1 else at)) (sym is)
    (told_at places leaves from place at out is_open h.rest h.left h.lines h.many within e)

told_end : (leaves : List Leaf) (from : List ℕ) (place : ℕ) (out : List ℕ) (rest : List Leaf)
    → out ++ closed_lines place rest ≡ from ++ closed_lines 0 leaves → place + length rest ≡ length leaves → place ≡ length leaves → out ≡ from ++ closed_lines 0 leaves
told_end leaves from place out [] lines many e = sym (append-nil out) ∙ lines
told_end leaves from place out (k ∷ rest) lines many e = absurd (omega (arith, many, e))

-- no more open places were passed than places
pub passed_low : (b : Bool) (at place n : ℕ) → n ≡ (if b then at + 1 else at) → at ≤ place → n ≤ place + 1
passed_low true at place n e low = omega (arith, e, low)
passed_low false at place n e low = omega (arith, e, low)

-- all places were
pub told_all : (places : List ℕ) (leaves : List Leaf) (from : List ℕ) (place at : ℕ) (out : List ℕ) → IsAt places leaves from place at out
    → place ≡ length leaves → out ≡ from ++ closed_lines 0 leaves
told_all places leaves from place at out h e = told_end leaves from place out h.rest h.lines h.many e

-- none was
pub told_none : (places : List ℕ) (leaves : List Leaf) (from : List ℕ) → places ≡ open_from 0 leaves → IsAt places leaves from 0 0 from
told_none places leaves from e = record { rest = leaves; left = e; lines = refl; many = omega arith }

-- ---- how far places go
within_of : (b : Bool) (i n : ℕ) (rest : List ℕ) → i < n → All (λ p. p < n) rest → All (λ p. p < n) (with_open b i rest)
within_of true i n rest low h = h
within_of false i n rest low h = All-cons (λ p. p < n) i rest low h

places_within : (i n : ℕ) (leaves : List Leaf) → i + length leaves ≤ n → All (λ p. p < n) (open_from i leaves)
places_within i n [] le = All-nil (λ p. p < n)
places_within i n (k ∷ leaves) le =
    within_of (is_closed k) i n (open_from (i + 1) leaves) (omega (arith, le)) (places_within (i + 1) n leaves (omega (arith, le)))

-- the places of at most 65,536 leaves can be counted
pub few_places : (leaves : List Leaf) → length leaves ≤ 65536 → All (λ p. p + 1 < 2 ^ 64) (open_from 0 leaves)
few_places leaves few = All-weaker (λ p. p < 65536) (λ p. p + 1 < 2 ^ 64) (λ p low. omega (arith, low)) (open_from 0 leaves) (places_within 0 65536 leaves (omega (arith, few)))
