-- Which leaves each lemma closes when it is its turn, and which lemmas close none.
use Rattle.std.proofs.Common.{◌≡◌, ℕ, ◌<◌, ◌≤◌, inl, inr, ◌⊎◌, Bool, true, false, ◌&&◌, ◌||◌, cond, Option, Some, None, List, [], ◌∷◌, map, refl, sym, ◌∙◌, ap, subst, arith}
use Rattle.std.specs.Prelude.{IsSome, nat_eq, is_some, is_none}
use Rattle.std.specs.List.{Contains, list_any, list_all}
use Rattle.std.specs.FinMap.{get}
use Rattle.std.proofs.lemmas.Bool.{true≢false, ne_eqb, or_left, or_right}
use Rattle.dimacs.specs.logic.ClauseMap.{ClauseMap}
use Rattle.dimacs.specs.logic.Literal.{Clause, negation, has}
use Rattle.dimacs.proofs.Members.{Contains-head, Contains-cons, Contains-cons_cases, Contains-nil, has-Contains}
use Rattle.icnf.specs.Leaves.{Cube}
use Rattle.proof_join.proofs.MapLemmas.{live_some}
use Rattle.proof_join.proofs.NodeLemmas.{Negating}
use Rattle.log_join.specs.ClosedLeaves.{closes, Numbered, Leaf, is_closed, can_close, closed_by, settled, all_settled, spent}

pub both : (a b : Bool) → (a && b) ≡ true → (a ≡ true) × (b ≡ true)
both true true e = (refl, refl)
both true false e = absurd cc
both false b e = absurd cc

-- ---- what closes
pub closes_negates : (q : Cube) (C : Clause) → closes q C ≡ true → Negating q C
closes_negates q [] e l i = absurd (Contains-nil l i)
closes_negates q (k ∷ C) e l i =
    let two = both (has q (negation k)) (list_all (λ x. has q (negation x)) C) e in
    elim (Contains-cons_cases k l C i) [
      | inl same_one ↦ subst (λ x. Contains q (negation x)) same_one (has-Contains q (negation k) two.0)
      | inr later ↦ closes_negates q C two.1 l later
    ]

-- ---- one lemma
pub from_map : {X Y : Type 0} (f : X → Y) (xs : List X) (y : Y) → Contains (map f xs) y → (x : X) × Contains xs x × (f x ≡ y)
from_map f [] y i = absurd (Contains-nil y i)
from_map f (x ∷ xs) y i = elim (Contains-cons_cases (f x) y (map f xs) i) [
  | inl e ↦ (x, Contains-head x xs, e)
  | inr later ↦ (let r = from_map f xs y later in (r.0, Contains-cons x r.0 xs r.1, r.2))
]

pub any_member : {X : Type 0} (p : X → Bool) (xs : List X) (x : X) → Contains xs x → p x ≡ true → list_any p xs ≡ true
any_member p [] x i e = absurd (Contains-nil x i)
any_member p (y ∷ xs) x i e = elim (Contains-cons_cases y x xs i) [
  | inl s ↦ or_left (p y) (list_any p xs) (ap p s ∙ e)
  | inr later ↦ or_right (p y) (list_any p xs) (any_member p xs x later e)
]

-- a leaf after a lemma is as it was, or the lemma closes it
pub record TakesLemma (l : Numbered) (leaves : List Leaf) (k : Leaf) : Type 0 where
  pub is : k.closing ≡ Some l
  pub ends : closes k.cube l.clause ≡ true
  pub some : list_any (can_close l) leaves ≡ true

turned : (l : Numbered) (leaves : List Leaf) (x k : Leaf) → Contains leaves x → closed_by l x ≡ k → Contains leaves k ⊎ TakesLemma l leaves k
turned l leaves x k i e = at (can_close l x) refl e
  where
    at : (b : Bool) → can_close l x ≡ b → cond {A = Leaf} b (record { cube = x.cube; closing = Some l }) x ≡ k → Contains leaves k ⊎ TakesLemma l leaves k
    at true can f = inr (record {
      is = ap (λ (z : Leaf). z.closing) (sym f);
      ends = ap (λ (z : Leaf). closes z.cube l.clause) (sym f) ∙ (both (is_none x.closing) (closes x.cube l.clause) can).1;
      some = any_member (can_close l) leaves x i can;
    })
    at false not_so f = inl (subst (Contains leaves) f i)

pub from_settled : (l : Numbered) (leaves : List Leaf) (k : Leaf) → Contains (settled l leaves) k → Contains leaves k ⊎ TakesLemma l leaves k
from_settled l leaves k i = let m = from_map (closed_by l) leaves k i in turned l leaves m.0 k m.1 m.2

-- ---- numbers that rise above t, each of a live clause
abbrev pub AreRising : ClauseMap → ℕ → List Numbered → Type 0
AreRising M t [] = Unit {0}
AreRising M t (l ∷ lemmas) = (t < l.id) × (get M l.id ≡ Some l.clause) × AreRising M l.id lemmas

abbrev pub AreRisingNumbers : ClauseMap → ℕ → List ℕ → Type 0
AreRisingNumbers M t [] = Unit {0}
AreRisingNumbers M t (n ∷ ns) = (t < n) × IsSome (get M n) × AreRisingNumbers M n ns

pub rising_weaker : (M : ClauseMap) (s t : ℕ) (ns : List ℕ) → s ≤ t → AreRisingNumbers M t ns → AreRisingNumbers M s ns
rising_weaker M s t [] low h = tt
rising_weaker M s t (n ∷ ns) low h = (let a = h.0 in omega arith, h.1, h.2)

pub not_in_rising : (M : ClauseMap) (n t : ℕ) (ns : List ℕ) → n ≤ t → AreRisingNumbers M t ns → list_any (nat_eq n) ns ≡ false
not_in_rising M n t [] low h = refl
not_in_rising M n t (x ∷ ns) low h =
    ap (λ b. b || list_any (nat_eq n) ns) (let a = h.0 in ne_eqb n x (λ e. omega arith)) ∙ (let a = h.0 in not_in_rising M n x ns (omega arith) h.2)

pub spent_rising : (M : ClauseMap) (t : ℕ) (leaves : List Leaf) (lemmas : List Numbered) → AreRising M t lemmas → AreRisingNumbers M t (spent leaves lemmas)
spent_rising M t leaves [] h = tt
spent_rising M t leaves (l ∷ lemmas) h = at (list_any (can_close l) leaves) (spent_rising M l.id (settled l leaves) lemmas h.2)
  where
    at : (b : Bool) → AreRisingNumbers M l.id (spent (settled l leaves) lemmas) → AreRisingNumbers M t (cond b (spent (settled l leaves) lemmas) (l.id ∷ spent (settled l leaves) lemmas))
    at true more = rising_weaker M t l.id (spent (settled l leaves) lemmas) (let a = h.0 in omega arith) more
    at false more = (h.0, live_some M l.id l.clause h.1, more)

-- ---- all lemmas, one after the other
-- a leaf is closed by one of the lemmas, which is not spent
pub record ClosedNow (M : ClauseMap) (t : ℕ) (leaves : List Leaf) (lemmas : List Numbered) (k : Leaf) : Type 0 where
  pub lemma : Numbered
  pub is : k.closing ≡ Some lemma
  pub above : t < lemma.id
  pub lives : get M lemma.id ≡ Some lemma.clause
  pub ends : closes k.cube lemma.clause ≡ true
  pub kept : list_any (nat_eq lemma.id) (spent leaves lemmas) ≡ false
  pub among : Contains lemmas lemma

pub from_all_settled : (M : ClauseMap) (t : ℕ) (leaves : List Leaf) (lemmas : List Numbered) (k : Leaf) → AreRising M t lemmas → Contains (all_settled leaves lemmas) k
    → Contains leaves k ⊎ ClosedNow M t leaves lemmas k
from_all_settled M t leaves [] k h i = inl i
from_all_settled M t leaves (l ∷ lemmas) k h i =
    let later : List ℕ = spent (settled l leaves) lemmas in
    let rising : AreRisingNumbers M l.id later = spent_rising M l.id (settled l leaves) lemmas h.2 in
    let up : t < l.id = h.0 in
    elim (from_all_settled M l.id (settled l leaves) lemmas k h.2 i) [
      | inr c ↦ inr (record {
        lemma = c.lemma;
        is = c.is;
        above = (let a = c.above in omega arith);
        lives = c.lives;
        ends = c.ends;
        kept = not_spent c.lemma.id (list_any (can_close l) leaves) c.above c.kept;
        among = Contains-cons l c.lemma lemmas c.among;
      })
      | inl before ↦ elim (from_settled l leaves k before) [
        | inl old ↦ inl old
        | inr c ↦ inr (record {
          lemma = l;
          is = c.is;
          above = up;
          lives = h.1;
          ends = c.ends;
          kept = ap (λ b. list_any (nat_eq l.id) (cond b later (l.id ∷ later))) c.some ∙ not_in_rising M l.id l.id later (omega arith) rising;
          among = Contains-head l lemmas;
        })
      ]
    ]
  where
    not_spent : (n : ℕ) (b : Bool) → l.id < n → list_any (nat_eq n) (spent (settled l leaves) lemmas) ≡ false
        → list_any (nat_eq n) (cond b (spent (settled l leaves) lemmas) (l.id ∷ spent (settled l leaves) lemmas)) ≡ false
    not_spent n true above e = e
    not_spent n false above e = ap (λ b. b || list_any (nat_eq n) (spent (settled l leaves) lemmas)) (ne_eqb n l.id (λ s. omega arith)) ∙ e

-- ---- every leaf with this cube is closed
abbrev pub IsClosedIn : List Leaf → Cube → Type 0
IsClosedIn leaves q = (k : Leaf) → Contains leaves k → k.cube ≡ q → is_closed k ≡ true

some_closed : (o : Option Numbered) (l : Numbered) → o ≡ Some l → is_some o ≡ true
some_closed o l e = ap (λ (z : Option Numbered). is_some z) e

pub stays_closed : (l : Numbered) (leaves : List Leaf) (q : Cube) → IsClosedIn leaves q → IsClosedIn (settled l leaves) q
stays_closed l leaves q h k i e = elim (from_settled l leaves k i) [
  | inl old ↦ h k old e
  | inr c ↦ some_closed k.closing l c.is
]

pub all_stay_closed : (leaves : List Leaf) (lemmas : List Numbered) (q : Cube) → IsClosedIn leaves q → IsClosedIn (all_settled leaves lemmas) q
all_stay_closed leaves [] q h = h
all_stay_closed leaves (l ∷ lemmas) q h = all_stay_closed (settled l leaves) lemmas q (stays_closed l leaves q h)

closed_now : (l : Numbered) (q : Cube) (x k : Leaf) → closes q l.clause ≡ true → closed_by l x ≡ k → k.cube ≡ q → is_closed k ≡ true
closed_now l q x k can e cube = at (can_close l x) refl e
  where
    none_or_some : (o : Option Numbered) → (is_none o && true) ≡ false → is_some o ≡ true
    none_or_some None f = absurd (true≢false f)
    none_or_some (Some y) f = refl

    at : (b : Bool) → can_close l x ≡ b → cond {A = Leaf} b (record { cube = x.cube; closing = Some l }) x ≡ k → is_closed k ≡ true
    at true so f = ap (λ (z : Leaf). is_closed z) (sym f)
    at false not_so f =
        let same_cube : x.cube ≡ q = ap (λ (z : Leaf). z.cube) f ∙ cube in
        ap (λ (z : Leaf). is_closed z) (sym f) ∙ none_or_some x.closing (ap (λ b. is_none x.closing && b) (sym (ap (λ (z : Cube). closes z l.clause) same_cube ∙ can)) ∙ not_so)

pub closes_here : (l : Numbered) (leaves : List Leaf) (q : Cube) → closes q l.clause ≡ true → IsClosedIn (settled l leaves) q
closes_here l leaves q can k i e = let m = from_map (closed_by l) leaves k i in closed_now l q m.0 k can m.2 e

pub one_closes : (leaves : List Leaf) (lemmas : List Numbered) (q : Cube) (l : Numbered) → Contains lemmas l → closes q l.clause ≡ true → IsClosedIn (all_settled leaves lemmas) q
one_closes leaves [] q l i can = absurd (Contains-nil l i)
one_closes leaves (x ∷ lemmas) q l i can = elim (Contains-cons_cases x l lemmas i) [
  | inl s ↦ all_stay_closed (settled x leaves) lemmas q (closes_here x leaves q (ap (λ (z : Numbered). closes q z.clause) s ∙ can))
  | inr later ↦ one_closes (settled x leaves) lemmas q l later can
]
