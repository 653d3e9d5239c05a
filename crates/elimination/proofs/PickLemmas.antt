-- The active clauses, as they are picked out one by one.
use Rattle.std.proofs.Common.{zero, suc, ◌≡◌, ℕ, ◌+◌, ◌-◌, ◌<◌, ◌≤◌, ◌⊎◌, inl, inr, Bool, false, List, [], ◌∷◌, ◌++◌, length, map, get_or, refl, sym, ◌∙◌, ap, subst, arith}
use Rattle.std.specs.List.{All, Contains}
use Rattle.std.proofs.lemmas.Bool.{true≢false, cases_Bool, cases_eq}
use Rattle.std.proofs.lemmas.List.{map_push}
use Rattle.std.proofs.lemmas.List.Elements.{All-nil, All-push, All-weaker, All-contains, All-map, Contains-get_or, Contains-push, Contains-append_left}
use Rattle.std.proofs.lemmas.List.Quantifiers.{all_pairs_push}
use Rattle.dimacs.specs.logic.Literal.{Clause, IsWithin}
use Rattle.dimacs.specs.logic.Cnf.{Cnf, AreWithin}
use Rattle.dimacs.specs.logic.ClauseMap.{map_of, live_in}
use Rattle.dimacs.proofs.Members.{Contains-head, Contains-cons, Contains-cons_cases, Contains-nil}
use Rattle.lrat_text.proofs.ClauseMapLemmas.{numbered_between, numbered_at, some_is}
use Rattle.elimination.specs.Kept.{HasEliminated, IsKept, IsSubset, clause_of}
use Rattle.elimination.specs.inner.Indexed.{AreIndexed, HasActiveSubset, IsActive, clause_at}
use Rattle.elimination.specs.inner.Reducing.{ArePicked}

-- an index below the end of a list with one more is below the old end, or is the old end
below_or_last : (j i : ℕ) → j < i + 1 → (j < i) ⊎ (j ≡ i)
below_or_last j i h = elim (cases_eq j i) [
  | inl e ↦ inr e
  | inr d ↦ inl (omega (arith, h, d))
]

pub picked_none : (clauses : List Clause) (active : List Bool) → ArePicked clauses active 0 [] []
picked_none clauses active = record {
  rising = λ i j d a b. absurd (omega (arith, b));
  within = All-nil (λ n. (1 ≤ n) × (n ≤ 0));
  every = λ j l a. absurd (omega (arith, l));
  are = refl;
}

pub picked_skip : (clauses : List Clause) (active : List Bool) (i : ℕ) (numbers : List ℕ) (picked : List Clause) → ArePicked clauses active i numbers picked
    → get_or active i false ≡ false → ArePicked clauses active (i + 1) numbers picked
picked_skip clauses active i numbers picked h out = record {
  rising = h.rising;
  within = All-weaker (λ n. (1 ≤ n) × (n ≤ i)) (λ n. (1 ≤ n) × (n ≤ i + 1)) (λ n b. (b.0, let up = b.1 in omega arith)) numbers h.within;
  every = λ j l a. elim (below_or_last j i l) [
    | inl b ↦ h.every j b a
    | inr e ↦ absurd (true≢false (sym a ∙ ap (λ k. get_or active k false) e ∙ out))
  ];
  are = h.are;
}

pub picked_more : (clauses : List Clause) (active : List Bool) (i : ℕ) (numbers : List ℕ) (picked : List Clause) → ArePicked clauses active i numbers picked
    → ArePicked clauses active (i + 1) (numbers ++ (i + 1) ∷ []) (picked ++ clause_at clauses i ∷ [])
picked_more clauses active i numbers picked h = record {
  rising = all_pairs_push (λ x y. x < y) numbers (i + 1) h.rising (λ k d l.
      let b = All-contains (λ n. (1 ≤ n) × (n ≤ i)) numbers (get_or numbers k d) h.within (Contains-get_or numbers k d l) in let up = b.1 in omega arith);
  within = All-push (λ n. (1 ≤ n) × (n ≤ i + 1)) numbers (i + 1)
      (All-weaker (λ n. (1 ≤ n) × (n ≤ i)) (λ n. (1 ≤ n) × (n ≤ i + 1)) (λ n b. (b.0, let up = b.1 in omega arith)) numbers h.within)
      (omega arith, omega arith);
  every = λ j l a. elim (below_or_last j i l) [
    | inl b ↦ Contains-append_left numbers ((i + 1) ∷ []) (j + 1) (h.every j b a)
    | inr e ↦ subst (λ k. Contains (numbers ++ (i + 1) ∷ []) (k + 1)) (sym e) (Contains-push numbers (i + 1))
  ];
  are = ap (λ cs. cs ++ clause_at clauses i ∷ []) h.are ∙ ap (λ k. map (clause_of clauses) numbers ++ clause_at clauses k ∷ []) (let e : i ≡ i + 1 - 1 = omega arith in e)
      ∙ sym (map_push (clause_of clauses) numbers (i + 1));
}

-- the clause of index i is picked, and its number is noted
pub picked_step : (clauses : List Clause) (active : List Bool) (i : ℕ) (numbers more : List ℕ) (picked grown : List Clause) (C : Clause)
    → ArePicked clauses active i numbers picked → more ≡ numbers ++ (i + 1) ∷ [] → C ≡ clause_at clauses i → grown ≡ picked ++ C ∷ []
    → ArePicked clauses active (i + 1) more grown
picked_step clauses active i numbers more picked grown C h n e g =
    subst (ArePicked clauses active (i + 1) more) (sym (g ∙ ap (λ D. picked ++ D ∷ []) e))
    (subst (λ ns. ArePicked clauses active (i + 1) ns (picked ++ clause_at clauses i ∷ [])) (sym n) (picked_more clauses active i numbers picked h))

contains_map : {X Y : Type 0} (f : X → Y) (xs : List X) (x : X) → Contains xs x → Contains (map f xs) (f x)
contains_map f [] x h = absurd (Contains-nil x h)
contains_map f (y ∷ ys) x h = elim (Contains-cons_cases y x ys h) [
  | inl e ↦ subst (λ z. Contains (f y ∷ map f ys) (f z)) e (Contains-head (f y) (map f ys))
  | inr r ↦ Contains-cons (f y) (f x) (map f ys) (contains_map f ys x r)
]

pub picked_within : (all : Cnf) (active : List Bool) (numbers : List ℕ) (picked : List Clause) → AreWithin all.vars all.clauses
    → ArePicked all.clauses active (length all.clauses) numbers picked → AreWithin all.vars picked
picked_within all active numbers picked within h =
    subst (AreWithin all.vars) (sym h.are)
    (All-map (All (IsWithin all.vars)) (clause_of all.clauses) numbers
    (All-weaker (λ n. (1 ≤ n) × (n ≤ length all.clauses)) (λ n. All (IsWithin all.vars) (clause_of all.clauses n))
    (λ n b. at n b.0 b.1) numbers h.within))
  where
    at : (n : ℕ) → 1 ≤ n → n ≤ length all.clauses → All (IsWithin all.vars) (clause_of all.clauses n)
    at n low up =
        let below : n - 1 < length all.clauses = omega arith in
        All-contains (All (IsWithin all.vars)) all.clauses (clause_of all.clauses n) within (Contains-get_or all.clauses (n - 1) [] below)

-- each clause is picked, or its loss is made good
pub picked_kept : (all kept : Cnf) (count : ℕ) (active : List Bool) (lists : List (List ℕ)) (gone : List Bool) (numbers : List ℕ) → AreIndexed all count active lists gone
    → kept.vars ≡ all.vars → ArePicked all.clauses active (length all.clauses) numbers kept.clauses → IsKept all kept numbers gone
picked_kept all kept count active lists gone numbers h vars p = record {
  vars = vars;
  rising = p.rising;
  within = p.within;
  clauses = p.are;
  covered = λ n C live. at_live n C live;
}
  where
    is_in : (j : ℕ) → j < length all.clauses → IsActive active j → Contains kept.clauses (clause_at all.clauses j)
    is_in j below a =
        let back : j + 1 - 1 ≡ j = omega arith in
        subst (λ cs. Contains cs (clause_at all.clauses j)) (sym p.are)
        (subst (λ k. Contains (map (clause_of all.clauses) numbers) (clause_at all.clauses k)) back
        (contains_map (clause_of all.clauses) numbers (j + 1) (p.every j below a)))

    made_good : (C : Clause) → HasEliminated gone C ⊎ HasActiveSubset all.clauses active C
        → HasEliminated gone C ⊎ ((D : Clause) × Contains kept.clauses D × IsSubset D C)
    made_good C (inl e) = inl e
    made_good C (inr s) = inr (clause_at all.clauses s.0, is_in s.0 s.1 s.2, s.3)

    at_index : (i : ℕ) → i < length all.clauses
        → Contains numbers (i + 1) ⊎ (HasEliminated gone (clause_at all.clauses i) ⊎ ((D : Clause) × Contains kept.clauses D × IsSubset D (clause_at all.clauses i)))
    at_index i below = elim (cases_Bool (get_or active i false)) [
      | inl a ↦ inl (p.every i below a)
      | inr f ↦ inr (made_good (clause_at all.clauses i) (h.stored.covered i below f))
    ]

    at_live : (n : ℕ) (C : Clause) → live_in (map_of all) n C
        → Contains numbers n ⊎ (HasEliminated gone C ⊎ ((D : Clause) × Contains kept.clauses D × IsSubset D C))
    at_live zero C live = let b = numbered_between all.clauses zero C live in let c = b.0 in absurd (omega (arith, c))
    at_live (suc i) C live =
        let b = numbered_between all.clauses (suc i) C live in
        let c = b.1 in
        let below : i < length all.clauses = omega arith in
        let n : i + 1 ≡ suc i = omega arith in
        let e : clause_at all.clauses i ≡ C = some_is (clause_at all.clauses i) C (sym (subst (λ k. live_in (map_of all) k (clause_at all.clauses i)) n (numbered_at all.clauses i [] below)) ∙ live) in
        subst (λ E. Contains numbers (suc i) ⊎ (HasEliminated gone E ⊎ ((D : Clause) × Contains kept.clauses D × IsSubset D E))) e
        (subst (λ k. Contains numbers k ⊎ (HasEliminated gone (clause_at all.clauses i) ⊎ ((D : Clause) × Contains kept.clauses D × IsSubset D (clause_at all.clauses i)))) n (at_index i below))
