-- The pairs of the lowest ranks are those that are defined.
use Rattle.std.proofs.Common.{◌≡◌, ◌≢◌, ℕ, zero, suc, ◌+◌, ◌-◌, ◌*◌, ◌/◌, ◌%◌, ◌<◌, ◌≤◌, ◌⊎◌, Bool, false, ◌&&◌, cond, List, [], ◌∷◌, ◌++◌, map, length, append_assoc, eqb, refl, sym, ap, subst, ◌∙◌, arith, inl, inr}
use Rattle.std.specs.List.{All, Contains}
use Rattle.std.specs.List.Sorted.{IsPermutation, IsNonDecreasing}
use Rattle.std.proofs.lemmas.Bool.{cases_eq, cases_lt, both_ways, ne_eqb, cond-false, false_from_ne_true}
use Rattle.std.proofs.lemmas.List.{append-nil, map-append, length-append}
use Rattle.std.proofs.lemmas.List.Elements.{All-nil, All-cons, All-weaker, All-contains, Contains-append_left, Contains-append_right, Contains-append_cases}
use Rattle.std.proofs.lemmas.List.Sorted.{All-permutation, sum_by-IsPermutation}
use Rattle.std.proofs.lemmas.List.Sums.{count_by-le-length, sum_by-cons}
use Rattle.dimacs.specs.logic.Base.{pure_literals}
use Rattle.dimacs.specs.logic.Cnf.{Cnf, IsFormula}
use Rattle.dimacs.specs.logic.Literal.{Literal, Pos, Neg, Clause, has, var_of}
use Rattle.dimacs.proofs.Members.{Contains-head, Contains-cons, Contains-cons_cases, Contains-nil, Contains-has, has-Contains}
use Rattle.cube_split.specs.Definitions.{IsPairOf}
use Rattle.cube_split.specs.inner.Marks.{AreMarked}
use Rattle.cube_split.specs.Pairs.{AreDefined, IsCandidate, IsNext, Precedes, is_short, sign, together}
use Rattle.cube_split.specs.inner.Ranks.{AreKeys, AreLowest, AreRising, IsKey, key_of, literal_by, pair_of, pair_ranked, rank_of, ranks_from, times}
use Rattle.cube_split.specs.declared.pair.Pair.{Pair}
use Rattle.cube_split.proofs.LowestLemmas.{rising_behind}
use Rattle.cube_split.proofs.RankLemmas.{ranks_made, ranks_there, sorted_from}
use Rattle.cube_split.proofs.TogetherLemmas.{same_pair}

-- ---- the pair of a rank
literal_back : (l : Literal) → literal_by (var_of l) (sign l) ≡ l
literal_back (Pos v) = refl
literal_back (Neg v) = refl

signs : (l : Literal) → sign l ≤ 1
signs (Pos v) = omega arith
signs (Neg v) = omega arith

parts_back : (a b s t : ℕ) → b < 134217728 → s ≤ 1 → t ≤ 1 → (k : ℕ) → k ≡ (a * 134217728 + b) * 4 + s * 2 + t
    → (k / 536870912 ≡ a) × (k / 2 % 2 ≡ s) × (k / 4 % 134217728 ≡ b) × (k % 2 ≡ t)
parts_back a b s t lb ls lt k e = (omega arith, omega arith, omega arith, omega arith)

pair_back : (p : Pair) → var_of p.second < 134217728 → pair_of (key_of p) ≡ p
pair_back p low =
    let h = parts_back (var_of p.first) (var_of p.second) (sign p.first) (sign p.second) low (signs p.first) (signs p.second) (key_of p) refl in
    same_pair (pair_of (key_of p)) p
    (ap (λ (v : ℕ). literal_by v (key_of p / 2 % 2)) h.0 ∙ ap (literal_by (var_of p.first)) h.1 ∙ literal_back p.first)
    (ap (λ (v : ℕ). literal_by v (key_of p % 2)) h.2 ∙ ap (literal_by (var_of p.second)) h.3 ∙ literal_back p.second)

key_small : (p : Pair) → var_of p.first < 134217728 → var_of p.second < 134217728 → key_of p < 72057594037927936
key_small p a b = small (var_of p.first) (var_of p.second) (sign p.first) (sign p.second) a b (signs p.first) (signs p.second)
  where
    small : (a b s t : ℕ) → a < 134217728 → b < 134217728 → s ≤ 1 → t ≤ 1 → (a * 134217728 + b) * 4 + s * 2 + t < 72057594037927936
    small a b s t la lb ls lt = omega arith

key_back : (count key : ℕ) → key < 72057594037927936 → rank_of count key % 72057594037927936 ≡ key
key_back count key low = parts (134217727 - count) key low
  where
    parts : (x key : ℕ) → key < 72057594037927936 → (x * 72057594037927936 + key) % 72057594037927936 ≡ key
    parts x key low = omega arith

ranked_back : (count : ℕ) (p : Pair) → var_of p.first < 134217728 → var_of p.second < 134217728 → pair_ranked (rank_of count (key_of p)) ≡ p
ranked_back count p a b = ap pair_of (key_back count (key_of p) (key_small p a b)) ∙ pair_back p b

-- ---- ranks and the order of pairs
rank_parts : (a b k l : ℕ) → a < 134217728 → b < 134217728 → k < 72057594037927936 → l < 72057594037927936 → rank_of a k ≤ rank_of b l → (b ≤ a) × (a ≡ b → k ≤ l)
rank_parts a b k l la lb lk ll le = (omega arith, λ e. omega arith)

lexicographic : (a b s t c d u v : ℕ) → b < 134217728 → s ≤ 1 → t ≤ 1 → d < 134217728 → u ≤ 1 → v ≤ 1
    → (a * 134217728 + b) * 4 + s * 2 + t ≤ (c * 134217728 + d) * 4 + u * 2 + v
    → (a < c) ⊎ ((a ≡ c) × ((b < d) ⊎ ((b ≡ d) × ((s < u) ⊎ ((s ≡ u) × (t ≤ v))))))
lexicographic a b s t c d u v lb ls lt ld lu lv le = elim (cases_lt a c) [
  | inl less ↦ inl less
  | inr over ↦
      let same_a : a ≡ c = omega arith in
      inr (
        same_a,
        elim (cases_lt b d) [
          | inl less ↦ inl less
          | inr more ↦
              let same_b : b ≡ d = omega arith in
              inr (
                same_b,
                elim (cases_lt s u) [
                  | inl less ↦ inl less
                  | inr most ↦ let same_s : s ≡ u = omega arith in inr (same_s, omega arith)
                ],
              )
        ],
      )
]

precedes : (p q : Pair) → var_of p.second < 134217728 → var_of q.second < 134217728 → key_of p ≤ key_of q → q ≢ p → Precedes p q
precedes p q low high le ne =
    last p q ne (lexicographic (var_of p.first) (var_of p.second) (sign p.first) (sign p.second) (var_of q.first) (var_of q.second) (sign q.first) (sign q.second) low (signs p.first) (signs p.second) high (signs q.first) (signs q.second) le)
  where
    same_literal : (k l : Literal) → var_of k ≡ var_of l → sign k ≡ sign l → k ≡ l
    same_literal (Pos v) (Pos w) e s = ap Pos e
    same_literal (Neg v) (Neg w) e s = ap Neg e
    same_literal (Pos v) (Neg w) e s = absurd (omega arith)
    same_literal (Neg v) (Pos w) e s = absurd (omega arith)

    last : (p q : Pair) → q ≢ p
        → (var_of p.first < var_of q.first)
        ⊎ ((var_of p.first ≡ var_of q.first) × ((var_of p.second < var_of q.second)
        ⊎ ((var_of p.second ≡ var_of q.second) × ((sign p.first < sign q.first) ⊎ ((sign p.first ≡ sign q.first) × (sign p.second ≤ sign q.second))))))
        → Precedes p q
    last p q ne (inl less) = inl less
    last p q ne (inr (a, inl less)) = inr (a, inl less)
    last p q ne (inr (a, inr (b, inl less))) = inr (a, inr (b, inl less))
    last p q ne (inr (a, inr (b, inr (s, le)))) = elim (cases_lt (sign p.second) (sign q.second)) [
      | inl less ↦ inr (a, inr (b, inr (s, less)))
      | inr over ↦ absurd (ne (sym (same_pair p q (same_literal p.first q.first a s) (same_literal p.second q.second b (omega arith)))))
    ]

-- ---- the ranks of the pairs that stand together
rank_in : Cnf → Pair → ℕ
rank_in F p = rank_of (together F.clauses p) (key_of p)

record AreRanked (F : Cnf) (ranks : List ℕ) : Type 0 where
  there : (p : Pair) → IsCandidate F p → 0 < together F.clauses p → Contains ranks (rank_of (together F.clauses p) (key_of p))
  made : All (λ r. (p : Pair) × IsCandidate F p × (0 < together F.clauses p) × (r ≡ rank_of (together F.clauses p) (key_of p))) ranks

few_together : (F : Cnf) → IsFormula F → (p : Pair) → together F.clauses p < 134217728
few_together F limits p =
    let a = count_by-le-length (λ (C : Clause). is_short C && (has C p.first && has C p.second)) F.clauses in
    let b = limits.clauses in
    omega arith

record IsLow (p : Pair) : Type 0 where
  one : var_of p.first < 134217728
  two : var_of p.second < 134217728

low_pair : (F : Cnf) → IsFormula F → (p : Pair) → IsCandidate F p → IsLow p
low_pair F limits p h =
    let a = h.of_formula.rise in
    let b = h.of_formula.up_to in
    let c = limits.vars in
    record { one = omega arith; two = omega arith }

mapped : (f : ℕ → Pair) (xs : List ℕ) (p : Pair) → Contains (map f xs) p → (x : ℕ) × Contains xs x × (f x ≡ p)
mapped f [] p h = absurd (Contains-nil p h)
mapped f (x ∷ xs) p h = elim (Contains-cons_cases (f x) p (map f xs) h) [
  | inl e ↦ (x, Contains-head x xs, e)
  | inr later ↦ let r = mapped f xs p later in (r.0, Contains-cons x r.0 xs r.1, r.2)
]

map_there : (f : ℕ → Pair) (xs : List ℕ) (x : ℕ) → Contains xs x → Contains (map f xs) (f x)
map_there f [] x h = absurd (Contains-nil x h)
map_there f (y ∷ xs) x h = elim (Contains-cons_cases y x xs h) [
  | inl e ↦ subst (λ (z : ℕ). Contains (f y ∷ map f xs) (f z)) e (Contains-head (f y) (map f xs))
  | inr later ↦ Contains-cons (f y) (f x) (map f xs) (map_there f xs x later)
]

taken_by : (F : Cnf) → IsFormula F → (q : Pair) → IsCandidate F q → (done : List ℕ) → Contains done (rank_of (together F.clauses q) (key_of q)) → Contains (map pair_ranked done) q
taken_by F limits q candidate done h =
    let low = low_pair F limits q candidate in
    subst (λ (p : Pair). Contains (map pair_ranked done) p) (ranked_back (together F.clauses q) q low.one low.two) (map_there pair_ranked done (rank_of (together F.clauses q) (key_of q)) h)

module _ (F : Cnf) (limits : IsFormula F) (K : ℕ) (ranks best : List ℕ) (ranked : AreRanked F ranks) (lowest : AreLowest K ranks best) where
  none_left : (left : ℕ) (done : List ℕ) → best ≡ done ++ [] → suc left + length done ≡ K → (q : Pair) → IsCandidate F q → ¬ (Contains (map pair_ranked done) q) → together F.clauses q ≡ 0
  none_left left done is room q candidate new = elim (cases_eq (together F.clauses q) 0) [
    | inl e ↦ e
    | inr some ↦
        let all : best ≡ done = is ∙ append-nil done in
        elim (lowest.rest (rank_of (together F.clauses q) (key_of q)) (ranked.there q candidate (omega arith))) [
          | inl kept ↦ absurd (new (taken_by F limits q candidate done (subst (λ (xs : List ℕ). Contains xs (rank_of (together F.clauses q) (key_of q))) all kept)))
          | inr full ↦ let n = full.0 in let e = ap (λ (xs : List ℕ). length xs) all in absurd (omega arith)
        ]
  ]

  -- what is not taken has no lower rank than the next one
  not_lower : (done : List ℕ) (r : ℕ) (rest : List ℕ) → best ≡ done ++ r ∷ rest → (q : Pair) → IsCandidate F q → ¬ (Contains (map pair_ranked done) q) → 0 < together F.clauses q
      → r ≤ rank_of (together F.clauses q) (key_of q)
  not_lower done r rest is q candidate new some =
      let n : ℕ = rank_of (together F.clauses q) (key_of q) in
      let behind = rising_behind done r rest (subst AreRising is lowest.rising) in
      elim (lowest.rest n (ranked.there q candidate some)) [
        | inl kept ↦ elim (Contains-append_cases done (r ∷ rest) n (subst (λ (xs : List ℕ). Contains xs n) is kept)) [
          | inl before ↦ absurd (new (taken_by F limits q candidate done before))
          | inr later ↦ elim (Contains-cons_cases r n rest later) [
            | inl e ↦ omega arith
            | inr after ↦ let above = All-contains (λ y. r < y) rest n behind.1 after in omega arith
          ]
        ]
        | inr full ↦ All-contains (λ y. y ≤ n) (done ++ r ∷ rest) r (subst (All (λ y. y ≤ n)) is full.1) (Contains-append_right done (r ∷ rest) r (Contains-head r rest))
      ]

  is_next : (done : List ℕ) (r : ℕ) (rest : List ℕ) → best ≡ done ++ r ∷ rest → IsNext F (map pair_ranked done) (pair_ranked r)
  is_next done r rest is =
      let inside : Contains best r = subst (λ (xs : List ℕ). Contains xs r) (sym is) (Contains-append_right done (r ∷ rest) r (Contains-head r rest)) in
      let from : (p : Pair) × IsCandidate F p × (0 < together F.clauses p) × (r ≡ rank_of (together F.clauses p) (key_of p)) =
      All-contains (λ r. (p : Pair) × IsCandidate F p × (0 < together F.clauses p) × (r ≡ rank_of (together F.clauses p) (key_of p))) ranks r ranked.made (All-contains (Contains ranks) best r lowest.seen_all inside) in
      let p : Pair = from.0 in
      let low = low_pair F limits p from.1 in
      let same_one : pair_ranked r ≡ p = ap pair_ranked from.3 ∙ ranked_back (together F.clauses p) p low.one low.two in
      subst (IsNext F (map pair_ranked done)) (sym same_one) (next_pair done r rest is p from.1 from.2 from.3)
    where
      next_pair : (done : List ℕ) (r : ℕ) (rest : List ℕ) → best ≡ done ++ r ∷ rest → (p : Pair) → IsCandidate F p → 0 < together F.clauses p → r ≡ rank_of (together F.clauses p) (key_of p)
          → IsNext F (map pair_ranked done) p
      next_pair done r rest is p candidate some e = record {
        candidate = candidate;
        new = λ taken. not_taken done r rest is p candidate e taken;
        some = some;
        most = λ q also free. elim (cases_eq (together F.clauses q) 0) [
          | inl none ↦ omega arith
          | inr more ↦ (compared done r rest is p candidate e q also free (omega arith)).0
        ];
        first = λ q also free same_count ne.
            let low = low_pair F limits p candidate in
            let high = low_pair F limits q also in
            precedes p q low.two high.two ((compared done r rest is p candidate e q also free (omega arith)).1 (sym same_count)) ne;
      }
        where
          compared : (done : List ℕ) (r : ℕ) (rest : List ℕ) → best ≡ done ++ r ∷ rest → (p : Pair) → IsCandidate F p → r ≡ rank_of (together F.clauses p) (key_of p)
              → (q : Pair) → IsCandidate F q → ¬ (Contains (map pair_ranked done) q) → 0 < together F.clauses q
              → (together F.clauses q ≤ together F.clauses p) × (together F.clauses p ≡ together F.clauses q → key_of p ≤ key_of q)
          compared done r rest is p candidate e q also free some =
              let low = low_pair F limits p candidate in
              let high = low_pair F limits q also in
              rank_parts (together F.clauses p) (together F.clauses q) (key_of p) (key_of q) (few_together F limits p) (few_together F limits q) (key_small p low.one low.two) (key_small q high.one high.two)
              (subst (λ (n : ℕ). n ≤ rank_of (together F.clauses q) (key_of q)) e (not_lower done r rest is q also free some))

          not_taken : (done : List ℕ) (r : ℕ) (rest : List ℕ) → best ≡ done ++ r ∷ rest → (p : Pair) → IsCandidate F p → r ≡ rank_of (together F.clauses p) (key_of p)
              → Contains (map pair_ranked done) p → ⊥
          not_taken done r rest is p candidate e taken =
              let was = mapped pair_ranked done p taken in
              let n : ℕ = was.0 in
              let there : Contains best n = subst (λ (xs : List ℕ). Contains xs n) (sym is) (Contains-append_left done (r ∷ rest) n was.1) in
              let from : (q : Pair) × IsCandidate F q × (0 < together F.clauses q) × (n ≡ rank_of (together F.clauses q) (key_of q)) =
              All-contains (λ r. (q : Pair) × IsCandidate F q × (0 < together F.clauses q) × (r ≡ rank_of (together F.clauses q) (key_of q))) ranks n ranked.made (All-contains (Contains ranks) best n lowest.seen_all there) in
              let q : Pair = from.0 in
              let low = low_pair F limits q from.1 in
              let same_one : q ≡ p = sym (ranked_back (together F.clauses q) q low.one low.two) ∙ ap pair_ranked (sym from.3) ∙ was.2 in
              let same_rank : n ≡ r = from.3 ∙ ap (λ (x : Pair). rank_of (together F.clauses x) (key_of x)) same_one ∙ sym e in
              let below = All-contains (λ x. x < r) done n (rising_behind done r rest (subst AreRising is lowest.rising)).0 was.1 in
              omega arith

  defined_from : (rest done : List ℕ) (left : ℕ) → best ≡ done ++ rest → left + length done ≡ K → AreDefined F left (map pair_ranked done) (map pair_ranked rest)
  defined_from [] done zero is room = AreDefined.all
  defined_from [] done (suc left) is room = AreDefined.none (none_left left done is room)
  defined_from (r ∷ rest) done zero is room =
      let few = lowest.few in
      let e = ap (λ (xs : List ℕ). length xs) is in
      let a = length-append done (r ∷ rest) in
      absurd (omega arith)
  defined_from (r ∷ rest) done (suc left) is room =
      let more : map pair_ranked (done ++ r ∷ []) ≡ map pair_ranked done ++ pair_ranked r ∷ [] = map-append pair_ranked done (r ∷ []) in
      let long = length-append done (r ∷ []) in
      AreDefined.next (pair_ranked r) (is_next done r rest is)
      (subst (λ (taken : List Pair). AreDefined F left taken (map pair_ranked rest)) more
      (defined_from rest (done ++ r ∷ []) left (is ∙ sym (append_assoc done (r ∷ []) rest)) (omega arith)))

-- ---- from the keys that were counted
times_permuted : (k : ℕ) (keys sorted : List ℕ) → IsPermutation keys sorted → times k sorted ≡ times k keys
times_permuted k keys sorted h = sum_by-IsPermutation (λ (n : ℕ). cond {A = ℕ} (eqb n k) 1 0) keys sorted h

not_unit : (S : List Literal) (l : Literal) → ¬ (Contains S l) → has S l ≡ false
not_unit S l h = false_from_ne_true (has S l) (λ t. h (has-Contains S l t))

unit_not : (S : List Literal) (l : Literal) → has S l ≡ false → ¬ (Contains S l)
unit_not S l e h = both_ways (has S l) e (Contains-has S l h)

candidate_of : (F : Cnf) (p : Pair) → IsPairOf F.vars p → has (pure_literals F) p.first ≡ false → has (pure_literals F) p.second ≡ false → IsCandidate F p
candidate_of F p h a b = record { of_formula = h; first_undecided = unit_not (pure_literals F) p.first a; second_undecided = unit_not (pure_literals F) p.second b }

key_below : (F : Cnf) → IsFormula F → (test : Literal → Bool) (k : ℕ) → IsKey F.vars test k → k < 72057594037927936
key_below F limits test k (p, is, a, b, e) =
    let f = is.rise in
    let g = is.up_to in
    let c = limits.vars in
    subst (λ (n : ℕ). n < 72057594037927936) (sym e) (key_small p (omega arith) (omega arith))

some_times : (k : ℕ) (keys : List ℕ) → 0 < times k keys → Contains keys k
some_times k [] h = absurd (omega arith)
some_times k (x ∷ keys) h = elim (cases_eq x k) [
  | inl e ↦ subst (λ (z : ℕ). Contains (x ∷ keys) z) e (Contains-head x keys)
  | inr ne ↦
      let a = sum_by-cons (λ (n : ℕ). cond {A = ℕ} (eqb n k) 1 0) x keys in
      let b : cond {A = ℕ} (eqb x k) 1 0 ≡ 0 = cond-false (eqb x k) 1 0 (ne_eqb x k ne) in
      Contains-cons x k keys (some_times k keys (omega arith))
]

pub keys_below : (F : Cnf) → IsFormula F → (keys sorted : List ℕ) → AreKeys F.vars (has (pure_literals F)) F.clauses keys → IsPermutation keys sorted → All (λ k. k < 72057594037927936) sorted
keys_below F limits keys sorted h moved =
    All-weaker (IsKey F.vars (has (pure_literals F))) (λ k. k < 72057594037927936) (key_below F limits (has (pure_literals F))) sorted
    (All-permutation (IsKey F.vars (has (pure_literals F))) keys sorted moved h.made)

ranked_from : (F : Cnf) → IsFormula F → (keys sorted : List ℕ) → AreKeys F.vars (has (pure_literals F)) F.clauses keys → IsPermutation keys sorted → IsNonDecreasing sorted → AreRanked F (ranks_from 0 0 sorted)
ranked_from F limits keys sorted h moved up =
    let units : List Literal = pure_literals F in
    record {
      there = λ p candidate some.
          let t : times (key_of p) sorted ≡ together F.clauses p =
          times_permuted (key_of p) keys sorted moved ∙ h.counted p candidate.of_formula (not_unit units p.first candidate.first_undecided) (not_unit units p.second candidate.second_undecided) in
          subst (λ (n : ℕ). Contains (ranks_from 0 0 sorted) (rank_of n (key_of p))) t (ranks_there sorted (sorted_from sorted up) (key_of p) (omega arith));
      made = All-weaker (λ r. (k : ℕ) × (0 < times k sorted) × (r ≡ rank_of (times k sorted) k))
          (λ r. (p : Pair) × IsCandidate F p × (0 < together F.clauses p) × (r ≡ rank_of (together F.clauses p) (key_of p)))
          (λ r from.
          let k : ℕ = from.0 in
          let key : IsKey F.vars (has units) k = All-contains (IsKey F.vars (has units)) sorted k (All-permutation (IsKey F.vars (has units)) keys sorted moved h.made) (some_times k sorted from.1) in
          let p : Pair = key.0 in
          let t : times k sorted ≡ together F.clauses p =
          times_permuted k keys sorted moved ∙ ap (λ (n : ℕ). times n keys) key.4 ∙ h.counted p key.1 key.2 key.3 in
          let some = from.1 in
          (p, candidate_of F p key.1 key.2 key.3, omega arith, from.2 ∙ ap (λ (n : ℕ). rank_of n k) t ∙ ap (rank_of (together F.clauses p)) key.4))
          (ranks_from 0 0 sorted) (ranks_made sorted (sorted_from sorted up) (keys_below F limits keys sorted h moved));
    }

pub defined : (F : Cnf) → IsFormula F → (K : ℕ) (keys sorted best : List ℕ) → AreKeys F.vars (has (pure_literals F)) F.clauses keys → IsPermutation keys sorted → IsNonDecreasing sorted
    → AreLowest K (ranks_from 0 0 sorted) best → AreDefined F K [] (map pair_ranked best)
defined F limits K keys sorted best h moved up lowest =
    defined_from F limits K (ranks_from 0 0 sorted) best (ranked_from F limits keys sorted h moved up) lowest best [] K refl (omega arith)

-- the keys of pairs without a marked literal, where the units are marked
pub keys_are : (F : Cnf) (units : List Literal) (marks lent : List Bool) (keys : List ℕ) → units ≡ pure_literals F → AreMarked marks (has units) → lent ≡ marks
    → ((test : Literal → Bool) → AreMarked lent test → AreKeys F.vars test F.clauses keys) → AreKeys F.vars (has (pure_literals F)) F.clauses keys
keys_are F units marks lent keys e marked same_marks h =
    h (has (pure_literals F)) (subst (λ (xs : List Bool). AreMarked xs (has (pure_literals F))) (sym same_marks) (subst (λ (xs : List Literal). AreMarked marks (has xs)) e marked))

-- each rank is that of a pair
pub ranks_are_pairs : (F : Cnf) → IsFormula F → (K : ℕ) (keys sorted best : List ℕ) → AreKeys F.vars (has (pure_literals F)) F.clauses keys → IsPermutation keys sorted → IsNonDecreasing sorted
    → AreLowest K (ranks_from 0 0 sorted) best → All (λ r. (536870912 ≤ r % 72057594037927936) × (0 < r % 72057594037927936 / 4 % 134217728)) best
ranks_are_pairs F limits K keys sorted best h moved up lowest =
    let ranked = ranked_from F limits keys sorted h moved up in
    All-weaker (Contains (ranks_from 0 0 sorted)) (λ r. (536870912 ≤ r % 72057594037927936) × (0 < r % 72057594037927936 / 4 % 134217728))
    (λ r inside.
    let from : (p : Pair) × IsCandidate F p × (0 < together F.clauses p) × (r ≡ rank_of (together F.clauses p) (key_of p)) =
    All-contains (λ r. (p : Pair) × IsCandidate F p × (0 < together F.clauses p) × (r ≡ rank_of (together F.clauses p) (key_of p))) (ranks_from 0 0 sorted) r ranked.made inside in
    let p : Pair = from.0 in
    let low = low_pair F limits p from.1 in
    let e : r % 72057594037927936 ≡ key_of p = ap (λ (n : ℕ). n % 72057594037927936) from.3 ∙ key_back (together F.clauses p) (key_of p) (key_small p low.one low.two) in
    let one = from.1.of_formula.from_1 in
    let up = from.1.of_formula.rise in
    subst (λ (k : ℕ). (536870912 ≤ k) × (0 < k / 4 % 134217728)) (sym e) (key_parts (var_of p.first) (var_of p.second) (sign p.first) (sign p.second) one (omega arith) low.two (signs p.first) (signs p.second)))
    best lowest.seen_all
  where
    key_parts : (a b s t : ℕ) → 0 < a → 0 < b → b < 134217728 → s ≤ 1 → t ≤ 1
        → (536870912 ≤ (a * 134217728 + b) * 4 + s * 2 + t) × (0 < ((a * 134217728 + b) * 4 + s * 2 + t) / 4 % 134217728)
    key_parts a b s t sa sb lb ls lt = (omega arith, omega arith)

-- ---- which pairs are chosen
chosen_are : (F : Cnf) (left : ℕ) (taken pairs : List Pair) → AreDefined F left taken pairs → All (IsPairOf F.vars) pairs
chosen_are F _ _ _ AreDefined.all = All-nil (IsPairOf F.vars)
chosen_are F _ _ _ (AreDefined.none over) = All-nil (IsPairOf F.vars)
chosen_are F _ taken _ (AreDefined.next {left = left} {pairs = pairs} p is rest) = All-cons (IsPairOf F.vars) p pairs is.candidate.of_formula (chosen_are F left (taken ++ p ∷ []) pairs rest)

chosen_few : (F : Cnf) (left : ℕ) (taken pairs : List Pair) → AreDefined F left taken pairs → length pairs ≤ left
chosen_few F _ _ _ AreDefined.all = omega arith
chosen_few F _ _ _ (AreDefined.none over) = omega arith
chosen_few F _ taken _ (AreDefined.next {left = left} {pairs = pairs} p is rest) = let h = chosen_few F left (taken ++ p ∷ []) pairs rest in omega arith

pub all_chosen : (F : Cnf) (defs : ℕ) (pairs : List Pair) → AreDefined F defs [] pairs → All (IsPairOf F.vars) pairs
all_chosen F defs pairs h = chosen_are F defs [] pairs h

pub few_chosen : (F : Cnf) (defs : ℕ) (pairs : List Pair) → AreDefined F defs [] pairs → length pairs ≤ defs
few_chosen F defs pairs h = chosen_few F defs [] pairs h

pub none_chosen : (F : Cnf) (pairs : List Pair) → AreDefined F 0 [] pairs → pairs ≡ []
none_chosen F pairs h = nothing pairs (few_chosen F 0 pairs h)
  where
    nothing : (pairs : List Pair) → length pairs ≤ 0 → pairs ≡ []
    nothing [] h = refl
    nothing (p ∷ pairs) h = absurd (omega arith)

pub none_defined : (F : Cnf) (defs : ℕ) (pairs : List Pair) → defs ≡ 0 → pairs ≡ [] → AreDefined F defs [] pairs
none_defined F defs pairs e f = subst (λ (n : ℕ). AreDefined F n [] pairs) (sym e) (subst (AreDefined F 0 []) (sym f) AreDefined.all)
