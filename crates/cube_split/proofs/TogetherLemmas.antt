-- How often the key of a pair occurs among the keys of a clause's pairs.
use Rattle.std.proofs.Common.{◌≡◌, ◌≢◌, ℕ, ◌+◌, ◌*◌, ◌<◌, ◌≤◌, nat_lt, Bool, true, false, ◌||◌, ◌&&◌, cond, List, [], ◌∷◌, ◌++◌, length, get_or, take, eqb, refl, sym, ap, subst, ◌∙◌, arith, inl, inr}
use Rattle.std.specs.List.{All}
use Rattle.std.proofs.lemmas.Bool.{true≢false, cases_Bool, or_from, or_parts, or_cases, and_left, and_right, and_from, and_parts, le-ltb, lt-ltb, ltb-true, eq-eqb, ne_eqb, cond-true, cond-false, false_from_ne_true, both_ways}
use Rattle.std.proofs.lemmas.List.Elements.{All-nil, All-cons, All-append, All-head, All-tail, All-weaker}
use Rattle.std.proofs.lemmas.List.Sums.{sum_by-append, sum_by-cons, count_by_more_no, sum_by_more}
use Rattle.dimacs.specs.logic.Literal.{Literal, Clause, Pos, Neg, same, has, var_of, IsWithin}
use Rattle.dimacs.proofs.LiteralLemmas.{same-true, same-is}
use Rattle.cube_split.specs.Definitions.{IsPairOf}
use Rattle.cube_split.specs.Pairs.{is_short, sign, together}
use Rattle.cube_split.specs.inner.Ranks.{AreKeys, AreOnce, AreDistinctOf, IsKey, keys_of_two, keys_with, keys_among, key_of, times}
use Rattle.cube_split.specs.declared.pair.Pair.{Pair}

-- ---- keys
signs : (l : Literal) → sign l ≤ 1
signs (Pos v) = omega arith
signs (Neg v) = omega arith

same_literal : (k l : Literal) → var_of k ≡ var_of l → sign k ≡ sign l → k ≡ l
same_literal (Pos v) (Pos w) e s = ap Pos e
same_literal (Neg v) (Neg w) e s = ap Neg e
same_literal (Pos v) (Neg w) e s = absurd (omega arith)
same_literal (Neg v) (Pos w) e s = absurd (omega arith)

pub same_pair : (p q : Pair) → p.first ≡ q.first → p.second ≡ q.second → p ≡ q
same_pair p q a b = ap (λ (l : Literal). record { first = l; second = p.second }) a ∙ ap (λ (l : Literal). record { first = q.first; second = l }) b

parts_of_key : (a b s t : ℕ) → b < 134217728 → s ≤ 1 → t ≤ 1 → (c d u v : ℕ) → d < 134217728 → u ≤ 1 → v ≤ 1
    → (a * 134217728 + b) * 4 + s * 2 + t ≡ (c * 134217728 + d) * 4 + u * 2 + v → (a ≡ c) × (b ≡ d) × (s ≡ u) × (t ≡ v)
parts_of_key a b s t lb ls lt c d u v ld lu lv e =
    let one : t ≡ v = omega arith in
    let two : s ≡ u = omega arith in
    let both : a * 134217728 + b ≡ c * 134217728 + d = omega arith in
    let three : b ≡ d = omega arith in
    (omega arith, three, two, one)

-- pairs of variables below 2 ^ 27 with one key are one pair
pub key_apart : (p q : Pair) → var_of p.second < 134217728 → var_of q.second < 134217728 → key_of p ≡ key_of q → p ≡ q
key_apart p q a b e =
    let h = parts_of_key (var_of p.first) (var_of p.second) (sign p.first) (sign p.second) a (signs p.first) (signs p.second) (var_of q.first) (var_of q.second) (sign q.first) (sign q.second) b (signs q.first) (signs q.second) e in
    same_pair p q (same_literal p.first q.first h.0 h.2) (same_literal p.second q.second h.1 h.3)

-- ---- two literals
times_here : (key : ℕ) → times key (key ∷ []) ≡ 1
times_here key = sum_by-cons (λ (n : ℕ). cond {A = ℕ} (eqb n key) 1 0) key [] ∙ ap (λ (b : Bool). cond {A = ℕ} b 1 0 + 0) (eq-eqb key key refl)

times_other : (key k : ℕ) → k ≢ key → times key (k ∷ []) ≡ 0
times_other key k ne = sum_by-cons (λ (n : ℕ). cond {A = ℕ} (eqb n key) 1 0) k [] ∙ ap (λ (b : Bool). cond {A = ℕ} b 1 0 + 0) (ne_eqb k key ne)

-- two literals are those of a pair
abbrev meets : Literal → Literal → Pair → Bool
meets x y p = same p.first x && same p.second y || same p.second x && same p.first y

record IsAsked (vars : ℕ) (test : Literal → Bool) (p : Pair) : Type 0 where
  few : vars < 134217728
  pair : IsPairOf vars p
  first : test p.first ≡ false
  second : test p.second ≡ false

two_are : (vars : ℕ) (test : Literal → Bool) (p : Pair) → IsAsked vars test p → times (key_of p) (keys_of_two test p.first p.second) ≡ 1
two_are vars test p h =
    let k : ℕ = key_of p in
    ap (times k)
    (cond-false (test p.first || test p.second) [] (cond (nat_lt (var_of p.first) (var_of p.second)) (k ∷ []) (cond (nat_lt (var_of p.second) (var_of p.first)) (key_of (record { first = p.second; second = p.first }) ∷ []) []))
    (or_from (test p.first) (test p.second) h.first h.second)
    ∙ cond-true (nat_lt (var_of p.first) (var_of p.second)) (k ∷ []) (cond (nat_lt (var_of p.second) (var_of p.first)) (key_of (record { first = p.second; second = p.first }) ∷ []) []) (lt-ltb (var_of p.first) (var_of p.second) h.pair.rise))
    ∙ times_here k

two_turned : (vars : ℕ) (test : Literal → Bool) (p : Pair) → IsAsked vars test p → times (key_of p) (keys_of_two test p.second p.first) ≡ 1
two_turned vars test p h =
    let k : ℕ = key_of p in
    let up = h.pair.rise in
    ap (times k)
    (cond-false (test p.second || test p.first) [] (cond (nat_lt (var_of p.second) (var_of p.first)) (key_of (record { first = p.second; second = p.first }) ∷ []) (cond (nat_lt (var_of p.first) (var_of p.second)) (k ∷ []) []))
    (or_from (test p.second) (test p.first) h.second h.first)
    ∙ cond-false (nat_lt (var_of p.second) (var_of p.first)) (key_of (record { first = p.second; second = p.first }) ∷ []) (cond (nat_lt (var_of p.first) (var_of p.second)) (k ∷ []) []) (le-ltb (var_of p.second) (var_of p.first) (omega arith))
    ∙ cond-true (nat_lt (var_of p.first) (var_of p.second)) (k ∷ []) [] (lt-ltb (var_of p.first) (var_of p.second) up))
    ∙ times_here k

none_where : (key : ℕ) (b : Bool) (xs ys : List ℕ) → times key xs ≡ 0 → times key ys ≡ 0 → times key (cond b xs ys) ≡ 0
none_where key true xs ys h g = h
none_where key false xs ys h g = g

two_not : (vars : ℕ) (test : Literal → Bool) (p : Pair) (x y : Literal) → IsAsked vars test p → var_of x ≤ vars → var_of y ≤ vars
    → (x ≡ p.first → y ≡ p.second → ⊥) → (x ≡ p.second → y ≡ p.first → ⊥) → times (key_of p) (keys_of_two test x y) ≡ 0
two_not vars test p x y h u v straight turned =
    let k : ℕ = key_of p in
    let few = h.few in
    let up = h.pair.up_to in
    none_where k (test x || test y) [] _ refl
    (none_where k (nat_lt (var_of x) (var_of y)) (key_of (record { first = x; second = y }) ∷ []) _
    (times_other k (key_of (record { first = x; second = y })) (λ e. let same_one : record { first = x; second = y } ≡ p = key_apart (record { first = x; second = y }) p (omega arith) (omega arith) e in
    straight (ap (λ (q : Pair). q.first) same_one) (ap (λ (q : Pair). q.second) same_one)))
    (none_where k (nat_lt (var_of y) (var_of x)) (key_of (record { first = y; second = x }) ∷ []) []
    (times_other k (key_of (record { first = y; second = x })) (λ e. let same_one : record { first = y; second = x } ≡ p = key_apart (record { first = y; second = x }) p (omega arith) (omega arith) e in
    turned (ap (λ (q : Pair). q.second) same_one) (ap (λ (q : Pair). q.first) same_one)))
    refl))

two : (vars : ℕ) (test : Literal → Bool) (p : Pair) (x y : Literal) → IsAsked vars test p → var_of x ≤ vars → var_of y ≤ vars
    → times (key_of p) (keys_of_two test x y) ≡ cond (meets x y p) 1 0
two vars test p x y h u v = elim (cases_Bool (meets x y p)) [
  | inl met ↦ elim (or_cases (same p.first x && same p.second y) (same p.second x && same p.first y) met) [
    | inl s ↦
        let parts = and_parts (same p.first x) (same p.second y) s in
        subst (λ (z : Literal). times (key_of p) (keys_of_two test z y) ≡ cond (meets x y p) 1 0) (same-true p.first x parts.0)
        (subst (λ (z : Literal). times (key_of p) (keys_of_two test p.first z) ≡ cond (meets x y p) 1 0) (same-true p.second y parts.1)
        (two_are vars test p h ∙ sym (cond-true (meets x y p) 1 0 met)))
    | inr t ↦
        let parts = and_parts (same p.second x) (same p.first y) t in
        subst (λ (z : Literal). times (key_of p) (keys_of_two test z y) ≡ cond (meets x y p) 1 0) (same-true p.second x parts.0)
        (subst (λ (z : Literal). times (key_of p) (keys_of_two test p.second z) ≡ cond (meets x y p) 1 0) (same-true p.first y parts.1)
        (two_turned vars test p h ∙ sym (cond-true (meets x y p) 1 0 met)))
  ]
  | inr apart ↦
      let parts = or_parts (same p.first x && same p.second y) (same p.second x && same p.first y) apart in
      two_not vars test p x y h u v
      (λ e f. both_ways (same p.first x && same p.second y) parts.0 (and_from (same p.first x) (same p.second y) (same-is p.first x (sym e)) (same-is p.second y (sym f))))
      (λ e f. both_ways (same p.second x && same p.first y) parts.1 (and_from (same p.second x) (same p.first y) (same-is p.second x (sym e)) (same-is p.first y (sym f))))
      ∙ sym (cond-false (meets x y p) 1 0 apart)
]

-- ---- one literal with some others
-- of x and y one is a, and one is b; D holds neither twice
count_one_more : (xa xb ya yb da db : Bool) → (xa && xb) ≡ false → (ya && da) ≡ false → (yb && db) ≡ false
    → cond {A = ℕ} (xa && yb || xb && ya) 1 0 + cond {A = ℕ} (xa && db || xb && da) 1 0 ≡ cond {A = ℕ} (xa && (yb || db) || xb && (ya || da)) 1 0
count_one_more true true ya yb da db e f g = absurd (true≢false e)
count_one_more true false ya true da true e f g = absurd (true≢false g)
count_one_more true false ya true da false e f g = refl
count_one_more true false ya false da true e f g = refl
count_one_more true false ya false da false e f g = refl
count_one_more false true true yb true db e f g = absurd (true≢false f)
count_one_more false true true yb false db e f g = refl
count_one_more false true false yb true db e f g = refl
count_one_more false true false yb false db e f g = refl
count_one_more false false ya yb da db e f g = refl

count_all : (xa xb da db : Bool) → (xa && xb) ≡ false → (xa && da) ≡ false → (xb && db) ≡ false
    → cond {A = ℕ} (xa && db || xb && da) 1 0 + cond {A = ℕ} (da && db) 1 0 ≡ cond {A = ℕ} ((xa || da) && (xb || db)) 1 0
count_all true true da db e f g = absurd (true≢false e)
count_all true false true db e f g = absurd (true≢false f)
count_all true false false true e f g = refl
count_all true false false false e f g = refl
count_all false true da true e f g = absurd (true≢false g)
count_all false true true false e f g = refl
count_all false true false false e f g = refl
count_all false false true true e f g = refl
count_all false false true false e f g = refl
count_all false false false true e f g = refl
count_all false false false false e f g = refl

not_both : (vars : ℕ) (p : Pair) (x : Literal) → IsPairOf vars p → (same p.first x && same p.second x) ≡ false
not_both vars p x h = false_from_ne_true (same p.first x && same p.second x) (λ t.
    let parts = and_parts (same p.first x) (same p.second x) t in
    let e : p.first ≡ p.second = same-true p.first x parts.0 ∙ sym (same-true p.second x parts.1) in
    let f = ap var_of e in
    let up = h.rise in
    omega arith)

not_again : (D : List Literal) (a y : Literal) → has D y ≡ false → (same a y && has D a) ≡ false
not_again D a y new = false_from_ne_true (same a y && has D a) (λ t.
    let parts = and_parts (same a y) (has D a) t in
    both_ways (has D y) new (ap (has D) (sym (same-true a y parts.0)) ∙ parts.1))

with_some : (vars : ℕ) (test : Literal → Bool) (p : Pair) (x : Literal) (D : List Literal) → IsAsked vars test p → var_of x ≤ vars → AreOnce D → All (λ l. var_of l ≤ vars) D
    → times (key_of p) (keys_with test x D) ≡ cond (same p.first x && has D p.second || same p.second x && has D p.first) 1 0
with_some vars test p x [] h u once low = sym (cond-false (same p.first x && false || same p.second x && false) 1 0
    (or_from (same p.first x && false) (same p.second x && false) (and_right (same p.first x) false refl) (and_right (same p.second x) false refl)))
with_some vars test p x (y ∷ D) h u once low =
    let P : Literal → Type 0 = λ l. var_of l ≤ vars in
    let here = two vars test p x y h u (All-head P y D low) in
    let rest = with_some vars test p x D h u once.1 (All-tail P y D low) in
    sum_by-append (λ (n : ℕ). cond {A = ℕ} (eqb n (key_of p)) 1 0) (keys_of_two test x y) (keys_with test x D)
    ∙ ap (λ (n : ℕ). n + times (key_of p) (keys_with test x D)) here
    ∙ ap (λ (n : ℕ). cond {A = ℕ} (meets x y p) 1 0 + n) rest
    ∙ count_one_more (same p.first x) (same p.second x) (same p.first y) (same p.second y) (has D p.first) (has D p.second) (not_both vars p x h.pair) (not_again D p.first y once.0) (not_again D p.second y once.0)

among_all : (vars : ℕ) (test : Literal → Bool) (p : Pair) (D : List Literal) → IsAsked vars test p → AreOnce D → All (λ l. var_of l ≤ vars) D
    → times (key_of p) (keys_among test D) ≡ cond (has D p.first && has D p.second) 1 0
among_all vars test p [] h once low = refl
among_all vars test p (x ∷ D) h once low =
    let P : Literal → Type 0 = λ l. var_of l ≤ vars in
    let here = with_some vars test p x D h (All-head P x D low) once.1 (All-tail P x D low) in
    let rest = among_all vars test p D h once.1 (All-tail P x D low) in
    sum_by-append (λ (n : ℕ). cond {A = ℕ} (eqb n (key_of p)) 1 0) (keys_with test x D) (keys_among test D)
    ∙ ap (λ (n : ℕ). n + times (key_of p) (keys_among test D)) here
    ∙ ap (λ (n : ℕ). cond {A = ℕ} (same p.first x && has D p.second || same p.second x && has D p.first) 1 0 + n) rest
    ∙ count_all (same p.first x) (same p.second x) (has D p.first) (has D p.second) (not_both vars p x h.pair) (not_again D p.first x once.0) (not_again D p.second x once.0)

-- ---- each key is one of a pair
all_where : (P : ℕ → Type 0) (b : Bool) (xs ys : List ℕ) → (b ≡ true → All P xs) → (b ≡ false → All P ys) → All P (cond b xs ys)
all_where P true xs ys h g = h refl
all_where P false xs ys h g = g refl

two_made : (vars : ℕ) (test : Literal → Bool) (x y : Literal) → IsWithin vars x → IsWithin vars y → All (IsKey vars test) (keys_of_two test x y)
two_made vars test x y u v =
    all_where (IsKey vars test) (test x || test y) [] _ (λ e. All-nil (IsKey vars test)) (λ unmarked.
    let parts = or_parts (test x) (test y) unmarked in
    all_where (IsKey vars test) (nat_lt (var_of x) (var_of y)) (key_of (record { first = x; second = y }) ∷ []) _
    (λ up. All-cons (IsKey vars test) (key_of (record { first = x; second = y })) []
    (record { first = x; second = y }, record { from_1 = u.0; rise = ltb-true (var_of x) (var_of y) up; up_to = v.1 }, parts.0, parts.1, refl) (All-nil (IsKey vars test)))
    (λ other. all_where (IsKey vars test) (nat_lt (var_of y) (var_of x)) (key_of (record { first = y; second = x }) ∷ []) []
    (λ up. All-cons (IsKey vars test) (key_of (record { first = y; second = x })) []
    (record { first = y; second = x }, record { from_1 = v.0; rise = ltb-true (var_of y) (var_of x) up; up_to = u.1 }, parts.1, parts.0, refl) (All-nil (IsKey vars test)))
    (λ none. All-nil (IsKey vars test))))

with_made : (vars : ℕ) (test : Literal → Bool) (x : Literal) (D : List Literal) → IsWithin vars x → All (IsWithin vars) D → All (IsKey vars test) (keys_with test x D)
with_made vars test x [] u low = All-nil (IsKey vars test)
with_made vars test x (y ∷ D) u low =
    All-append (IsKey vars test) (keys_of_two test x y) (keys_with test x D) (two_made vars test x y u (All-head (IsWithin vars) y D low)) (with_made vars test x D u (All-tail (IsWithin vars) y D low))

among_made : (vars : ℕ) (test : Literal → Bool) (D : List Literal) → All (IsWithin vars) D → All (IsKey vars test) (keys_among test D)
among_made vars test [] low = All-nil (IsKey vars test)
among_made vars test (x ∷ D) low =
    All-append (IsKey vars test) (keys_with test x D) (keys_among test D) (with_made vars test x D (All-head (IsWithin vars) x D low) (All-tail (IsWithin vars) x D low)) (among_made vars test D (All-tail (IsWithin vars) x D low))

-- ---- the walk along the clauses
pub no_keys : (vars : ℕ) (test : Literal → Bool) → AreKeys vars test [] []
no_keys vars test = record { counted = λ p h a b. refl; made = All-nil (IsKey vars test) }

pub keys_same : (vars : ℕ) (test : Literal → Bool) (clauses : List Clause) (i : ℕ) (C : Clause) (keys : List ℕ) → i < length clauses → C ≡ get_or clauses i [] → is_short C ≡ false
    → AreKeys vars test (take i clauses) keys → AreKeys vars test (take (i + 1) clauses) keys
keys_same vars test clauses i C keys below is long h = record {
  counted = λ p pair a b. h.counted p pair a b
      ∙ sym (count_by_more_no (λ (E : Clause). is_short E && (has E p.first && has E p.second)) clauses i [] below (ap (λ (E : Clause). is_short E && (has E p.first && has E p.second)) (sym is) ∙ and_left (is_short C) (has C p.first && has C p.second) long));
  made = h.made;
}

pub keys_more : (vars : ℕ) (test : Literal → Bool) (clauses : List Clause) (i : ℕ) (C D : Clause) (keys : List ℕ) → vars < 134217728 → i < length clauses → C ≡ get_or clauses i [] → is_short C ≡ true
    → All (IsWithin vars) D → AreDistinctOf C D → AreKeys vars test (take i clauses) keys → AreKeys vars test (take (i + 1) clauses) (keys ++ keys_among test D)
keys_more vars test clauses i C D keys few below is short low gathered h = record {
  counted = λ p pair a b.
      let T : Clause → Bool = λ (E : Clause). is_short E && (has E p.first && has E p.second) in
      let added = among_all vars test p D (record { few = few; pair = pair; first = a; second = b }) gathered.once (All-weaker (IsWithin vars) (λ l. var_of l ≤ vars) (λ l w. w.1) D low) in
      let there : (has D p.first && has D p.second) ≡ T (get_or clauses i []) =
      ap (λ (x : Bool). x && has D p.second) (gathered.same p.first) ∙ ap (λ (x : Bool). has C p.first && x) (gathered.same p.second)
      ∙ ap (λ (s : Bool). s && (has C p.first && has C p.second)) (sym short) ∙ ap T is in
      sum_by-append (λ (n : ℕ). cond {A = ℕ} (eqb n (key_of p)) 1 0) keys (keys_among test D)
      ∙ ap (λ (n : ℕ). n + times (key_of p) (keys_among test D)) (h.counted p pair a b)
      ∙ ap (λ (n : ℕ). together (take i clauses) p + n) (added ∙ ap (λ (x : Bool). cond {A = ℕ} x 1 0) there)
      ∙ sym (sum_by_more (λ (E : Clause). cond {A = ℕ} (T E) 1 0) clauses i [] below);
  made = All-append (IsKey vars test) keys (keys_among test D) h.made (among_made vars test D low);
}
