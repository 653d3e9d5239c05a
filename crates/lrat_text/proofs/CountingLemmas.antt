-- A fresh log that deletes nothing has at most as many lemmas as there are clauses without a complementary pair.
use Rattle.std.proofs.Common.{zero, suc, ◌≡◌, ℕ, ◌+◌, ◌*◌, ◌^◌, ◌<◌, ◌≤◌, max, inl, inr, Bool, true, false, cond, eqb, List, [], ◌∷◌, length, Result, Ok, refl, sym, ◌∙◌, ap, subst, arith}
use Rattle.std.specs.List.{All, Contains, IsDistinct, AllByRecursion, list_any}
use Rattle.std.specs.FinMap.{insert, len}
use Rattle.std.proofs.lemmas.Bool.{true≢false, cases_Bool, cases_eq, eqb-true, or_left, or_right, or_cases}
use Rattle.std.proofs.lemmas.List.Elements.{All-contains}
use Rattle.std.proofs.lemmas.Map.Keys.{IsDistinct-cons}
use Rattle.std.proofs.lemmas.Map.Steps.{length-le_from_distinct_below}
use Rattle.std.proofs.Math.Nat.{pow-le-pow_right}
use Rattle.dimacs.specs.logic.Literal.{Literal, Pos, Neg, Clause, IsWithin, IsTautology, has}
use Rattle.dimacs.specs.logic.Cnf.{Cnf}
use Rattle.dimacs.specs.logic.ClauseMap.{ClauseMap, live_in, map_of}
use Rattle.dimacs.specs.text.Words.{lines}
use Rattle.dimacs.proofs.Members.{has-Contains, Contains-has}
use Rattle.lrat_text.specs.Grammar.{LineSpells, LineSpellsWithin}
use Rattle.lrat_text.specs.Lines.{AllReadWithin}
use Rattle.lrat_text.specs.Log.{log_top, AreLogSteps, IsLog, IsHonest, AreFresh, IsNew, additions}
use Rattle.lrat_text.specs.Parser.{step_within}
use Rattle.lrat_text.specs.declared.fault.TextFault.{TextFault}
use Rattle.lrat_text.specs.declared.step.Step.{Step}
use Rattle.lrat_text.specs.declared.step.Step.TheVariants.{Add, Delete}
use Rattle.lrat_text.proofs.ClauseMapLemmas.{get_here, get_other, len_more, len-numbered, numbered_between}
use Rattle.lrat_text.proofs.LineLemmas.{spelled_read_within, spells_more}

-- ---- a clause as a number in base three
-- 1 where the clause holds the variable, 2 where it holds its negation, 0 where it holds neither
abbrev digit : Clause → ℕ → ℕ
digit C v = cond (has C (Pos v)) 1 (cond (has C (Neg v)) 2 0)

abbrev pub code : ℕ → Clause → ℕ
code zero C = 0
code (suc k) C = 3 * code k C + digit C (suc k)

digit_below : (a b : Bool) → cond a 1 (cond b 2 0) < 3
digit_below true b = omega arith
digit_below false true = omega arith
digit_below false false = omega arith

pub code_below : (k : ℕ) (C : Clause) → code k C < 3 ^ k
code_below zero C = omega arith
code_below (suc k) C =
    let h = code_below k C in
    let d = digit_below (has C (Pos (suc k))) (has C (Neg (suc k))) in
    let p : 3 ^ suc k ≡ 3 * 3 ^ k = omega arith in
    omega arith

-- the same number, the same digits
same_digits : (k : ℕ) (C D : Clause) → code k C ≡ code k D → (v : ℕ) → 0 < v → v ≤ k → digit C v ≡ digit D v
same_digits zero C D e v low up = absurd (omega arith)
same_digits (suc k) C D e v low up =
    let c = digit_below (has C (Pos (suc k))) (has C (Neg (suc k))) in
    let d = digit_below (has D (Pos (suc k))) (has D (Neg (suc k))) in
    elim (cases_eq v (suc k)) [
      | inl s ↦ subst (λ w. digit C w ≡ digit D w) (sym s) (let h : digit C (suc k) ≡ digit D (suc k) = omega arith in h)
      | inr n ↦ same_digits k C D (let h : code k C ≡ code k D = omega arith in h) v low (omega arith)
    ]

one_from : (a b : Bool) → ◌≡◌ {A = ℕ} (cond a 1 (cond b 2 0)) 1 → a ≡ true
one_from true b e = refl
one_from false true e = absurd (omega arith)
one_from false false e = absurd (omega arith)

two_from : (a b : Bool) → ◌≡◌ {A = ℕ} (cond a 1 (cond b 2 0)) 2 → b ≡ true
two_from true b e = absurd (omega arith)
two_from false true e = refl
two_from false false e = absurd (omega arith)

-- so a clause without a complementary pair is a subset of each clause of the same number
pub same_code : (k : ℕ) (C D : Clause) → code k C ≡ code k D → ¬ (IsTautology D) → All (IsWithin k) D → (l : Literal) → Contains D l → Contains C l
same_code k C D e pair within (Pos v) i =
    let b = All-contains (IsWithin k) D (Pos v) within i in
    let s = same_digits k C D e v b.0 b.1 in
    let d : digit D v ≡ 1 = ap (λ x. cond x 1 (cond (has D (Neg v)) 2 0)) (Contains-has D (Pos v) i) in
    has-Contains C (Pos v) (one_from (has C (Pos v)) (has C (Neg v)) (s ∙ d))
same_code k C D e pair within (Neg v) i =
    let b = All-contains (IsWithin k) D (Neg v) within i in
    let s = same_digits k C D e v b.0 b.1 in
    let not_pos : has D (Pos v) ≡ false = elim (cases_Bool (has D (Pos v))) [
      | inl t ↦ absurd (pair (Neg v, i, has-Contains D (Pos v) t))
      | inr f ↦ f
    ] in
    let d : digit D v ≡ 2 =
    ap (λ x. cond x 1 (cond (has D (Neg v)) 2 0)) not_pos ∙ ap (λ x. cond x 2 0) (Contains-has D (Neg v) i) in
    has-Contains C (Neg v) (two_from (has C (Pos v)) (has C (Neg v)) (s ∙ d))

-- ---- a log so far
-- a number that is the code of a live lemma
pub record IsCode (k : ℕ) (M : ClauseMap) (c : ℕ) : Type 0 where
  pub number : ℕ
  pub clause : Clause
  pub lives : live_in M number clause
  pub pair : ¬ (IsTautology clause)
  pub within : All (IsWithin k) clause
  pub is : code k clause ≡ c

-- the codes of the lemmas so far are distinct, and each is that of a live lemma; nothing else came to the base
pub record IsCounted (B : Cnf) (M : ClauseMap) (top : ℕ) (codes : List ℕ) : Type 0 where
  pub live : (c : ℕ) → list_any (eqb c) codes ≡ true → IsCode B.vars M c
  pub distinct : IsDistinct eqb codes
  pub below : (n : ℕ) (C : Clause) → live_in M n C → n ≤ top
  pub few : len M ≤ length B.clauses + length codes

still_code : (k : ℕ) (M : ClauseMap) (top n : ℕ) (C : Clause) (c : ℕ) → ((q : ℕ) (D : Clause) → live_in M q D → q ≤ top) → n ≡ top + 1 → IsCode k M c → IsCode k (insert M n C) c
still_code k M top n C c below e h =
    let b = below h.number h.clause h.lives in
    record {
      number = h.number;
      clause = h.clause;
      lives = get_other M n h.number C (λ s. let z : h.number ≡ n = s in omega arith) ∙ h.lives;
      pair = h.pair;
      within = h.within;
      is = h.is;
    }

none_of : (c : ℕ) (cs : List ℕ) → (list_any (eqb c) cs ≡ true → ⊥) → AllByRecursion (λ y. eqb c y ≡ false) cs
none_of c [] f = tt
none_of c (x ∷ cs) f = elim (cases_Bool (eqb c x)) [
  | inl t ↦ absurd (f (or_left (eqb c x) (list_any (eqb c) cs) t))
  | inr n ↦ (n, none_of c cs (λ t. f (or_right (eqb c x) (list_any (eqb c) cs) t)))
]

counted_more : (B : Cnf) (M : ClauseMap) (top n : ℕ) (C : Clause) (codes : List ℕ) → n ≡ top + 1 → ¬ (IsTautology C) → All (IsWithin B.vars) C → IsNew (live_in M) C
    → IsCounted B M top codes → IsCounted B (insert M n C) n (code B.vars C ∷ codes)
counted_more B M top n C codes e pair within is_new h = record {
  live = λ c a. elim (or_cases (eqb c (code B.vars C)) (list_any (eqb c) codes) a) [
    | inl s ↦ record { number = n; clause = C; lives = get_here M n C; pair = pair; within = within; is = sym (eqb-true c (code B.vars C) s) }
    | inr r ↦ still_code B.vars M top n C c h.below e (h.live c r)
  ];
  distinct = IsDistinct-cons eqb (code B.vars C) codes (none_of (code B.vars C) codes (λ t.
      let o = h.live (code B.vars C) t in
      is_new o.number o.clause o.lives (same_code B.vars C o.clause (sym o.is) o.pair o.within))) h.distinct;
  below = λ q D l. elim (cases_eq q n) [
    | inl s ↦ omega arith
    | inr d ↦ let b = h.below q D (sym (get_other M n q C d) ∙ l) in omega arith
  ];
  few = (let f = h.few in let g = len_more M n C in omega arith);
}

codes_few : (B : Cnf) (M : ClauseMap) (top : ℕ) (codes : List ℕ) → IsCounted B M top codes → length codes ≤ 3 ^ B.vars
codes_few B M top codes h = length-le_from_distinct_below codes (3 ^ B.vars) h.distinct
    (λ q t. let o = h.live q t in subst (λ x. x < 3 ^ B.vars) o.is (code_below B.vars o.clause))

few_more : (B : Cnf) (M : ClauseMap) (top : ℕ) (codes : List ℕ) (steps : List Step) → B.vars ≤ 6 → IsCounted B M top codes → AreLogSteps (length B.clauses) M top steps → AreFresh B M steps
    → additions steps + length codes ≤ 3 ^ B.vars
few_more B M top codes [] six h l f = let few = codes_few B M top codes h in omega arith
few_more B M top codes (Add id lits hints groups ∷ steps) six h l f =
    let s = l.0 in
    let r = few_more B (insert M id lits) id (code B.vars lits ∷ codes) steps six
    (counted_more B M top id lits codes s.0 (s.2).no_pair f.0.0 f.0.1 h) l.1 f.1 in
    omega arith
few_more B M top codes (Delete ids ∷ steps) six h l f =
    let few = codes_few B M top codes h in
    let most : 3 ^ B.vars ≤ 3 ^ 6 = pow-le-pow_right (omega arith) six in
    let less = h.few in
    let more = f.0 in
    absurd (omega arith)

none_distinct : IsDistinct eqb []
unfolding IsDistinct
none_distinct = tt

pub few_additions : (B : Cnf) (steps : List Step) → B.vars ≤ 6 → IsLog B steps → AreFresh B (map_of B) steps → additions steps ≤ 3 ^ B.vars
few_additions B steps six l f =
    let r = few_more B (map_of B) (length B.clauses) [] steps six (record {
      live = λ c t. absurd (true≢false (sym t));
      distinct = none_distinct;
      below = λ n C h. let b = numbered_between B.clauses n C h in let up = b.1 in omega arith;
      few = omega (arith, len-numbered B.clauses);
    }) l f in
    omega arith

-- ---- a text has one list of steps
one_step : (r : Result Step TextFault) (s t : Step) → r ≡ Ok s → r ≡ Ok t → s ≡ t
one_step r s t h k = cc

read_once : (most : ℕ) (pieces : List (List ℕ)) (steps others : List Step) → AllReadWithin most pieces steps → AllReadWithin most pieces others → steps ≡ others
read_once most [] steps others h k = absurd h
read_once most (last ∷ []) steps others h k = h.1 ∙ sym k.1
read_once most (piece ∷ next ∷ pieces) [] others h k = absurd h
read_once most (piece ∷ next ∷ pieces) (s ∷ steps) [] h k = absurd k
read_once most (piece ∷ next ∷ pieces) (s ∷ steps) (t ∷ others) h k =
    let e = one_step (step_within most piece) s t h.0 k.0 in
    let f = read_once most (next ∷ pieces) steps others h.1 k.1 in
    ap (λ x. x ∷ steps) e ∙ ap (λ xs. t ∷ xs) f

pub one_list_within : (most : ℕ) → most < 2 ^ 48 → (text : List ℕ) (steps others : List Step) → LineSpellsWithin most text steps → LineSpellsWithin most text others → steps ≡ others
one_list_within most few text steps others h k = read_once most (lines text) steps others (spelled_read_within most few text steps h) (spelled_read_within most few text others k)

-- whatever the limits of the two lists are
pub one_list_under : (a b : ℕ) → a < 2 ^ 48 → b < 2 ^ 48 → (text : List ℕ) (steps others : List Step) → LineSpellsWithin a text steps → LineSpellsWithin b text others → steps ≡ others
one_list_under a b few_a few_b text steps others h k =
    one_list_within (max a b) (omega arith) text steps others (spells_more a (max a b) (omega arith) text steps h) (spells_more b (max a b) (omega arith) text others k)

pub one_list : (text : List ℕ) (steps others : List Step) → LineSpells text steps → LineSpells text others → steps ≡ others
one_list text steps others h k = one_list_within 2000000 (omega arith) text steps others h k

pub few_lemmas_within : (most : ℕ) → most < 2 ^ 48 → (B : Cnf) (n : ℕ) (text : List ℕ) (steps : List Step) → B.vars ≤ 6 → IsHonest B n text → LineSpellsWithin most text steps → AreFresh B (map_of B) steps → n ≤ 3 ^ B.vars
few_lemmas_within most few B n text steps six h spells fresh =
    let few_vars : max 2000000 B.vars < 2 ^ 48 = omega arith in
    let e = one_list_under most (log_top B) few few_vars text steps h.0 spells h.1 in
    let r = few_additions B h.0 six h.2 (subst (AreFresh B (map_of B)) e fresh) in
    let c = h.3 in
    omega arith

-- the same within the base's limit
pub few_lemmas : (B : Cnf) (n : ℕ) (text : List ℕ) (steps : List Step) → B.vars ≤ 6 → IsHonest B n text → LineSpellsWithin (log_top B) text steps → AreFresh B (map_of B) steps → n ≤ 3 ^ B.vars
few_lemmas B n text steps six h spells fresh =
    let few : max 2000000 B.vars < 2 ^ 48 = omega arith in
    few_lemmas_within (log_top B) few B n text steps six h spells fresh
