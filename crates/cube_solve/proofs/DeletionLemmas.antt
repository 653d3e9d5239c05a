-- A log, and one deletion more.
use Rattle.std.proofs.Common.{zero, suc, ◌≡◌, ◌≢◌, ℕ, ◌+◌, ◌-◌, ◌<◌, ◌≤◌, inl, inr, Bool, true, false, not, eqb, nat_eq, cond, List, [], ◌∷◌, ◌++◌, length, get_or, Option, Some, None, refl, ap, sym, ◌∙◌, subst, arith}
use Rattle.std.specs.List.{Contains, IsDistinct, AllByRecursion, list_any}
use Rattle.std.specs.Prelude.{IsSome}
use Rattle.std.specs.Option.{is_some}
use Rattle.std.specs.FinMap.{get, len, remove, get-empty, get-remove, get-retain_keys, len-remove, empty_of_len, nat_cmp-IsAntisymmetric}
use Rattle.std.specs.Ordering.{nat_cmp}
use Rattle.std.specs.Cmp.{nat_cmp_total}
use Rattle.std.proofs.lemmas.Bool.{true≢false, both_ways, cases_Bool, cases_eq, or_left, or_right, or_cases, eqb-true, eq-eqb, ne_eqb}
use Rattle.std.proofs.lemmas.List.Elements.{All-contains, All-weaker, Contains-get_or}
use Rattle.std.proofs.lemmas.Map.Keys.{IsDistinct-cons, IsDistinct-tail, IsDistinct-from_apart}
use Rattle.dimacs.specs.logic.Cnf.{Cnf}
use Rattle.dimacs.specs.logic.ClauseMap.{ClauseMap, Live, live_in, map_of}
use Rattle.dimacs.specs.logic.Literal.{Clause}
use Rattle.dimacs.proofs.Members.{Contains-head, Contains-cons, Contains-cons_cases, Contains-nil}
use Rattle.clause_arena.specs.Clauses.{Clauses, live_of}
use Rattle.lrat_text.specs.Grammar.{LineSpellsWithin}
use Rattle.lrat_text.specs.Log.{additions, log_top}
use Rattle.lrat_text.specs.Proof.{without}
use Rattle.lrat_text.specs.Runs.{after_steps}
use Rattle.lrat_text.specs.WrittenLine.{line_text}
use Rattle.lrat_text.specs.declared.step.Step.{Step}
use Rattle.lrat_text.specs.declared.step.Step.TheVariants.{Add, Delete}
use Rattle.lrat_text.proofs.ClauseMapLemmas.{apart_test, none_some, numbered_between, numbered_at}
use Rattle.lrat_text.proofs.LineLemmas.{spells_step_more, written_spells, written_one_line}
use Rattle.watches.specs.Trails.{TrailValue}
use Rattle.watches.proofs.TrailLemmas.{head_alone}
use Rattle.cube_solve.specs.inner.Reduction.{AreRising, AreLemmas, AreAllExcept, Reduces, MayReduce}
use Rattle.cube_solve.specs.inner.LearntLog.{IsLearnt, IsSearch}
use Rattle.cube_solve.specs.inner.Twins.{AreTwins, AreLinked}
use Rattle.cube_solve.proofs.LogLemmas.{spells_push, written_in_log, log_push, fresh_push, after_push, top_push}

-- ---- members of a list of numbers
pub any_from : (xs : List ℕ) (n : ℕ) → Contains xs n → list_any (eqb n) xs ≡ true
any_from [] n h = absurd (Contains-nil n h)
any_from (x ∷ xs) n h = elim (Contains-cons_cases x n xs h) [
  | inl e ↦ or_left (eqb n x) (list_any (eqb n) xs) (eq-eqb n x (sym e))
  | inr i ↦ or_right (eqb n x) (list_any (eqb n) xs) (any_from xs n i)
]

pub from_any : (xs : List ℕ) (n : ℕ) → list_any (eqb n) xs ≡ true → Contains xs n
from_any [] n h = absurd (true≢false (sym h))
from_any (x ∷ xs) n h = elim (or_cases (eqb n x) (list_any (eqb n) xs) h) [
  | inl e ↦ subst (Contains (x ∷ xs)) (sym (eqb-true n x e)) (Contains-head x xs)
  | inr r ↦ Contains-cons x n xs (from_any xs n r)
]

pub rising_distinct : (xs : List ℕ) → AreRising xs → IsDistinct eqb xs
rising_distinct xs h = IsDistinct-from_apart eqb xs (λ i j d lt l. let a = h i j d lt l in ne_eqb (get_or xs i d) (get_or xs j d) (λ e. omega arith))

-- ---- how many clauses are live
one_fewer : (M : ClauseMap) (n : ℕ) (C : Clause) → live_in M n C → len M ≡ len (remove M n) + 1
one_fewer M n C h =
    let fewer : len (remove M n) ≡ cond (is_some (get M n)) (len M - 1) (len M) = len-remove nat_cmp_total M n in
    let exact : len (remove M n) ≡ len M - 1 = fewer ∙ ap (λ (o : Option Clause). cond (is_some o) (len M - 1) (len M)) h in
    elim (cases_eq (len M) 0) [
      | inl none ↦ absurd (none_some C (sym (get-empty nat_cmp n) ∙ ap (λ (N : ClauseMap). get N n) (sym (empty_of_len M none)) ∙ h))
      | inr some ↦ omega arith
    ]

get_apart : (M : ClauseMap) (n q : ℕ) → q ≢ n → get (remove M n) q ≡ get M q
get_apart M n q ne = get-remove nat_cmp_total M n q ∙ ap (λ b. cond b None (get M q)) (apart_test q n ne)

-- distinct numbers of live clauses are no more than are live
at_most : (ids : List ℕ) (M : ClauseMap) → ((n : ℕ) → Contains ids n → (C : Clause) × live_in M n C) → IsDistinct eqb ids → length ids ≤ len M
at_most [] M live apart = omega arith
at_most (id ∷ ids) M live apart =
    let c = live id (Contains-head id ids) in
    let rest = at_most ids (remove M id) (λ n i.
    let d = live n (Contains-cons id n ids i) in
    (d.0, get_apart M id n (λ e. head_alone id ids apart (any_from ids id (subst (Contains ids) e i))) ∙ d.1)) (IsDistinct-tail eqb id ids apart) in
    omega (arith, rest, one_fewer M id c.0 c.1)

none_of : (c : ℕ) (cs : List ℕ) → ¬ (Contains cs c) → AllByRecursion (λ y. eqb c y ≡ false) cs
none_of c [] f = tt
none_of c (x ∷ cs) f = (ne_eqb c x (λ e. f (subst (Contains (x ∷ cs)) (sym e) (Contains-head x cs))), none_of c cs (λ i. f (Contains-cons x c cs i)))

-- and with those from 1 to m
count_live : (m : ℕ) (ids : List ℕ) (M : ClauseMap) → ((n : ℕ) → 0 < n → n ≤ m → (C : Clause) × live_in M n C) → ((n : ℕ) → Contains ids n → (C : Clause) × live_in M n C)
    → IsDistinct eqb ids → ((n : ℕ) → Contains ids n → m < n) → m + length ids ≤ len M
count_live zero ids M base live apart above = let r = at_most ids M live apart in omega arith
count_live (suc m) ids M base live apart above =
    let r = count_live m (suc m ∷ ids) M (λ n low up. base n low (omega arith))
    (λ n i. elim (Contains-cons_cases (suc m) n ids i) [ inl e ↦ base n (omega arith) (omega arith) | inr j ↦ live n j ])
    (IsDistinct-cons eqb (suc m) ids (none_of (suc m) ids (λ i. let a = above (suc m) i in omega arith)) apart)
    (λ n i. elim (Contains-cons_cases (suc m) n ids i) [ inl e ↦ omega arith | inr j ↦ (let a = above n j in omega arith) ]) in
    omega arith

-- ---- the live clauses without some
test_in : (ids : List ℕ) (n : ℕ) (b : Bool) → list_any (nat_eq n) ids ≡ b → (o : Option Clause) (C : Clause) → cond (not (list_any (nat_eq n) ids)) o None ≡ Some C → ¬ (Contains ids n) × (o ≡ Some C)
test_in ids n true e o C h = absurd (none (ap (λ t. cond (not t) o None) (sym e) ∙ h))
  where
    none : ◌≡◌ {A = Option Clause} None (Some C) → ⊥
    none e = cc
test_in ids n false e o C h = (λ i. both_ways (list_any (nat_eq n) ids) e (any_from ids n i), ap (λ t. cond (not t) o None) (sym e) ∙ h)

get_without : (M : ClauseMap) (ids : List ℕ) (n : ℕ) → get (without M ids) n ≡ cond (not (list_any (nat_eq n) ids)) (get M n) None
get_without M ids n = get-retain_keys M (λ id. not (list_any (nat_eq id) ids)) n (λ x e. ap (λ y. not (list_any (nat_eq y) ids)) (sym (nat_cmp-IsAntisymmetric n x e)))

not_any : (ids : List ℕ) (n : ℕ) → ¬ (Contains ids n) → list_any (nat_eq n) ids ≡ false
not_any ids n out = elim (cases_Bool (list_any (nat_eq n) ids)) [ inl t ↦ absurd (out (from_any ids n t)) | inr f ↦ f ]

pub map_less : (M : ClauseMap) (ids : List ℕ) → AreAllExcept (live_in M) ids (live_in (without M ids))
map_less M ids = record {
  stays = λ n C h out. get_without M ids n ∙ ap (λ t. cond (not t) (get M n) None) (not_any ids n out) ∙ h;
  was = λ n C h. test_in ids n (list_any (nat_eq n) ids) refl (get M n) C (sym (get_without M ids n) ∙ h);
}

pub linked_less : (a b old new : Live) (ids : List ℕ) → AreLinked a old → AreAllExcept a ids b → AreAllExcept old ids new → AreLinked b new
linked_less a b old new ids h f g = record {
  forth = λ n C i. let w = f.was n C i in let d = h.forth n C w.1 in (d.0, g.stays n d.0 d.1 w.0, d.2);
  back = λ n D i. let w = g.was n D i in let c = h.back n D w.1 in (c.0, f.stays n c.0 c.1 w.0, c.2);
}

additions_same : (steps : List Step) (ids : List ℕ) → additions (steps ++ Delete ids ∷ []) ≡ additions steps
additions_same [] ids = refl
additions_same (Add id lits hints groups ∷ steps) ids = let r = additions_same steps ids in omega arith
additions_same (Delete others ∷ steps) ids = additions_same steps ids

pub some_is : (o : Option Clause) (C : Clause) → o ≡ Some C → IsSome o
some_is o C e = subst IsSome (sym e) refl

-- ---- the log with one deletion more
module _ (B : Cnf) (n : ℕ) (old new : Live) (before text : List ℕ) (l : IsLearnt B before n old) (f : Reduces (length B.clauses + 1) old new before text)
    (base : (k : ℕ) (C : Clause) → live_in (map_of B) k C → (D : Clause) × old k D × AreTwins C D) where
  abbrev M : ClauseMap
  M = after_steps (map_of B) l.steps

  abbrev step : Step
  step = Delete f.ids

  live_there : (first : ℕ) (xs : List ℕ) → AreLemmas first old xs → (k : ℕ) → Contains xs k → (C : Clause) × live_in M k C
  live_there first xs h k i =
      let c = All-contains (λ x. (C : Clause) × old x C) xs k h.lives i in
      let d = (l.linked).back k c.0 c.1 in
      (d.0, d.1)

  base_there : (k : ℕ) → 0 < k → k ≤ length B.clauses → (C : Clause) × live_in M k C
  base_there k low up =
      let e : (k - 1) + 1 ≡ k = omega arith in
      let i : live_in (map_of B) k (get_or B.clauses (k - 1) []) = subst (λ j. live_in (map_of B) j (get_or B.clauses (k - 1) [])) e (numbered_at B.clauses (k - 1) [] (omega arith)) in
      let d = base k (get_or B.clauses (k - 1) []) i in
      let c = (l.linked).back k d.0 d.1 in
      (c.0, c.1)

  many_live : length B.clauses + 2000 < len M
  many_live =
      let m = f.many in
      let h = m.lemmas in
      let c = count_live (length B.clauses) m.numbers M base_there (live_there (length B.clauses + 1) m.numbers h) (rising_distinct m.numbers h.rising)
      (λ k i. let a = All-contains (λ x. length B.clauses + 1 ≤ x) m.numbers k h.behind i in omega arith) in
      let more = m.many in
      omega arith

  pub learnt_less : IsLearnt B text n new
  learnt_less = record {
    steps = l.steps ++ step ∷ [];
    spells = subst (λ t. LineSpellsWithin (log_top B) t (l.steps ++ step ∷ [])) (sym f.written)
        (spells_push (log_top B) before l.steps (line_text f.top step) step l.spells (written_one_line f.top step f.numbered f.limits)
        (spells_step_more 2000000 (log_top B) (written_in_log B) (line_text f.top step) step (written_spells f.top step f.numbered f.limits)));
    log = log_push (length B.clauses) (map_of B) (length B.clauses) l.steps step l.log (
      All-weaker (λ k. length B.clauses + 1 ≤ k) (λ k. length B.clauses < k) (λ k h. omega arith) f.ids (f.lemmas).behind,
      (λ i d b. let c = live_there (length B.clauses + 1) f.ids f.lemmas (get_or f.ids i d) (Contains-get_or f.ids i d b) in some_is (get M (get_or f.ids i d)) c.0 c.1),
      rising_distinct f.ids (f.lemmas).rising,
    );
    count = additions_same l.steps f.ids ∙ l.count;
    fresh = fresh_push B (map_of B) l.steps step l.fresh many_live;
    top = top_push (length B.clauses) l.steps step ∙ l.top;
    linked = subst (λ N. AreLinked (live_in N) new) (sym (after_push (map_of B) l.steps step)) (linked_less (live_in M) (live_in (without M f.ids)) old new f.ids l.linked (map_less M f.ids) f.less);
  }

-- ---- a search that kept pace
search_less : (B : Cnf) (n : ℕ) (m k : Clauses) (t u : TrailValue) (before text : List ℕ) (ids : List ℕ) → IsSearch B n m t before → AreAllExcept (live_of m) ids (live_of k)
    → ((j : ℕ) → Contains ids j → length B.clauses < j) → u.vars ≡ t.vars → IsLearnt B text n (live_of k) → IsSearch B n k u text
search_less B n m k t u before text ids h less above v learnt = record {
  vars = v ∙ h.vars;
  below = λ j D i. h.below j D (less.was j D i).1;
  kept = λ j C i.
      let d = h.kept j C i in
      let b = numbered_between B.clauses j C i in
      let up = b.1 in
      (d.0, less.stays j d.0 d.1 (λ c. let x = above j c in omega arith), d.2);
  learnt = learnt;
}

learnt_same : (B : Cnf) (n : ℕ) (old new : Live) (text : List ℕ) → AreAllExcept old [] new → IsLearnt B text n old → IsLearnt B text n new
learnt_same B n old new text less l = record {
  steps = l.steps;
  spells = l.spells;
  log = l.log;
  count = l.count;
  fresh = l.fresh;
  top = l.top;
  linked = linked_less (live_in (after_steps (map_of B) l.steps)) (live_in (after_steps (map_of B) l.steps)) old new [] l.linked
      (record { stays = λ n C h k. h; was = λ n C h. (Contains-nil n, h) }) less;
}

pub search_kept : (B : Cnf) (n : ℕ) (m k : Clauses) (t u : TrailValue) (before text : List ℕ) → IsSearch B n m t before → MayReduce (length B.clauses + 1) (live_of m) (live_of k) before text
    → u.vars ≡ t.vars → IsSearch B n k u text
search_kept B n m k t u before text h c v = elim c [
  | inl same ↦ search_less B n m k t u before text [] h same.0 (λ j i. absurd (Contains-nil j i)) v
      (subst (λ x. IsLearnt B x n (live_of k)) (sym same.1) (learnt_same B n (live_of m) (live_of k) before same.0 h.learnt))
  | inr f ↦ search_less B n m k t u before text f.ids h f.less (λ j i. let b = All-contains (λ x. length B.clauses + 1 ≤ x) f.ids j (f.lemmas).behind i in omega arith) v
      (learnt_less B n (live_of m) (live_of k) before text h.learnt f h.kept)
]
