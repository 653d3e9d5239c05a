-- Splits of the formula that has every clause over two variables, and of one with a definition.
use Rattle.std.proofs.Common.{◌≡◌, ◌≢◌, ℕ, zero, suc, ◌<◌, ◌≤◌, ◌&&◌, Bool, true, false, cond, List, [], ◌∷◌, Some, None, refl, sym, ap, subst, ◌⊎◌, inl, inr, arith}
use Rattle.std.specs.Prelude.{count_by}
use Rattle.std.specs.List.{All}
use Rattle.std.proofs.lemmas.List.Elements.{All-nil, All-from_recursion}
use Rattle.std.proofs.lemmas.List.Sums.{sum_by-cons}
use Rattle.dimacs.specs.logic.Cnf.{AreWithin, Cnf}
use Rattle.dimacs.specs.logic.Literal.{Literal, Clause, Pos, Neg, IsWithin, var_of}
use Rattle.dimacs.proofs.Members.{Contains-nil}
use Rattle.icnf.specs.Leaves.{Cube, IsFree}
use Rattle.lrat_check.specs.declared.verdict.Reaction.TheVariants.{Ignored, Taken}
use Rattle.frames.specs.declared.frame.Frame.TheVariants.{Task, Rest}
use Rattle.cube_split.specs.Choice.{IsChoice, has_variable, is_apart, stands_in}
use Rattle.cube_split.specs.ChoiceWithDefinitions.{IsChosen, IsUndecided}
use Rattle.cube_split.specs.Definitions.{IsPairOf}
use Rattle.cube_split.specs.Pairs.{AreDefined, AreOf, Precedes, together}
use Rattle.cube_split.specs.declared.pair.Pair.{Pair}
use Rattle.cube_split.proofs.ChoiceLemmas.{stands_nowhere}
use Rattle.coordinator_core.specs.Coordinator.{CoordinatorState, DeliversDone, DeliversFirstDone, DeliversLimit, IsAwaited, split}
use Rattle.coordinator_core.specs.declared.job_state.Job.{Job}
use Rattle.coordinator_core.specs.Examples.{four, begun, begun_with_one, one_defined, polled, same_two, sent, MetLimit}

same_some : {X : Type 0} (a b : X) → Some a ≡ Some b → a ≡ b
same_some a b e = cc

one_at_most : (a b : Bool) → cond {A = ℕ} (a && b) 1 0 ≤ cond {A = ℕ} a 1 0
one_at_most true true = omega arith
one_at_most true false = omega arith
one_at_most false b = omega arith

-- a variable is in at most as many open clauses as there are
stands_le : (clauses : List Clause) (S : List Literal) (w : ℕ) → stands_in clauses S w ≤ count_by (is_apart S) clauses
stands_le [] S w = omega arith
stands_le (C ∷ clauses) S w =
    omega (
      arith,
      stands_le clauses S w,
      one_at_most (is_apart S C) (has_variable C w),
      sum_by-cons (λ (D : Clause). cond {A = ℕ} (is_apart S D && has_variable D w) 1 0) C clauses,
      sum_by-cons (λ (D : Clause). cond {A = ℕ} (is_apart S D) 1 0) C clauses,
    )

-- the whole formula
first_choice : IsChoice four [] 1
first_choice = record {
  free = All-nil (λ l. var_of l ≢ 1);
  some = omega arith;
  most = λ w free. stands_le four.clauses [] w;
  lowest = λ w free same. lowest w same;
}
  where
    lowest : (w : ℕ) → stands_in four.clauses [] w ≡ 4 → 1 ≤ w
    lowest zero same = let e : 0 ≡ 4 = same in absurd (omega (arith, e))
    lowest (suc w) same = omega arith

-- the cube of the literal 1
left : Cube
left = Pos 1 ∷ []

second_choice : IsChoice four (Pos 1 ∷ []) 2
second_choice = record {
  free = All-from_recursion (λ l. var_of l ≢ 2) (Pos 1 ∷ []) ((λ e. omega (arith, e)), tt);
  some = omega arith;
  most = λ w free. stands_le four.clauses (Pos 1 ∷ []) w;
  lowest = λ w free same. lowest w free same;
}
  where
    lowest : (w : ℕ) → IsFree (Pos 1 ∷ []) w → stands_in four.clauses (Pos 1 ∷ []) w ≡ 2 → 2 ≤ w
    lowest zero free same = let e : 0 ≡ 2 = same in absurd (omega (arith, e))
    lowest (suc zero) free same = absurd (free 0 (Pos 1) (omega arith) refl)
    lowest (suc (suc w)) free same = omega arith

pos_neg : (a b : Literal) → IsWithin 2 a → IsWithin 2 b → All (IsWithin 2) (a ∷ b ∷ [])
pos_neg a b p q = All-from_recursion (IsWithin 2) (a ∷ b ∷ []) (p, (q, tt))

-- both variables are in the cube `1 2`
no_choice : (v : ℕ) → ¬ (IsChoice four (Pos 1 ∷ Pos 2 ∷ []) v)
no_choice zero choice = let some : 0 < 0 = choice.some in absurd (omega (arith, some))
no_choice (suc zero) choice = choice.free 0 (Pos 1) (omega arith) refl
no_choice (suc (suc zero)) choice = choice.free 1 (Pos 1) (omega arith) refl
no_choice (suc (suc (suc v))) choice =
    let none = stands_nowhere 2 (suc (suc (suc v))) four.clauses (Pos 1 ∷ Pos 2 ∷ []) (inr (omega arith)) within in
    let some = choice.some in absurd (omega (arith, some, none))
  where
    within : AreWithin 2 four.clauses
    within = All-from_recursion (All (IsWithin 2)) four.clauses (
      pos_neg (Pos 1) (Pos 2) (omega arith, omega arith) (omega arith, omega arith),
      (
        pos_neg (Neg 1) (Pos 2) (omega arith, omega arith) (omega arith, omega arith),
        (pos_neg (Pos 1) (Neg 2) (omega arith, omega arith) (omega arith, omega arith), (pos_neg (Neg 1) (Neg 2) (omega arith, omega arith) (omega arith, omega arith), tt)),
      ),
    )

-- without definitions the choice is that among the formula's variables
none_open : (F : Cnf) (S : List Literal) (j : ℕ) → IsUndecided F [] S j → ⊥
none_open F S j is = never is.pair is.there
  where
    never : (p : Pair) → None ≡ Some p → ⊥
    never p e = cc

never_chosen : (v : ℕ) → IsChosen four [] (Pos 1 ∷ Pos 2 ∷ []) (Some v) → ⊥
never_chosen v (IsChosen.defined i is lowest e) = none_open four (Pos 1 ∷ Pos 2 ∷ []) i is
never_chosen v (IsChosen.plain none choice) = no_choice v choice

abbrev job : ℕ → Job
job number = record { number = number; leaf = 0; fixed = None }

abbrev c1 : CoordinatorState
c1 = split (polled begun) 1 (job 1) 1

abbrev c2 : CoordinatorState
c2 = split (polled c1) 1 (job 2) 2

abbrev c3 : CoordinatorState
c3 = record (polled c2) { stuck = true }

first_split : MetLimit (polled begun) 1 Taken c1
first_split = DeliversDone.first (job 1) (record { deciding = record { undecided = refl; going = refl }; session_is = refl; job = refl; number_is = refl }) refl
    (DeliversFirstDone.limited refl (DeliversLimit.splits 1 (record { may = record { short = omega arith; few = omega arith; narrow = omega arith }; choice = IsChosen.plain (none_open four []) first_choice }) refl refl))

second_split : MetLimit (polled c1) 2 Taken c2
second_split = DeliversDone.first (job 2) (record { deciding = record { undecided = refl; going = refl }; session_is = refl; job = refl; number_is = refl }) refl
    (DeliversFirstDone.limited refl (DeliversLimit.splits 2 (record { may = record { short = omega arith; few = omega arith; narrow = omega arith }; choice = IsChosen.plain (none_open four (Pos 1 ∷ [])) second_choice }) refl refl))

stopped : MetLimit (polled c2) 3 Taken c3
stopped = DeliversDone.first (job 3) (record { deciding = record { undecided = refl; going = refl }; session_is = refl; job = refl; number_is = refl }) refl
    (DeliversFirstDone.limited refl (DeliversLimit.stops (λ v can. never_chosen v can.choice) refl refl))

-- a Done of the job before is not of this job
once : MetLimit (polled c1) 1 Ignored (polled c1)
once = DeliversDone.is_ignored other refl refl
  where
    other : (j : Job) → IsAwaited (polled c1) 1 1 1 j → ⊥
    other j awaited =
        let there : Some (job 2) ≡ Some j = awaited.job in
        let number : 2 ≡ j.number = ap (λ (i : Job). i.number) (same_some (job 2) j there) in
        let asked : 1 ≡ j.number = awaited.number_is in
        absurd (omega (arith, number, asked))

pub first_is : (c : CoordinatorState) × (sent begun ≡ Task 1 1 100 []) × MetLimit (polled begun) 1 Taken c × (sent c ≡ Task 1 2 100 (Pos 1 ∷ [])) × MetLimit (polled c) 1 Ignored (polled c)
first_is = (c1, refl, first_split, refl, once)

pub second_is : (c d e : CoordinatorState) × MetLimit (polled begun) 1 Taken c × MetLimit (polled c) 2 Taken d
    × (d.tree ≡ (Pos 1 ∷ Pos 2 ∷ []) ∷ (Pos 1 ∷ Neg 2 ∷ []) ∷ (Neg 1 ∷ []) ∷ [])
    × (sent d ≡ Task 1 3 100 (Pos 1 ∷ Pos 2 ∷ [])) × MetLimit (polled d) 3 Taken e × (e.stuck ≡ true) × (sent e ≡ Rest)
second_is = (c1, c2, c3, first_split, second_split, refl, refl, stopped, refl, refl)

-- ---- a definition
abbrev the_pair : Pair
the_pair = record { first = Pos 1; second = Neg 2 }

signs : (l : Literal) (n : ℕ) → var_of l ≡ n → (l ≡ Pos n) ⊎ (l ≡ Neg n)
signs (Pos v) n e = inl (ap (λ k. Pos k) e)
signs (Neg v) n e = inr (ap (λ k. Neg k) e)

-- there are four pairs of two variables
each_pair : (P : Literal → Literal → Type 0) → P (Pos 1) (Pos 2) → P (Pos 1) (Neg 2) → P (Neg 1) (Pos 2) → P (Neg 1) (Neg 2) → (q : Pair) → IsPairOf 2 q → P q.first q.second
each_pair P a b c d q is =
    let low = is.from_1 in
    let rise = is.rise in
    let up = is.up_to in
    go (signs q.first 1 (omega (arith, low, rise, up))) (signs q.second 2 (omega (arith, low, rise, up)))
  where
    at : (l k : Literal) → q.first ≡ l → q.second ≡ k → P l k → P q.first q.second
    at l k e f p = subst (λ (x : Literal). P x q.second) (sym e) (subst (P l) (sym f) p)

    go : (q.first ≡ Pos 1) ⊎ (q.first ≡ Neg 1) → (q.second ≡ Pos 2) ⊎ (q.second ≡ Neg 2) → P q.first q.second
    go (inl e) (inl f) = at (Pos 1) (Pos 2) e f a
    go (inl e) (inr f) = at (Pos 1) (Neg 2) e f b
    go (inr e) (inl f) = at (Neg 1) (Pos 2) e f c
    go (inr e) (inr f) = at (Neg 1) (Neg 2) e f d

abbrev times : Literal → Literal → ℕ
times l k = together same_two.clauses (record { first = l; second = k })

-- 1 and -2 are together in as many clauses as -1 and 2, and come first
pub pair_is : AreOf same_two one_defined
pair_is = record {
  defined = AreDefined.next the_pair (record {
    candidate = record {
      of_formula = record { from_1 = omega arith; rise = omega arith; up_to = omega arith };
      first_undecided = Contains-nil (Pos 1);
      second_undecided = Contains-nil (Neg 2);
    };
    new = Contains-nil the_pair;
    some = omega arith;
    most = λ q c new. each_pair (λ l k. times l k ≤ 1) (omega arith) (omega arith) (omega arith) (omega arith) q c.of_formula;
    first = λ q c new. each_pair (λ l k. times l k ≡ 1 → record { first = l; second = k } ≢ the_pair → Precedes the_pair (record { first = l; second = k }))
        (λ e n. absurd (zero_or_one e)) (λ e n. absurd (n refl)) (λ e n. inr (refl, inr (refl, inl (omega arith)))) (λ e n. absurd (zero_or_one e)) q c.of_formula;
  }) AreDefined.all;
  few = omega arith;
}
  where
    zero_or_one : {n : ℕ} → zero ≡ suc n → ⊥
    zero_or_one e = cc

-- 3 has no value yet
defined_choice : IsChosen same_two (the_pair ∷ []) [] (Some 3)
defined_choice = IsChosen.defined 0 (record { pair = the_pair; there = refl; itself = All-nil (λ l. var_of l ≢ 3); first = All-nil (λ l. var_of l ≢ 1); second = All-nil (λ l. var_of l ≢ 2) })
    (λ j lt. absurd (omega (arith, lt))) refl

-- with 3 both literals of its pair are true
abbrev held : List Literal
held = Pos 3 ∷ Pos 1 ∷ Neg 2 ∷ []

not_two : (i : ℕ) → IsUndecided same_two (the_pair ∷ []) held i → ⊥
not_two zero is = is.itself 0 (Pos 3) (omega arith) refl
not_two (suc i) is = never is.pair is.there
  where
    never : (p : Pair) → None ≡ Some p → ⊥
    never p e = cc

not_held : (v : ℕ) → ¬ (IsChoice same_two held v)
not_held zero choice = let some : 0 < 0 = choice.some in absurd (omega (arith, some))
not_held (suc zero) choice = choice.free 1 (Pos 1) (omega arith) refl
not_held (suc (suc zero)) choice = choice.free 2 (Pos 1) (omega arith) refl
not_held (suc (suc (suc v))) choice =
    let none = stands_nowhere 2 (suc (suc (suc v))) same_two.clauses held (inr (omega arith)) within in
    let some = choice.some in absurd (omega (arith, some, none))
  where
    within : AreWithin 2 same_two.clauses
    within = All-from_recursion (All (IsWithin 2)) same_two.clauses (
      pos_neg (Pos 1) (Neg 2) (omega arith, omega arith) (omega arith, omega arith),
      (pos_neg (Neg 1) (Pos 2) (omega arith, omega arith) (omega arith, omega arith), tt),
    )

none_left : (v : ℕ) → IsChosen same_two (the_pair ∷ []) held (Some v) → ⊥
none_left v (IsChosen.defined i is lowest e) = not_two i is
none_left v (IsChosen.plain none choice) = not_held v choice

abbrev d1 : CoordinatorState
d1 = split (polled begun_with_one) 1 (job 1) 3

abbrev d2 : CoordinatorState
d2 = record (polled d1) { stuck = true }

defined_split : MetLimit (polled begun_with_one) 1 Taken d1
defined_split = DeliversDone.first (job 1) (record { deciding = record { undecided = refl; going = refl }; session_is = refl; job = refl; number_is = refl }) refl
    (DeliversFirstDone.limited refl (DeliversLimit.splits 3 (record { may = record { short = omega arith; few = omega arith; narrow = omega arith }; choice = defined_choice }) refl refl))

defined_stopped : MetLimit (polled d1) 2 Taken d2
defined_stopped = DeliversDone.first (job 2) (record { deciding = record { undecided = refl; going = refl }; session_is = refl; job = refl; number_is = refl }) refl
    (DeliversFirstDone.limited refl (DeliversLimit.stops (λ v can. none_left v can.choice) refl refl))

pub defined_is : (c d : CoordinatorState) × MetLimit (polled begun_with_one) 1 Taken c × (c.tree ≡ (Pos 3 ∷ []) ∷ (Neg 3 ∷ []) ∷ [])
    × (sent c ≡ Task 1 2 100 (Pos 3 ∷ [])) × MetLimit (polled c) 2 Taken d × (d.stuck ≡ true)
defined_is = (d1, d2, defined_split, refl, refl, defined_stopped, refl)
