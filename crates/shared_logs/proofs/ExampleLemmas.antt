-- The worked examples.
use Rattle.std.proofs.Common.{rules, ◌≡◌, ℕ, ◌<◌, Bool, false, ◌==◌, is_some, List, [], ◌∷◌, inl, inr, refl, sym, ◌∙◌, ap, subst, true≢false, arith, codes}
use Rattle.std.specs.Prelude.{IsSome, nat_eq}
use Rattle.std.specs.List.{Contains, IsDistinct}
use Rattle.std.specs.FinMap.{get, insert, gets}
use Rattle.std.proofs.lemmas.List.Elements.{All-cons, All-nil}
use Rattle.dimacs.proofs.Members.{Contains-head, Contains-cons, Contains-cons_cases, Contains-nil}
use Rattle.dimacs.specs.logic.ClauseMap.{ClauseMap, map_of, live_in}
use Rattle.dimacs.specs.logic.Cnf.{Sat}
use Rattle.dimacs.specs.logic.Examples.{one_or_two, one_or_not_two, small}
use Rattle.dimacs.specs.logic.Literal.{Literal, Pos, Neg, IsTrueIn, literal_true}
use Rattle.dimacs.specs.logic.Propagation.{negations, with_literal, Rup}
use Rattle.icnf.specs.Leaves.{leaf}
use Rattle.lrat_check.specs.Soundness.{IsUnsatisfiable}
use Rattle.lrat_text.proofs.ClauseMapLemmas.{get_here}
use Rattle.shared_logs.specs.SharedLogs.{SharedStep, Lemma, Import, Deletion, Clock, SharedLog, Cell, AreImportsSupported, Follows, IsCell, IsSharedLog, IsSharedStep, IsSupported, Writes}
use Rattle.shared_logs.specs.Examples.{all_four, circle, circle_back, first, going_back, one, repeating, second, third, three, two}
use Rattle.shared_logs.proofs.LeavesLemmas.{leaves_refute}
use Rattle.shared_logs.proofs.LineLemmas.{AllLines, line_holds}

-- ---- each line is supported
-- the line is no import, or supported at this time
abbrev IsSupportedLine : Cell → SharedStep → ℕ → Type 0
IsSupportedLine cell (Lemma number C hints) time = Unit {0}
IsSupportedLine cell (Import number C name there) time = IsSupported cell time C name there
IsSupportedLine cell (Deletion numbers) time = Unit {0}
IsSupportedLine cell (Clock later) time = Unit {0}

are_supported : (cell : Cell) (steps : List SharedStep) → AllLines (IsSupportedLine cell) 0 steps → AreImportsSupported cell steps
are_supported cell steps h C name there time (number, has) = line_holds (IsSupportedLine cell) steps (Import number C name there) time h has

-- ---- the cell of three
pub in_first : Contains three first
in_first = Contains-head first (second ∷ third ∷ [])

pub in_second : Contains three second
in_second = Contains-cons first second (second ∷ third ∷ []) (Contains-head second (third ∷ []))

pub in_third : Contains three third
in_third = Contains-cons first third (second ∷ third ∷ []) (Contains-cons second third (third ∷ []) (Contains-head third []))

first_writes : Writes first.steps 5 one 0
first_writes = (1 ∷ 2 ∷ [], record { before = []; after = Clock 3 ∷ Deletion (5 ∷ []) ∷ []; splits = refl; clock = refl })

second_writes : Writes second.steps 6 two 1
second_writes = (5 ∷ 3 ∷ [], record { before = Clock 1 ∷ Import 5 one (codes "a") 5 ∷ []; after = []; splits = refl; clock = refl })

pub third_writes : Writes third.steps 6 [] 2
third_writes = (5 ∷ 2 ∷ 4 ∷ [], record { before = Clock 2 ∷ Import 5 two (codes "b") 6 ∷ []; after = []; splits = refl; clock = refl })

pub one_supported : IsSupported three 1 one (codes "a") 5
one_supported = record { log = first; within = in_first; named = refl; written = 0; writes = first_writes; earlier = omega arith }

pub two_supported : IsSupported three 2 two (codes "b") 6
two_supported = record { log = second; within = in_second; named = refl; written = 1; writes = second_writes; earlier = omega arith }

one_rup : Rup (live_in (map_of all_four)) one (1 ∷ 2 ∷ [])
one_rup = record {
  no_pair = search rules;
  refutes = record {
    front = 1 ∷ [];
    last = 2;
    reached = with_literal (negations one) (Pos 2);
    clause = one_or_not_two;
    splits = refl;
    leads = (one_or_two, Pos 2, grind (arith, gets), search rules, refl);
    lives = grind (arith, gets);
    conflict = search rules;
  };
}

two_rup : Rup (live_in (insert (map_of all_four) 5 one)) two (5 ∷ 3 ∷ [])
two_rup = record {
  no_pair = search rules;
  refutes = record {
    front = 5 ∷ [];
    last = 3;
    reached = with_literal (negations two) (Pos 1);
    clause = Neg 1 ∷ Pos 2 ∷ [];
    splits = refl;
    leads = (one, Pos 1, get_here (map_of all_four) 5 one, search rules, refl);
    lives = grind (arith, gets);
    conflict = search rules;
  };
}

empty_rup : Rup (live_in (insert (map_of all_four) 5 two)) [] (5 ∷ 2 ∷ 4 ∷ [])
empty_rup = record {
  no_pair = search rules;
  refutes = record {
    front = 5 ∷ 2 ∷ [];
    last = 4;
    reached = with_literal (with_literal (negations []) (Pos 2)) (Pos 1);
    clause = Neg 1 ∷ Neg 2 ∷ [];
    splits = refl;
    leads = (two, Pos 2, get_here (map_of all_four) 5 two, search rules, (one_or_not_two, Pos 1, grind (arith, gets), search rules, refl));
    lives = grind (arith, gets);
    conflict = search rules;
  };
}

pub one_distinct : (n : ℕ) → IsDistinct nat_eq (n ∷ [])
unfolding IsDistinct
one_distinct n = (tt, tt)

deletes : IsSharedStep 4 (record { live = insert (map_of all_four) 5 one; last = 5; clock = 3 }) (Deletion (5 ∷ []))
deletes = (
  All-cons (λ n. 4 < n) 5 [] (omega arith) (All-nil (λ n. 4 < n)),
  All-cons (λ n. IsSome (get (insert (map_of all_four) 5 one) n)) 5 [] (ap is_some (get_here (map_of all_four) 5 one)) (All-nil (λ n. IsSome (get (insert (map_of all_four) 5 one) n))),
  one_distinct 5,
)

first_is : IsSharedLog all_four first.steps
first_is = ((refl, one_rup), (omega arith, (deletes, tt)))

second_is : IsSharedLog all_four second.steps
second_is = (omega arith, (refl, ((refl, two_rup), tt)))

third_is : IsSharedLog all_four third.steps
third_is = (omega arith, (refl, ((refl, empty_rup), tt)))

-- what holds of each of the three holds of a log of the cell
pub each_of_three : (P : SharedLog → Type 0) → P first → P second → P third → (log : SharedLog) → Contains three log → P log
each_of_three P a b c log i = elim (Contains-cons_cases first log (second ∷ third ∷ []) i) [
  | inl e ↦ subst P e a
  | inr i ↦ elim (Contains-cons_cases second log (third ∷ []) i) [
    | inl e ↦ subst P e b
    | inr i ↦ elim (Contains-cons_cases third log [] i) [ inl e ↦ subst P e c | inr none ↦ absurd (Contains-nil log none) ]
  ]
]

pub three_are : IsCell all_four three
three_are = record {
  logs = each_of_three (λ log. IsSharedLog all_four log.steps) first_is second_is third_is;
  imports = each_of_three (λ log. AreImportsSupported three log.steps)
      (are_supported three first.steps (tt, (tt, (tt, tt))))
      (are_supported three second.steps (tt, (one_supported, (tt, tt))))
      (are_supported three third.steps (tt, (two_supported, (tt, tt))));
}

pub refuted : IsUnsatisfiable all_four
refuted = leaves_refute all_four three ([] ∷ []) three_are leaf
    (λ q i. record { log = third; within = in_third; number = 6; clause = []; time = 2; writes = third_writes; negates = λ l m. absurd (Contains-nil l m) })

-- ---- the circle
-- an assignment where 1 is true and 2 is not
only_one : ℕ → Bool
only_one v = v == 1

only_one_satisfies : Sat only_one small
unfolding only_one
only_one_satisfies =
    All-cons (IsTrueIn only_one) one_or_two (one_or_not_two ∷ []) (Pos 1, Contains-head (Pos 1) (Pos 2 ∷ []), refl)
    (All-cons (IsTrueIn only_one) one_or_not_two [] (Pos 1, Contains-head (Pos 1) (Neg 2 ∷ []), refl) (All-nil (IsTrueIn only_one)))

two_is_false : (l : Literal) → Contains two l → literal_true only_one l ≡ false
unfolding only_one
two_is_false l i = elim (Contains-cons_cases (Pos 2) l [] i) [
  | inl e ↦ subst (λ (k : Literal). literal_true only_one k ≡ false) e refl
  | inr none ↦ absurd (Contains-nil l none)
]

pub not_two : ¬ (Follows small two)
not_two h = let (l, i, t) = h only_one only_one_satisfies in true≢false (sym t ∙ two_is_false l i)

two_from_two : (M : ClauseMap) → Rup (live_in (insert M 3 two)) two (3 ∷ [])
two_from_two M = record {
  no_pair = search rules;
  refutes = record {
    front = [];
    last = 3;
    reached = negations two;
    clause = two;
    splits = refl;
    leads = refl;
    lives = get_here M 3 two;
    conflict = search rules;
  };
}

pub repeating_is : (name : List ℕ) → IsSharedLog small (repeating name)
repeating_is name = (omega arith, (refl, ((refl, two_from_two (map_of small)), tt)))

-- what holds of each of two logs holds of a log of their cell
each_of_two : (P : SharedLog → Type 0) (x y : SharedLog) → P x → P y → (log : SharedLog) → Contains (x ∷ y ∷ []) log → P log
each_of_two P x y a b log i = elim (Contains-cons_cases x log (y ∷ []) i) [
  | inl e ↦ subst P e a
  | inr i ↦ elim (Contains-cons_cases y log [] i) [ inl e ↦ subst P e b | inr none ↦ absurd (Contains-nil log none) ]
]

-- the line is no lemma, or the time is 1
abbrev IsLemmaAtOne : SharedStep → ℕ → Type 0
IsLemmaAtOne (Lemma number C hints) time = time ≡ 1
IsLemmaAtOne (Import number C name there) time = Unit {0}
IsLemmaAtOne (Deletion numbers) time = Unit {0}
IsLemmaAtOne (Clock later) time = Unit {0}

lemmas_at_one : (log : SharedLog) → Contains circle log → AllLines IsLemmaAtOne 0 log.steps
lemmas_at_one = each_of_two (λ log. AllLines IsLemmaAtOne 0 log.steps) (record { name = codes "a"; steps = repeating (codes "b") })
    (record { name = codes "b"; steps = repeating (codes "a") }) (tt, (tt, (refl, tt))) (tt, (tt, (refl, tt)))

pub unsupported : ¬ (IsSupported circle 1 two (codes "b") 4)
unsupported s =
    let at = line_holds IsLemmaAtOne s.log.steps (Lemma 4 two s.writes.0) s.written (lemmas_at_one s.log s.within) s.writes.1 in
    let early = s.earlier in
    omega arith

pub no_cell : ¬ (IsCell small circle)
no_cell is =
    let log : SharedLog = record { name = codes "a"; steps = repeating (codes "b") } in
    let within = Contains-head log (record { name = codes "b"; steps = repeating (codes "a") } ∷ []) in
    unsupported (is.imports log within two (codes "b") 4 1 (3, record { before = Clock 1 ∷ []; after = Lemma 4 two (3 ∷ []) ∷ []; splits = refl; clock = refl }))

-- ---- a clock that goes back
pub back_supported : (log : SharedLog) → Contains circle_back log → AreImportsSupported circle_back log.steps
back_supported =
    let x : SharedLog = record { name = codes "a"; steps = going_back } in
    let y : SharedLog = record { name = codes "b"; steps = repeating (codes "a") } in
    let x_writes : Writes x.steps 4 two 0 = (3 ∷ [], record { before = Clock 2 ∷ Import 3 two (codes "b") 4 ∷ Clock 0 ∷ []; after = []; splits = refl; clock = refl }) in
    let y_writes : Writes y.steps 4 two 1 = (3 ∷ [], record { before = Clock 1 ∷ Import 3 two (codes "a") 4 ∷ []; after = []; splits = refl; clock = refl }) in
    let by_x : IsSupported circle_back 1 two (codes "a") 4 = record { log = x; within = Contains-head x (y ∷ []); named = refl; written = 0; writes = x_writes; earlier = omega arith } in
    let by_y : IsSupported circle_back 2 two (codes "b") 4 = record { log = y; within = Contains-cons x y (y ∷ []) (Contains-head y []); named = refl; written = 1; writes = y_writes; earlier = omega arith } in
    each_of_two (λ log. AreImportsSupported circle_back log.steps) x y
    (are_supported circle_back going_back (tt, (by_y, (tt, (tt, tt)))))
    (are_supported circle_back (repeating (codes "a")) (tt, (by_x, (tt, tt))))

pub goes_back : ¬ (IsSharedLog small going_back)
goes_back h = omega (arith, h.1.1.0)
