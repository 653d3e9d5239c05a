-- An answer over the variables of the events alone is right, as the one over all variables of the session is.
use Rattle.std.proofs.Common.{◌≡◌, ℕ, ◌-◌, ◌<◌, ◌≤◌, Bool, false, not, List, [], ◌∷◌, take, ◌∙◌, ap, arith}
use Rattle.std.specs.List.{All}
use Rattle.std.proofs.lemmas.List.{get_or-take, length-take-le}
use Rattle.std.proofs.lemmas.List.Elements.{All-cons, All-contains, All-head, All-nil, All-tail}
use Rattle.std.proofs.Math.Nat.{le-max_left, le-max_right}
use Rattle.dimacs.specs.logic.Cnf.{AreWithin, assignment_of, greatest_of}
use Rattle.dimacs.specs.logic.Literal.{Literal, Pos, Neg, Clause, IsTrueIn, IsWithin, literal_true, var_of}
use Rattle.cube_solve.specs.Session.{IsRightAnswer}
use Rattle.cube_solve.specs.declared.answer.Answer.{Answer}
use Rattle.cube_solve.specs.declared.answer.Answer.TheVariants as answer
use Rattle.sessions.specs.Answers.{Event, Given, Asked}
use Rattle.sessions.specs.Events.{clauses_of, literals_of}
use Rattle.sessions.specs.Heard.{greatest}
use Rattle.commands.specs.SessionLines.{cut}

same_value : (values : List Bool) (vars v : ℕ) → 0 < v → v ≤ vars → assignment_of (take vars values) v ≡ assignment_of values v
same_value values vars v some within = get_or-take vars values (v - 1) false (omega (arith, some, within))

same_literal : (values : List Bool) (vars : ℕ) (l : Literal) → IsWithin vars l → literal_true (assignment_of (take vars values)) l ≡ literal_true (assignment_of values) l
same_literal values vars (Pos v) within = same_value values vars v within.0 within.1
same_literal values vars (Neg v) within = ap not (same_value values vars v within.0 within.1)

still_true : (values : List Bool) (vars : ℕ) (C : Clause) → All (IsWithin vars) C → IsTrueIn (assignment_of values) C → IsTrueIn (assignment_of (take vars values)) C
still_true values vars C within h = (h.0, h.1, same_literal values vars h.0 (All-contains (IsWithin vars) C h.0 within h.1) ∙ h.2)

all_still_true : (values : List Bool) (vars : ℕ) (F : List Clause) → AreWithin vars F → All (IsTrueIn (assignment_of values)) F → All (IsTrueIn (assignment_of (take vars values))) F
all_still_true values vars [] within h = All-nil (IsTrueIn (assignment_of (take vars values)))
all_still_true values vars (C ∷ F) within h =
    All-cons (IsTrueIn (assignment_of (take vars values))) C F
    (still_true values vars C (All-head (All (IsWithin vars)) C F within) (All-head (IsTrueIn (assignment_of values)) C F h))
    (all_still_true values vars F (All-tail (All (IsWithin vars)) C F within) (All-tail (IsTrueIn (assignment_of values)) C F h))

pub right_cut : (all vars : ℕ) (F : List Clause) (A : List Literal) (a : Answer) → vars ≤ all → AreWithin vars F → All (IsWithin vars) A → IsRightAnswer all F A a → IsRightAnswer vars F A (cut vars a)
right_cut all vars F A (answer.Satisfied values) less clauses query h = record {
  whole = length-take-le vars values (omega (arith, less, h.whole));
  clauses = all_still_true values vars F clauses h.clauses;
  query = λ l i. same_literal values vars l (All-contains (IsWithin vars) A l query i) ∙ h.query l i;
}
right_cut all vars F A (answer.Failed failure) less clauses query h = h
right_cut all vars F A answer.Unknown less clauses query h = h

-- ---- variables up to the greatest one
pub up_to : (most n : ℕ) (ls : List Literal) → greatest_of ls ≤ n → All (IsWithin most) ls → All (IsWithin n) ls
up_to most n [] less h = All-nil (IsWithin n)
up_to most n (l ∷ ls) less h =
    let one = All-head (IsWithin most) l ls h in
    All-cons (IsWithin n) l ls (one.0, omega (arith, less, le-max_left (var_of l) (greatest_of ls)))
    (up_to most n ls (omega (arith, less, le-max_right (var_of l) (greatest_of ls))) (All-tail (IsWithin most) l ls h))

abbrev pub AreSmall : ℕ → List Event → Type 0
AreSmall most E = All (λ e. All (IsWithin most) (literals_of e)) E

pub clauses_up_to : (most n : ℕ) (E : List Event) → greatest E ≤ n → AreSmall most E → AreWithin n (clauses_of E)
clauses_up_to most n [] less h = All-nil (All (IsWithin n))
clauses_up_to most n (Given C ∷ E) less h =
    let P : Event → Type 0 = λ e. All (IsWithin most) (literals_of e) in
    All-cons (All (IsWithin n)) C (clauses_of E) (up_to most n C (omega (arith, less, le-max_left (greatest_of C) (greatest E))) (All-head P (Given C) E h))
    (clauses_up_to most n E (omega (arith, less, le-max_right (greatest_of C) (greatest E))) (All-tail P (Given C) E h))
clauses_up_to most n (Asked A ∷ E) less h =
    let P : Event → Type 0 = λ e. All (IsWithin most) (literals_of e) in
    clauses_up_to most n E (omega (arith, less, le-max_right (greatest_of A) (greatest E))) (All-tail P (Asked A) E h)
