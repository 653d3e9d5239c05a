-- What it means that each clause has a literal that is named.
use Rattle.std.proofs.Common.{◌≡◌, ℕ, ◌+◌, ◌≤◌, Bool, true, false, not, cond, List, [], ◌∷◌, Option, Some, None, Result, Ok, Err, refl, sym, subst, ap, ◌∙◌, arith, inl, inr, IfOk}
use Rattle.std.specs.List.{position_from, list_any, All, AllByRecursion, Contains}
use Rattle.std.specs.Prelude.{is_none}
use Rattle.std.proofs.lemmas.Bool.{true≢false, cases_Bool, or_cases, or_left, or_right}
use Rattle.std.proofs.lemmas.List.Elements.{All-from_recursion, recursion_from_All, All-contains}
use Rattle.dimacs.specs.logic.Cnf.{Cnf, Sat, IsFormula}
use Rattle.dimacs.specs.logic.Literal.{Literal, Pos, Neg, Clause, IsTautology, IsTrueIn, IsWithin, has, literal_true, negation, var_of}
use Rattle.dimacs.specs.logic.Propagation.{Assumed}
use Rattle.dimacs.proofs.Members.{Contains-cons, Contains-cons_cases, Contains-has, Contains-head, Contains-nil, has-Contains}
use Rattle.answers.specs.declared.fault.AnswerFault.{AnswerFault}
use Rattle.answers.specs.declared.report.ModelReport.{ModelReport}
use Rattle.answers.specs.Grammar.{IsMet, Verifies}
use Rattle.answers.specs.Parse.{answer_of}
use Rattle.answers.specs.Reports.{IsModelReport, IsReport, first_missed, is_missed, report_status}
use Rattle.answers.specs.inner.Lines.{HasNoPair}
use Rattle.answers.proofs.LawLemmas.{found_names, names_found}

-- some literal of a clause passes
any_of : (α : Assumed) (C : Clause) → list_any α C ≡ true → (l : Literal) × Contains C l × (α l ≡ true)
any_of α [] h = absurd (true≢false (sym h))
any_of α (k ∷ C) h = elim (or_cases (α k) (list_any α C) h) [
  | inl here ↦ (k, Contains-head k C, here)
  | inr later ↦ let l = any_of α C later in (l.0, Contains-cons k l.0 C l.1, l.2)
]

of_any : (α : Assumed) (C : Clause) (l : Literal) → Contains C l → α l ≡ true → list_any α C ≡ true
of_any α [] l h t = absurd (Contains-nil l h)
of_any α (k ∷ C) l h t = elim (Contains-cons_cases k l C h) [
  | inl e ↦ or_left (α k) (list_any α C) (ap α e ∙ t)
  | inr r ↦ or_right (α k) (list_any α C) (of_any α C l r t)
]

not_false : (b : Bool) → not b ≡ false → b ≡ true
not_false true h = refl
not_false false h = absurd (true≢false h)

-- ---- no clause is missed

none_from : (p : Clause → Bool) (n : ℕ) (cs : List Clause) → position_from p n cs ≡ None → AllByRecursion (λ C. p C ≡ false) cs
none_from p n [] h = tt
none_from p n (C ∷ cs) h = by_test (p C) refl h (λ rest. none_from p (n + 1) cs rest) where
  by_test : (t : Bool) → p C ≡ t → cond t (Some n) (position_from p (n + 1) cs) ≡ None → (position_from p (n + 1) cs ≡ None → AllByRecursion (λ C. p C ≡ false) cs) → AllByRecursion (λ C. p C ≡ false) (C ∷ cs)
  by_test true e h later = absurd (cc)
  by_test false e h later = (e, later h)

from_none : (p : Clause → Bool) (n : ℕ) (cs : List Clause) → AllByRecursion (λ C. p C ≡ false) cs → position_from p n cs ≡ None
from_none p n [] h = refl
from_none p n (C ∷ cs) h = rw h.0 (from_none p (n + 1) cs h.1)

each : {X : Type 0} (P Q : X → Type 0) (xs : List X) → ((x : X) → P x → Q x) → AllByRecursion P xs → AllByRecursion Q xs
each P Q [] f h = tt
each P Q (x ∷ xs) f h = (f x h.0, each P Q xs f h.1)

met : (named : List Literal) (C : Clause) → is_missed (has named) C ≡ false → IsMet named C
met named C h = let l = any_of (has named) C (not_false (list_any (has named) C) h) in (l.0, l.1, has-Contains named l.0 l.2)

not_missed : (named : List Literal) (C : Clause) → IsMet named C → is_missed (has named) C ≡ false
not_missed named C m = ap not (of_any (has named) C m.0 m.1 (Contains-has named m.0 m.2))

all_met : (named : List Literal) (F : Cnf) → first_missed (has named) F ≡ None → All (IsMet named) F.clauses
all_met named F h = All-from_recursion (IsMet named) F.clauses (each _ (IsMet named) F.clauses (met named) (none_from (is_missed (has named)) 1 F.clauses h))

none_missed : (named : List Literal) (F : Cnf) → All (IsMet named) F.clauses → first_missed (has named) F ≡ None
none_missed named F h = from_none (is_missed (has named)) 1 F.clauses (each (IsMet named) _ F.clauses (not_missed named) (recursion_from_All (IsMet named) F.clauses h))

-- ---- an assignment

-- an assignment in which the named variables are true, and those whose negation is named are false
true_in : (a : ℕ → Bool) (α : Assumed) (l : Literal) → HasNoPair α → (a (var_of l) ≡ α (Pos (var_of l))) → α l ≡ true → literal_true a l ≡ true
true_in a α (Pos v) none e h = e ∙ h
true_in a α (Neg v) none e h = ap not (e ∙ none (Neg v) h)

has_no_pair : (named : List Literal) → ¬ (IsTautology named) → HasNoPair (has named)
has_no_pair named none l h = elim (cases_Bool (has named (negation l))) [
  | inl t ↦ absurd (none (l, has-Contains named l h, has-Contains named (negation l) t))
  | inr f ↦ f
]

pub verified_is_satisfied : (text : List ℕ) (F : Cnf) → Verifies text F → (a : ℕ → Bool) × Sat a F
verified_is_satisfied text F v =
    let named = v.0 in
    let a : ℕ → Bool = λ n. has v.0 (Pos n) in (
      a,
      All-from_recursion (IsTrueIn a) F.clauses (each (IsMet v.0) (IsTrueIn a) F.clauses
          (λ C m. (m.0, m.1, true_in a (has v.0) m.0 (has_no_pair v.0 v.1.no_pair) refl (Contains-has v.0 m.0 m.2)))
          (recursion_from_All (IsMet v.0) F.clauses v.2)),
    )

-- the values of a formula's variables
module _ (a : ℕ → Bool) (α : Assumed) (vars : ℕ) (none : HasNoPair α) (values : (v : ℕ) → 1 ≤ v → v ≤ vars → a v ≡ α (Pos v)) where
  clause_true : (C : Clause) → All (IsWithin vars) C → is_missed α C ≡ false → IsTrueIn a C
  clause_true C within h =
      let l = any_of α C (not_false (list_any α C) h) in
      let inside : IsWithin vars l.0 = All-contains (IsWithin vars) C l.0 within l.1 in
      (l.0, l.1, true_in a α l.0 none (values (var_of l.0) inside.0 inside.1) l.2)

  both : (cs : List Clause) → AllByRecursion (All (IsWithin vars)) cs → AllByRecursion (λ C. is_missed α C ≡ false) cs → AllByRecursion (IsTrueIn a) cs
  both [] h k = tt
  both (C ∷ cs) h k = (clause_true C h.0 k.0, both cs h.1 k.1)

  pub satisfied_by : (F : Cnf) → IsFormula F → F.vars ≡ vars → first_missed α F ≡ None → Sat a F
  satisfied_by F f e h =
      let within : All (All (IsWithin vars)) F.clauses = subst (λ n. All (All (IsWithin n)) F.clauses) e f.within in
      All-from_recursion (IsTrueIn a) F.clauses (both F.clauses (recursion_from_All (All (IsWithin vars)) F.clauses within) (none_from (is_missed α) 1 F.clauses h))

-- ---- a report

none_status : (o : Option ℕ) → ◌≡◌ {A = ℕ} (cond (is_none o) 0 1) 0 → o ≡ None
none_status None h = refl
none_status (Some k) h = absurd (omega (arith, h))

status_forth : (F : Cnf) (text : List ℕ) (answer : Result Assumed AnswerFault) → answer_of text ≡ answer → report_status F answer ≡ 0 → Verifies text F
status_forth F text (Ok α) e h =
    let n = found_names text α e in
    (n.0, n.1, all_met n.0 F (ap (λ (x : Assumed). first_missed x F) (sym n.2) ∙ none_status (first_missed α F) h))
status_forth F text (Err f) e h = absurd (omega (arith, h))

status_back : (F : Cnf) (text : List ℕ) → Verifies text F → report_status F (answer_of text) ≡ 0
status_back F text v =
    ap (report_status F) (names_found text v.0 v.1) ∙ ap (λ (o : Option ℕ). cond (is_none o) 0 1) (none_missed v.0 F v.2)

pub model_report : (F : Cnf) (text : List ℕ) (r : ModelReport) → IsReport F (answer_of text) r → IsModelReport F text r
model_report F text r is = record {
  is_report = is;
  verified = (λ z. status_forth F text (answer_of text) refl (sym is.status ∙ z), λ v. is.status ∙ status_back F text v);
  satisfied = λ z. verified_is_satisfied text F (status_forth F text (answer_of text) refl (sym is.status ∙ z));
}

pub if_report : {E : Type 0} (F : Cnf) (text : List ℕ) (r : Result ModelReport E) → IfOk r (IsReport F (answer_of text)) → IfOk r (IsModelReport F text)
if_report F text (Ok x) h = model_report F text x h
if_report F text (Err e) h = tt
