-- The three logs of the worked example, woven.
use Rattle.std.proofs.Common.{◌≡◌, ℕ, ◌+◌, ◌<◌, ◌≤◌, inl, inr, List, [], ◌∷◌, ◌++◌, take, is_some, Some, refl, sym, ◌∙◌, ap, subst, append_assoc, append-nil, arith, codes}
use Rattle.std.specs.Prelude.{IsSome}
use Rattle.std.specs.List.{Contains}
use Rattle.std.specs.FinMap.{get, insert}
use Rattle.std.proofs.lemmas.List.Elements.{All-cons, All-nil, All-contains, All-from_recursion}
use Rattle.dimacs.specs.logic.ClauseMap.{ClauseMap, Live, map_of, live_in}
use Rattle.dimacs.specs.logic.Literal.{Clause}
use Rattle.dimacs.specs.logic.Propagation.{Leads, Rup, negations}
use Rattle.dimacs.proofs.Members.{Contains-cons_cases, Contains-nil}
use Rattle.lrat_text.specs.Log.{EndsAt, IsLog, IsLogStep}
use Rattle.lrat_text.specs.Proof.{without}
use Rattle.lrat_text.specs.declared.step.Step.TheVariants.{Add, Delete}
use Rattle.lrat_text.proofs.ClauseMapLemmas.{get_here, get_other, none_some}
use Rattle.shared_logs.specs.Examples.{all_four, deleted_early, first, imported_early, one, one_log, second, third, three, three_lines, two}
use Rattle.shared_logs.specs.SharedLogs.{SharedStep, Lemma, Import, Deletion, Clock, SharedLog, clock_of}
use Rattle.shared_logs.specs.WovenLogs.{AreAllLines, AreByClock, AreUsing, AreWoven, HasMore, NamedLine, Numbering, ends, takes, deletes, lines_of, own_numbers, with_number}
use Rattle.shared_logs.proofs.ExampleLemmas.{each_of_three, in_first, in_second, in_third, one_distinct, three_are}
use Rattle.shared_logs.proofs.GivenLemmas.{get_without}
use Rattle.shared_logs.proofs.OrderLemmas.{no_more}
use Rattle.shared_logs.proofs.WovenLemmas.{woven_logs_are_logs}

-- ---- the order
-- what P says of each line and those before it, if these are done
abbrev AtEach : (List NamedLine → NamedLine → Type 0) → List NamedLine → List NamedLine → Type 0
AtEach P done [] = Unit {0}
AtEach P done (x ∷ lines) = P done x × AtEach P (done ++ x ∷ []) lines

at_each : (P : List NamedLine → NamedLine → Type 0) (done lines before after : List NamedLine) (x : NamedLine) → AtEach P done lines → lines ≡ before ++ x ∷ after → P (done ++ before) x
at_each P done [] [] after x h e = absurd cc
at_each P done [] (y ∷ before) after x h e = absurd cc
at_each P done (z ∷ lines) [] after x h e =
    let is : z ≡ x = cc in
    subst (λ (ls : List NamedLine). P ls x) (sym (append-nil done)) (subst (P done) is h.0)
at_each P done (z ∷ lines) (y ∷ before) after x h e =
    let is : z ≡ y = cc in
    let rest : lines ≡ before ++ x ∷ after = cc in
    subst (λ (ls : List NamedLine). P ls x) (append_assoc done (z ∷ []) before ∙ ap (λ (w : NamedLine). done ++ w ∷ before) is)
    (at_each P (done ++ z ∷ []) lines before after x h.1 rest)

-- no log of the three that has a line left has a lower clock
abbrev IsLowest : List NamedLine → NamedLine → Type 0
IsLowest before x = (log : SharedLog) → Contains three log → HasMore log before → clock_of (lines_of x.0 before) ≤ clock_of (lines_of log.name before)

-- at each of the lines: a log that has no line left has no next one, and else the clocks are compared
lowest : AtEach IsLowest [] three_lines
lowest = (
  at (codes "a") (take 0 three_lines) (λ h. up 0 0) (λ h. up 0 0) (λ h. up 0 0),
  (
    at (codes "a") (take 1 three_lines) (λ h. up 0 0) (λ h. up 0 0) (λ h. up 0 0),
    (
      at (codes "b") (take 2 three_lines) (λ h. up 0 3) (λ h. up 0 0) (λ h. up 0 0),
      (
        at (codes "c") (take 3 three_lines) (λ h. up 0 3) (λ h. up 0 1) (λ h. up 0 0),
        (
          at (codes "b") (take 4 three_lines) (λ h. up 1 2) (λ h. up 1 0) (λ h. up 1 1),
          (
            at (codes "b") (take 5 three_lines) (λ h. up 1 2) (λ h. up 1 0) (λ h. up 1 1),
            (
              at (codes "c") (take 6 three_lines) (λ h. up 2 1) (λ h. absurd (no_more second.steps h.0 h.1 h.2)) (λ h. up 2 0),
              (
                at (codes "c") (take 7 three_lines) (λ h. up 2 1) (λ h. absurd (no_more second.steps h.0 h.1 h.2)) (λ h. up 2 0),
                (
                  at (codes "a") (take 8 three_lines) (λ h. up 3 0) (λ h. absurd (no_more second.steps h.0 h.1 h.2)) (λ h. absurd (no_more third.steps h.0 h.1 h.2)),
                  tt,
                ),
              ),
            ),
          ),
        ),
      ),
    ),
  ),
)
  where
    up : (a b : ℕ) → a ≤ a + b
    up a b = omega arith

    at : (name : List ℕ) (before : List NamedLine)
        → (HasMore first before → clock_of (lines_of name before) ≤ clock_of (lines_of first.name before))
        → (HasMore second before → clock_of (lines_of name before) ≤ clock_of (lines_of second.name before))
        → (HasMore third before → clock_of (lines_of name before) ≤ clock_of (lines_of third.name before))
        → (log : SharedLog) → Contains three log → HasMore log before → clock_of (lines_of name before) ≤ clock_of (lines_of log.name before)
    at name before a b c = each_of_three (λ log. HasMore log before → clock_of (lines_of name before) ≤ clock_of (lines_of log.name before)) a b c

abbrev IsNamed : NamedLine → Type 0
IsNamed x = (log : SharedLog) × Contains three log × (log.name ≡ x.0)

pub in_order : AreByClock three three_lines
in_order = record {
  named = λ x i. All-contains IsNamed three_lines x (All-from_recursion IsNamed three_lines (a, (a, (b, (c, (b, (b, (c, (c, (a, tt)))))))))) i;
  firsts = each_of_three (λ log. (rest : List SharedStep) × (log.steps ≡ lines_of log.name three_lines ++ rest)) ([], refl) ([], refl) ([], refl);
  lowest = λ before after x e. at_each IsLowest [] three_lines before after x lowest e;
}
  where
    a : (log : SharedLog) × Contains three log × (log.name ≡ codes "a")
    a = (first, in_first, refl)

    b : (log : SharedLog) × Contains three log × (log.name ≡ codes "b")
    b = (second, in_second, refl)

    c : (log : SharedLog) × Contains three log × (log.name ≡ codes "c")
    c = (third, in_third, refl)

pub all_lines : AreAllLines three three_lines
all_lines = each_of_three (λ log. log.steps ≡ lines_of log.name three_lines) refl refl refl

-- ---- the steps
pub ends_at : EndsAt [] one_log
ends_at = (Add 5 one (1 ∷ 2 ∷ []) [] ∷ Add 6 two (5 ∷ 3 ∷ []) [] ∷ Delete (5 ∷ []) ∷ [], Add 7 [] (6 ∷ 2 ∷ 4 ∷ []) [], refl, λ l i. absurd (Contains-nil l i))

-- the live clauses of the one log after two lemmas
abbrev both : ClauseMap
both = insert (insert (map_of all_four) 5 one) 6 two

five_lives : get both 5 ≡ Some one
five_lives = get_other (insert (map_of all_four) 5 one) 6 5 two (λ e. omega arith) ∙ get_here (map_of all_four) 5 one

deletes_five : IsLogStep 4 both 6 (Delete (5 ∷ []))
deletes_five = (
  All-cons (λ n. 4 < n) 5 [] (omega arith) (All-nil (λ n. 4 < n)),
  All-cons (λ n. IsSome (get both n)) 5 [] (ap is_some five_lives) (All-nil (λ n. IsSome (get both n))),
  one_distinct 5,
)

abbrev after_two : Numbering
after_two = with_number (with_number (with_number (own_numbers 4) (codes "a") 5 5) (codes "b") 5 5) (codes "b") 6 6

abbrev last_lines : List NamedLine
last_lines = (codes "c", Import 5 two (codes "b") 6) ∷ (codes "c", Lemma 6 [] (5 ∷ 2 ∷ 4 ∷ [])) ∷ (codes "a", Deletion (5 ∷ [])) ∷ []

not_five : (k : ℕ) → k ≡ 5 → 6 ≤ k → ⊥
not_five k e l = omega arith

no_hint : Contains {X = ℕ} (6 ∷ 2 ∷ 4 ∷ []) 5 → ⊥
no_hint i = elim (Contains-cons_cases 6 5 (2 ∷ 4 ∷ []) i) [
  | inl e ↦ omega arith
  | inr i ↦ elim (Contains-cons_cases 2 5 (4 ∷ []) i) [
    | inl e ↦ omega arith
    | inr i ↦ elim (Contains-cons_cases 4 5 [] i) [ inl e ↦ omega arith | inr none ↦ Contains-nil 5 none ]
  ]
]

unused : (g : ℕ) → Contains (5 ∷ []) g → ¬ (AreUsing after_two 6 last_lines g)
unused g i using = elim (Contains-cons_cases 5 g [] i) [
  | inl e ↦ five (subst (AreUsing after_two 6 last_lines) (sym e) using)
  | inr none ↦ Contains-nil g none
]
  where
    five : AreUsing after_two 6 last_lines 5 → ⊥
    five (inl e) = not_five 6 e (omega arith)
    five (inr (inl i)) = no_hint i
    five (inr (inr (inl none))) = none
    five (inr (inr (inr none))) = none

pub is_woven : AreWoven all_four three_lines one_log
is_woven = takes (takes (takes (takes (takes (takes (deletes deletes_five unused (takes (takes (takes ends)))))))))

pub is_log : IsLog all_four one_log
is_log = woven_logs_are_logs all_four three three_lines one_log three_are in_order is_woven

-- ---- what is no weaving
five_gone : (M : ClauseMap) (C : Clause) → get (without M (5 ∷ [])) 5 ≡ Some C → ⊥
five_gone M C e = none_some C (sym (get_without M (5 ∷ []) 5) ∙ e)

first_hint : (live : Live) (C : Clause) (x y : ℕ) → Rup live C (x ∷ y ∷ []) → (D : Clause) × live x D
first_hint live C x y r = at r.refutes.front r.refutes.last r.refutes.splits r.refutes.leads
  where
    at : (front : List ℕ) (last : ℕ) → x ∷ y ∷ [] ≡ front ++ last ∷ [] → Leads live (negations C) front r.refutes.reached → (D : Clause) × live x D
    at [] last e leads = absurd cc
    at (h ∷ front) last e (D, l, lives, unit, more) = let is : h ≡ x = cc in (D, subst (λ k. live k D) is lives)

pub not_deleted_early : ¬ (AreWoven all_four three_lines deleted_early)
not_deleted_early woven =
    let log = woven_logs_are_logs all_four three three_lines deleted_early three_are in_order woven in
    let M = insert (map_of all_four) 5 one in
    let h = first_hint (live_in (without M (5 ∷ []))) two 5 3 log.1.1.0.2 in
    five_gone M h.0 h.1

pub not_imported_early : ¬ (AreByClock three imported_early)
not_imported_early order =
    let l = order.lowest ((codes "c", Clock 2) ∷ []) [] (codes "c", Import 5 two (codes "b") 6) refl first in_first (Lemma 5 one (1 ∷ 2 ∷ []), Clock 3 ∷ Deletion (5 ∷ []) ∷ [], refl) in
    high l
  where
    high : 2 ≤ 0 → ⊥
    high l = omega arith
