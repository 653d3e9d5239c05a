-- A text has no fault as a fragment exactly if it closes the cube.
use Rattle.std.proofs.Common.{◌≡◌, ◌⊎◌, ℕ, ◌^◌, ◌<◌, ◌≤◌, max, arith, Bool, true, false, List, [], ◌∷◌, ◌++◌, Result, Ok, Err, cond, refl, sym, ◌∙◌, ap, subst, OnOk}
use Rattle.std.specs.List.{list_all, Contains}
use Rattle.std.proofs.lemmas.Bool.{true≢false}
use Rattle.dimacs.specs.logic.Cnf.{Cnf}
use Rattle.dimacs.specs.logic.Literal.{Literal, Clause, negation, has}
use Rattle.dimacs.proofs.Members.{has-Contains, Contains-has}
use Rattle.lrat_text.specs.Log.{Cube, Negates, EndsAt, Closes}
use Rattle.lrat_text.specs.declared.step.Step.{Step}
use Rattle.lrat_text.specs.declared.step.Step.TheVariants.{Add, Delete}
use Rattle.lrat_check.specs.ProofFaults.{GivesCheck, no_memory, refused}
use Rattle.lrat_check.specs.Fragments.{closes, fragment_end, fragment_of}
use Rattle.lrat_check.specs.Logs.{LogState, begun, after_line, text_from}
use Rattle.lrat_check.specs.declared.line_checker.CheckFault.{CheckFault}
use Rattle.lrat_check.proofs.Exact.{list_all_member, list_all_from}
use Rattle.lrat_check.proofs.LogTexts.{after_lines, checked_text, text_checked}
use Rattle.lrat_check.proofs.Passing.{given_ok, given_complete}

-- ---- the cube
negates_all : (q : Cube) (C : Clause) → list_all (λ l. has q (negation l)) C ≡ true → (l : Literal) → Contains C l → Contains q (negation l)
negates_all q C e l h = has-Contains q (negation l) (list_all_member (λ k. has q (negation k)) C l e h)

all_negate : (q : Cube) (C : Clause) → ((l : Literal) → Contains C l → Contains q (negation l)) → list_all (λ l. has q (negation l)) C ≡ true
all_negate q C f = list_all_from (λ k. has q (negation k)) C (λ l h. Contains-has q (negation l) (f l h))

closes_negates : (q : Cube) (step : Step) → closes q step ≡ true → Negates q step
closes_negates q (Add id lits hints groups) e = negates_all q lits e
closes_negates q (Delete ids) e = absurd (true≢false (sym e))

negates_closes : (q : Cube) (step : Step) → Negates q step → closes q step ≡ true
negates_closes q (Add id lits hints groups) h = all_negate q lits h
negates_closes q (Delete ids) h = absurd h

-- the last step is the one that was read last
ends_at : (q : Cube) (s : LogState) (step : Step) (steps : List Step) → closes q (after_lines (after_line s step) steps).step ≡ true → EndsAt q (step ∷ steps)
ends_at q s step [] e = ([], step, refl, closes_negates q step e)
ends_at q s step (next ∷ steps) e =
    let r = ends_at q (after_line s step) next steps e in
    (step ∷ r.0, r.1, ap (λ (ss : List Step). step ∷ ss) r.2, r.3)

ends_from : (q : Cube) (B : Cnf) (steps : List Step) → closes q (after_lines (begun B) steps).step ≡ true → EndsAt q steps
ends_from q B [] e = absurd (true≢false (sym e))
ends_from q B (step ∷ steps) e = ends_at q (begun B) step steps e

last_closes : (q : Cube) (s : LogState) (front : List Step) (last : Step) → Negates q last → closes q (after_lines s (front ++ last ∷ [])).step ≡ true
last_closes q s [] last h = negates_closes q last h
last_closes q s (step ∷ front) last h = last_closes q (after_line s step) front last h

ends_to : (q : Cube) (s : LogState) (steps : List Step) → EndsAt q steps → closes q (after_lines s steps).step ≡ true
ends_to q s steps (front, last, e, n) = ap (λ (ss : List Step). closes q (after_lines s ss).step) e ∙ last_closes q s front last n

-- ---- the end
nothing_left : (q : Cube) (s : LogState) (rest : List ℕ) → fragment_end q s rest ≡ Ok tt → rest ≡ []
nothing_left q s [] e = refl
nothing_left q s (b ∷ bs) e = absurd cc

shown : (closed : Bool) (line : ℕ) → cond closed (Ok tt) (refused 17 line 0) ≡ Ok tt → closed ≡ true
shown true line e = refl
shown false line e = absurd cc

-- there is no fault exactly where the text closes the cube
pub checked_fragment : (B : Cnf) (q : Cube) (text : List ℕ) → fragment_of B q text ≡ Ok tt → Closes B q text
checked_fragment B q text e =
    let r = checked_text (fragment_end q) (nothing_left q) (begun B) text e in
    (r.0, r.1, r.2, ends_from q B r.0 (shown (closes q (after_lines (begun B) r.0).step) (after_lines (begun B) r.0).line r.3))

pub fragment_checked : (B : Cnf) (q : Cube) (text : List ℕ) → B.vars ≤ 199999999 → Closes B q text → fragment_of B q text ≡ Ok tt
fragment_checked B q text small (steps, spelled, log, ends) =
    let few : max 2000000 B.vars < 2 ^ 48 = omega arith in
    text_checked (fragment_end q) (begun B) text steps few spelled log
    (ap (λ c. cond c (Ok tt) (refused 17 (after_lines (begun B) steps).line 0)) (ends_to q (begun B) steps ends))

-- what is found from the first line on is found of the fragment
pub begun_gives : (B : Cnf) (q : Cube) (s : LogState) (text : List ℕ) (r : Result (Unit {0}) CheckFault) → s ≡ begun B → GivesCheck r (text_from (fragment_end q) s text) → GivesCheck r (fragment_of B q text)
begun_gives B q s text r is found = subst (λ (t : LogState). GivesCheck r (text_from (fragment_end q) t text)) is found

pub begun_closes : (B : Cnf) (q : Cube) (s : LogState) (text : List ℕ) (r : Result (Unit {0}) CheckFault) → s ≡ begun B → GivesCheck r (text_from (fragment_end q) s text) → OnOk r (Closes B q text)
begun_closes B q s text r is found = given_ok r (fragment_of B q text) (Closes B q text) (begun_gives B q s text r is found) (checked_fragment B q text)

pub begun_complete : (B : Cnf) (q : Cube) (s : LogState) (text : List ℕ) (r : Result (Unit {0}) CheckFault) → B.vars ≤ 199999999 → s ≡ begun B → GivesCheck r (text_from (fragment_end q) s text) → Closes B q text
    → (r ≡ Ok tt) ⊎ (r ≡ Err no_memory)
begun_complete B q s text r small is found closes = given_complete r (fragment_of B q text) (begun_gives B q s text r is found) (fragment_checked B q text small closes)
