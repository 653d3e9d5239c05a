-- The text of steps spells them.
use Rattle.std.proofs.Common.{◌≡◌, ℕ, ◌^◌, ◌<◌, ◌≤◌, List, [], ◌∷◌, ◌++◌, length, Some, refl, sym, ◌∙◌, ap, subst, arith, append_assoc, length-append}
use Rattle.std.specs.Prelude.{IsSome}
use Rattle.std.specs.List.{All, Contains}
use Rattle.std.specs.FinMap.{get}
use Rattle.std.proofs.lemmas.List.Elements.{All-nil, All-weaker, All-contains_itself, Contains-append_left}
use Rattle.dimacs.specs.logic.ClauseMap.{ClauseMap, live_in}
use Rattle.dimacs.specs.logic.Literal.{Clause}
use Rattle.dimacs.proofs.Members.{Contains-head, Contains-cons}
use Rattle.lrat_text.specs.Grammar.{LineSpellsWithin, IsStepWithin, IsClauseNumber, IsGroup}
use Rattle.lrat_text.specs.Log.{after_step, top_after, IsLogStep, AreLogSteps}
use Rattle.lrat_text.specs.WrittenLine.{line_text, line_of}
use Rattle.lrat_text.specs.declared.step.Step.{Step}
use Rattle.lrat_text.specs.declared.step.Step.TheVariants.{Add, Delete}
use Rattle.lrat_text.proofs.LineLemmas.{written_spells_within, written_one_line_within}
use Rattle.lrat_text.specs.Runs.{top_of, text_of}
use Rattle.proof_join.proofs.LogLemmas.{log_up}
use Rattle.proof_join.proofs.MapLemmas.{AreBetween, between_insert, between_without, some_live}
use Rattle.proof_join.proofs.RupLemmas.{hint_live}
use Rattle.proof_join.proofs.TreeLemmas.{AreSmall}

-- a line has a byte at least
pub text_long : (top : ℕ) (steps : List Step) → length steps ≤ length (text_of top steps)
text_long top [] = omega arith
text_long top (step ∷ steps) =
    let a = length-append (line_of top step) (text_of (top_after top step) steps) in
    let b = length-append (line_text top step) (10 ∷ []) in
    let c = text_long (top_after top step) steps in
    omega arith

-- one line before a text
pub spells_cons : (most : ℕ) → most < 2 ^ 48 → (top n : ℕ) (step : Step) (text : List ℕ) (steps : List Step) → line_text top step ≡ line_text n step → IsClauseNumber n → IsStepWithin most step → LineSpellsWithin most text steps
    → LineSpellsWithin most (line_of top step ++ text) (step ∷ steps)
spells_cons most small top n step text steps same number limits rest = (
  line_text n step,
  text,
  ap (λ (line : List ℕ). (line ++ 10 ∷ []) ++ text) same ∙ append_assoc (line_text n step) (10 ∷ []) text,
  written_one_line_within most small n step number limits,
  written_spells_within most small n step number limits,
  rest,
)

-- where the greatest number is n, each live number is a clause number
between_number : (top n : ℕ) (M : ClauseMap) (k : ℕ) (C : Clause) → AreBetween top M → top ≤ n → n < 2 ^ 48 → get M k ≡ Some C → IsClauseNumber k
between_number top n M k C between low few live = let r = between k C live in let a = r.0 in let b = r.1 in (a, omega arith)

step_limits : (most m n : ℕ) (M : ClauseMap) (top : ℕ) (step : Step) → IsLogStep m M top step → AreBetween top M → top_after top step ≤ n → n < 2 ^ 48 → AreSmall most (step ∷ []) → IsStepWithin most step
step_limits most m n M top (Add id lits hints groups) (next, none, rup) between low few small = (
  (omega arith, omega arith),
  small id lits hints groups (Contains-head (Add id lits hints groups) []),
  All-weaker (Contains hints) IsClauseNumber (λ h i. let d = hint_live (live_in M) lits hints rup h i in between_number top n M h d.0 between (omega arith) few d.1) hints (All-contains_itself hints),
  subst (All IsGroup) (sym none) (All-nil IsGroup),
)
step_limits most m n M top (Delete ids) (own, live, distinct) between low few small =
    All-weaker (λ id. IsSome (get M id)) IsClauseNumber (λ id some. let d = some_live M id some in between_number top n M id d.0 between low few d.1) ids live

pub step_between : (m : ℕ) (M : ClauseMap) (top : ℕ) (step : Step) → IsLogStep m M top step → AreBetween top M → AreBetween (top_after top step) (after_step M step)
step_between m M top (Add id lits hints groups) h between = between_insert M top id lits between h.0
step_between m M top (Delete ids) h between = between_without M top ids between

-- the number that a line may be written with
line_number : (m n : ℕ) (M : ClauseMap) (top : ℕ) (step : Step) → IsLogStep m M top step → 1 ≤ top → top_after top step ≤ n → n < 2 ^ 48 → IsClauseNumber top
line_number m n M top (Add id lits hints groups) h some low few = let e = h.0 in (some, omega arith)
line_number m n M top (Delete ids) h some low few = (some, omega arith)

pub log_spells : (most : ℕ) → most < 2 ^ 48 → (m n : ℕ) (M : ClauseMap) (top : ℕ) (steps : List Step) → AreLogSteps m M top steps → AreBetween top M → 1 ≤ top → top_of top steps ≤ n → n < 2 ^ 48 → AreSmall most steps → LineSpellsWithin most (text_of top steps) steps
log_spells most vars m n M top [] h between some low few small = refl
log_spells most vars m n M top (step ∷ steps) h between some low few small =
    let up = (log_up m (after_step M step) (top_after top step) steps h.1).0 in
    let here = (log_up m M top (step ∷ []) (h.0, tt)).0 in
    spells_cons most vars top top step (text_of (top_after top step) steps) steps refl
    (line_number m n M top step h.0 some (omega arith) few)
    (step_limits most m n M top step h.0 between (omega arith) few (λ id lits hints groups i. small id lits hints groups (Contains-append_left (step ∷ []) steps (Add id lits hints groups) i)))
    (log_spells most vars m n (after_step M step) (top_after top step) steps h.1 (step_between m M top step h.0 between) (omega arith) low few
    (λ id lits hints groups i. small id lits hints groups (Contains-cons step (Add id lits hints groups) steps i)))
