-- A coverage after one more clause.
use Rattle.std.proofs.Common.{◌≡◌, ℕ, ◌+◌, ◌^◌, ◌≤◌, ◌<◌, Bool, true, false, Option, None, Some, Result, Ok, Err, IfErr, inl, inr, cond, List, [], ◌∷◌, ◌++◌, length, length-append, map, refl, sym, ◌∙◌, ap, subst, arith}
use Rattle.std.specs.List.{Contains, All, list_any}
use Rattle.std.proofs.lemmas.List.Elements.{All-contains, All-cons, All-nil}
use Rattle.std.specs.Prelude.{is_some}
use Rattle.std.proofs.lemmas.Bool.{cases_lt, true≢false}
use Rattle.std.specs.FinMap.{get}
use Rattle.dimacs.specs.logic.ClauseMap.{ClauseMap}
use Rattle.dimacs.specs.logic.Propagation.{negations}
use Rattle.dimacs.specs.logic.Rat.{Group}
use Rattle.lrat_check.specs.StepFaults.{by_hint, is_tautology, has_groups, walk}
use Rattle.lrat_check.specs.Logs.{log_lemma_fault, rup_fault}
use Rattle.lrat_check.proofs.Pairs.{pair_tautology, tautology_pair}
use Rattle.lrat_text.specs.declared.step.Step.TheVariants.{Add}
use Rattle.dimacs.specs.logic.ClauseMap.{map_of}
use Rattle.dimacs.specs.logic.Cnf.{Cnf}
use Rattle.dimacs.specs.logic.Literal.{Clause, Literal, IsTautology, IsWithin, var_of}
use Rattle.icnf.specs.Leaves.{Cube}
use Rattle.lrat_text.specs.Grammar.{IsClauseNumber, IsGroup, IsStepWithin}
use Rattle.lrat_text.specs.Log.{IsLogStep, log_top}
use Rattle.lrat_text.specs.Runs.{after_steps, top_of}
use Rattle.lrat_text.specs.declared.step.Step.{Step}
use Rattle.lrat_text.proofs.LineLemmas.{step_more}
use Rattle.proof_join.specs.RenumberedSteps.{behind, renumbered}
use Rattle.log_join.specs.ClosedLeaves.{Leaf, can_close, closes, settled}
use Rattle.log_join.specs.JoinedLogs.{JoinState, Handed, joined_so_far}
use Rattle.log_join.specs.Written.{BetweenLogs, AtLogEnd, NoneLive, WithinLog, leaves_of}
use Rattle.log_join.proofs.SettlingLemmas.{begins_to_end}
use Rattle.log_join.specs.declared.log_joiner.LogJoiner.{LogJoiner}
use Rattle.log_join.proofs.ClosedLemmas.{gathered_cubes}
use Rattle.receipts.specs.ClosedLeaves.{closes_new_leaf}
use Rattle.receipts.specs.declared.coverage.Coverage.{Coverage}
use Rattle.receipts.specs.Coverage.{HasTakenClauses, absurdity}
use Rattle.receipts.proofs.CoverageLemmas.{Agree, all_settled, any_told, consistent, follows, great_closes_none, handed_for, leaves_then, lemma_for, line_for, lives, log_for, none_behind, none_settled, one_log, tautology_closes_none}
use Rattle.dimacs.proofs.Members.{Contains-nil}

pub covers_more : (cubes : List Cube) (clauses : List Clause) (C : Clause) (old new : Coverage) (h : HasTakenClauses cubes clauses old) (written : List ℕ)
    → BetweenLogs absurdity cubes (h.logs ++ handed_for C ∷ []) new.joiner written → HasTakenClauses cubes (clauses ++ C ∷ []) new
covers_more cubes clauses C old new h written between =
    let g : JoinState = joined_so_far absurdity cubes h.logs in
    let leaves : (joined_so_far absurdity cubes (h.logs ++ handed_for C ∷ [])).leaves ≡ settled (lemma_for g.top C) g.leaves =
    ap (λ (x : JoinState). x.leaves) (one_log cubes h.logs C) ∙ leaves_then g C in
    let top : (joined_so_far absurdity cubes (h.logs ++ handed_for C ∷ [])).top ≡ g.top + 1 = ap (λ (x : JoinState). x.top) (one_log cubes h.logs C) in
    let long : length (clauses ++ C ∷ []) ≡ length clauses + 1 = length-append clauses (C ∷ []) in
    let low = h.top in
    record {
      tree = h.tree;
      within = h.within;
      few = h.few;
      logs = h.logs ++ handed_for C ∷ [];
      written = written;
      between = between;
      top = omega arith;
      closed = subst (All (Agree (clauses ++ C ∷ []))) (sym leaves) (all_settled (lemma_for g.top C) clauses g.leaves h.closed);
    }

pub told_more : (cubes : List Cube) (clauses : List Clause) (C : Clause) (old : Coverage) (h : HasTakenClauses cubes clauses old) (g : LogJoiner) (id : ℕ) (b : Bool)
    → leaves_of g ≡ (joined_so_far absurdity cubes h.logs).leaves → b ≡ list_any (can_close (record { id = id; clause = C })) (leaves_of g) → b ≡ closes_new_leaf cubes clauses C
told_more cubes clauses C old h g id b leaves told =
    told
    ∙ ap (λ (ks : List Leaf). list_any (can_close (record { id = id; clause = C })) ks) leaves
    ∙ any_told (record { id = id; clause = C }) clauses (joined_so_far absurdity cubes h.logs).leaves h.closed
    ∙ ap (λ (qs : List Cube). closes_new_leaf qs clauses C) (gathered_cubes absurdity cubes h.logs)

-- a clause that closes nothing
pub stays_more : (cubes : List Cube) (clauses : List Clause) (C : Clause) (old new : Coverage) (h : HasTakenClauses cubes clauses old) → new.joiner ≡ old.joiner
    → ((q : Cube) → Contains cubes q → closes q C ≡ false) → HasTakenClauses cubes (clauses ++ C ∷ []) new
stays_more cubes clauses C old new h same none =
    let long : length (clauses ++ C ∷ []) ≡ length clauses + 1 = length-append clauses (C ∷ []) in
    let low = h.top in
    record {
      tree = h.tree;
      within = h.within;
      few = h.few;
      logs = h.logs;
      written = h.written;
      between = subst (λ (g : LogJoiner). BetweenLogs absurdity cubes h.logs g h.written) (sym same) h.between;
      top = omega arith;
      closed = none_settled (joined_so_far absurdity cubes h.logs).leaves clauses C
          (λ q i. none q (subst (λ (qs : List Cube). Contains qs q) (gathered_cubes absurdity cubes h.logs) i)) h.closed;
    }

pub pair_closes_none : (cubes : List Cube) (clauses : List Clause) (C : Clause) (c : Coverage) → HasTakenClauses cubes clauses c → IsTautology C → (q : Cube) → Contains cubes q → closes q C ≡ false
pair_closes_none cubes clauses C c h t q i = tautology_closes_none q C (consistent {path = []} (λ l j k. Contains-nil l j) h.tree q i) t

pub large_closes_none : (cubes : List Cube) (clauses : List Clause) (C : Clause) (c : Coverage) → HasTakenClauses cubes clauses c → (l : Literal) → Contains C l → 2000000 < var_of l
    → (q : Cube) → Contains cubes q → closes q C ≡ false
large_closes_none cubes clauses C c h l i great q j = great_closes_none q C l (All-contains (All (IsWithin 2000000)) cubes q h.within j) i great

-- ---- numbers
-- the step as it is handed over
pub step_is : (C : Clause) → All (IsWithin 2000000) C → IsStepWithin 2000000 (line_for C)
step_is C small =
    let id : IsClauseNumber 2 = (omega arith, omega arith) in
    let hint : IsClauseNumber 1 = (omega arith, omega arith) in
    (id, small, All-cons IsClauseNumber 1 [] hint (All-nil IsClauseNumber), All-nil IsGroup)

pub step_wide : (groups : List Group) (C : Clause) → groups ≡ [] → All (IsWithin 2000000) C → IsStepWithin 199999999 (Add 2 C (1 ∷ []) groups)
step_wide groups C none small =
    subst (λ (gs : List Group). IsStepWithin 199999999 (Add 2 C (1 ∷ []) gs)) (sym none) (step_more 2000000 199999999 (omega arith) (line_for C) (step_is C small))

-- it is within the limits of the logs over any formula
step_of_log : (F : Cnf) (C : Clause) → All (IsWithin 2000000) C → IsStepWithin (log_top F) (line_for C)
step_of_log F C small =
    let more : 2000000 ≤ log_top F = omega arith in
    step_more 2000000 (log_top F) more (line_for C) (step_is C small)

-- the step fits into a line, as long as its number does
pub step_fits : (top : ℕ) (C : Clause) → All (IsWithin 2000000) C → top + 1 < 2 ^ 48 → IsStepWithin 199999999 (renumbered (behind 1 top) (line_for C))
step_fits top C small few =
    let id : IsClauseNumber (behind 1 top 2) = (omega arith, omega arith) in
    let hint : IsClauseNumber (behind 1 top 1) = (omega arith, omega arith) in
    let fits : IsStepWithin 2000000 (renumbered (behind 1 top) (line_for C)) =
    (id, small, All-cons IsClauseNumber (behind 1 top 1) [] hint (All-nil IsClauseNumber), All-nil IsGroup) in
    step_more 2000000 199999999 (omega arith) (renumbered (behind 1 top) (line_for C)) fits

-- ---- one clause is handed over: what the four calls of the gatherer promise, from one to the next
abbrev pub Begins : LogJoiner → LogJoiner → Type 0
Begins old new = (F : Cnf) (cubes : List Cube) (logs : List Handed) (written : List ℕ) → BetweenLogs F cubes logs old written → WithinLog F cubes logs [] new written

abbrev pub TakesLine : LogJoiner → LogJoiner → Step → List ℕ → Type 0
TakesLine old new step more = (F : Cnf) (cubes : List Cube) (logs : List Handed) (log : List Step) (written : List ℕ) → WithinLog F cubes logs log old written
    → IsLogStep (length F.clauses) (after_steps (map_of F) log) (top_of (length F.clauses) log) step → IsStepWithin (log_top F) step → WithinLog F cubes logs (log ++ step ∷ []) new (written ++ more)

abbrev pub SettlesAt : LogJoiner → LogJoiner → ℕ → Clause → Type 0
SettlesAt old new number C = (F : Cnf) (cubes : List Cube) (logs : List Handed) (log : List Step) (n : ℕ) (written : List ℕ)
    → AtLogEnd F cubes logs (record { steps = log; accepted = true }) n old written → n ≤ number → NoneLive (after_steps (map_of F) log) n number
    → get (after_steps (map_of F) log) number ≡ Some C → AtLogEnd F cubes logs (record { steps = log; accepted = true }) (number + 1) new written

abbrev pub EndsLog : LogJoiner → LogJoiner → List ℕ → Type 0
EndsLog old new more = (F : Cnf) (cubes : List Cube) (logs : List Handed) (h : Handed) (n : ℕ) (written : List ℕ) → AtLogEnd F cubes logs h n old written
    → ((k : ℕ) → n ≤ k → get (after_steps (map_of F) h.steps) k ≡ None) → BetweenLogs F cubes (logs ++ h ∷ []) new (written ++ more)

module _ (cubes : List Cube) (clauses : List Clause) (C : Clause) (small : All (IsWithin 2000000) C) (none : ¬ (IsTautology C)) (old : Coverage) (h : HasTakenClauses cubes clauses old) (g1 g2 : LogJoiner) (more : List ℕ)
    (begins : Begins old.joiner g1) (takes : TakesLine g1 g2 (line_for C) more) where
  pub put_within : WithinLog absurdity cubes h.logs (log_for C) g2 (h.written ++ more)
  put_within = takes absurdity cubes h.logs [] h.written (begins absurdity cubes h.logs h.written h.between) (follows C none) (step_of_log absurdity C small)

  pub put_covers : (new : Coverage) (g3 : LogJoiner) (last : List ℕ) → SettlesAt g2 g3 2 C → EndsLog g3 new.joiner last → HasTakenClauses cubes (clauses ++ C ∷ []) new
  put_covers new g3 last settles ends =
      let over : AtLogEnd absurdity cubes h.logs (handed_for C) 2 g2 (h.written ++ more) = begins_to_end absurdity cubes h.logs (log_for C) true g2 (h.written ++ more) put_within in
      let settled_it : AtLogEnd absurdity cubes h.logs (handed_for C) 3 g3 (h.written ++ more) =
      settles absurdity cubes h.logs (log_for C) 2 (h.written ++ more) over (omega arith) (λ k from below. absurd (omega arith)) (lives C) in
      covers_more cubes clauses C old new h ((h.written ++ more) ++ last) (ends absurdity cubes h.logs (handed_for C) 3 (h.written ++ more) settled_it (none_behind C none))

  pub put_told : (b : Bool) → ((F : Cnf) (cubes : List Cube) (logs : List Handed) (log : List Step) (n : ℕ) (written : List ℕ)
      → AtLogEnd F cubes logs (record { steps = log; accepted = true }) n g2 written → n ≤ 2 → get (after_steps (map_of F) log) 2 ≡ Some C
      → b ≡ list_any (can_close (record { id = behind g2.base g2.begun 2; clause = C })) (leaves_of g2)) → b ≡ closes_new_leaf cubes clauses C
  put_told b told =
      let over : AtLogEnd absurdity cubes h.logs (handed_for C) 2 g2 (h.written ++ more) = begins_to_end absurdity cubes h.logs (log_for C) true g2 (h.written ++ more) put_within in
      told_more cubes clauses C old h g2 (behind g2.base g2.begun 2) b put_within.stands.leaves (told absurdity cubes h.logs (log_for C) 2 (h.written ++ more) over (omega arith) (lives C))

-- ---- as long as there are numbers left
pub many_line : (cubes : List Cube) (clauses : List Clause) (C : Clause) (old : Coverage) (h : HasTakenClauses cubes clauses old) (g : LogJoiner) (groups : List Group) → WithinLog absurdity cubes h.logs [] g h.written
    → All (IsWithin 2000000) C → groups ≡ [] → ¬ (IsStepWithin 199999999 (renumbered (behind g.base g.begun) (Add 2 C (1 ∷ []) groups))) → 2 ^ 48 ≤ length clauses + 2
many_line cubes clauses C old h g groups w small none long = elim (cases_lt ((joined_so_far absurdity cubes h.logs).top + 1) (2 ^ 48)) [
  | inl few ↦ absurd (long (subst (λ (n : ℕ). IsStepWithin 199999999 (renumbered (behind n g.begun) (Add 2 C (1 ∷ []) groups))) (sym w.stands.base)
      (subst (λ (n : ℕ). IsStepWithin 199999999 (renumbered (behind 1 n) (Add 2 C (1 ∷ []) groups))) (sym w.begun)
      (subst (λ (gs : List Group). IsStepWithin 199999999 (renumbered (behind 1 (joined_so_far absurdity cubes h.logs).top) (Add 2 C (1 ∷ []) gs))) (sym none)
      (step_fits (joined_so_far absurdity cubes h.logs).top C small few)))))
  | inr many ↦ let low = h.top in omega arith
]

pub many_settle : (cubes : List Cube) (clauses : List Clause) (C : Clause) (old : Coverage) (h : HasTakenClauses cubes clauses old) (g : LogJoiner) (written : List ℕ) → WithinLog absurdity cubes h.logs (log_for C) g written
    → 2 ^ 48 ≤ behind g.base g.begun 2 → 2 ^ 48 ≤ length clauses + 2
many_settle cubes clauses C old h g written w many =
    let low = h.top in
    let is : behind g.base g.begun 2 ≡ 1 + (joined_so_far absurdity cubes h.logs).top = ap (λ (n : ℕ). behind n g.begun 2) w.stands.base ∙ ap (λ (n : ℕ). behind 1 n 2) w.begun in
    omega arith

-- ---- the test of a clause
fault_is : (M : ClauseMap) (C : Clause) → get M 1 ≡ Some [] → log_lemma_fault M C (1 ∷ []) [] ≡ cond (is_tautology C) (Some 4) None
fault_is M C e = ap (λ (o : Option Clause). cond (is_tautology C) (Some 4) (cond (has_groups []) (Some 15) (rup_fault (by_hint true (negations C) (λ β. walk M false [] β) o)))) e

pub fault_pair : (M : ClauseMap) (C : Clause) (f : Option ℕ) → get M 1 ≡ Some [] → f ≡ log_lemma_fault M C (1 ∷ []) [] → is_some f ≡ true → IsTautology C
fault_pair M C f e is some = at (is_tautology C) refl
  where
    at : (b : Bool) → is_tautology C ≡ b → IsTautology C
    at true t = tautology_pair C t
    at false t = absurd (true≢false (sym some ∙ ap is_some (is ∙ fault_is M C e ∙ ap (λ b. cond b (Some 4) None) t)))

pub no_fault : (M : ClauseMap) (C : Clause) (f : Option ℕ) → get M 1 ≡ Some [] → f ≡ log_lemma_fault M C (1 ∷ []) [] → is_some f ≡ false → ¬ (IsTautology C)
no_fault M C f e is none pair = true≢false (sym (ap is_some (is ∙ fault_is M C e ∙ ap (λ b. cond b (Some 4) None) (pair_tautology C pair))) ∙ none)

-- ---- nothing was taken
pub none_agree : (cubes : List Cube) → All (Agree []) (map (λ q. record { cube = q; closing = None }) cubes)
none_agree [] = All-nil (Agree [])
none_agree (q ∷ cubes) = All-cons (Agree []) (record { cube = q; closing = None }) (map (λ p. record { cube = p; closing = None }) cubes) refl (none_agree cubes)

pub same_covers : (cubes : List Cube) (clauses : List Clause) (old new : Coverage) → new.joiner ≡ old.joiner → HasTakenClauses cubes clauses old → HasTakenClauses cubes clauses new
same_covers cubes clauses old new same h = record {
  tree = h.tree;
  within = h.within;
  few = h.few;
  logs = h.logs;
  written = h.written;
  between = subst (λ (g : LogJoiner). BetweenLogs absurdity cubes h.logs g h.written) (sym same) h.between;
  top = h.top;
  closed = h.closed;
}

pub err_weaker : {A E : Type 0} (r : Result A E) (P Q : E → Type 0) → ((e : E) → P e → Q e) → IfErr r P → IfErr r Q
err_weaker (Ok x) P Q f h = h
err_weaker (Err e) P Q f h = f e h
