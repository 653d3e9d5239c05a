-- What a worker has written after each call.
use Rattle.std.proofs.Common.{zero, suc, ◌≡◌, ℕ, ◌+◌, ◌<◌, ◌≤◌, ◌^◌, ◌⊎◌, inl, inr, List, [], ◌∷◌, ◌++◌, length, map, append_assoc, refl, sym, ◌∙◌, ap, subst, arith}
use Rattle.std.specs.List.{All, Contains}
use Rattle.std.proofs.lemmas.Bool.{cases_lt}
use Rattle.std.proofs.lemmas.List.Elements.{All-cons, All-nil, All-weaker}
use Rattle.dimacs.specs.logic.ClauseMap.{ClauseMap}
use Rattle.dimacs.specs.logic.Cnf.{Cnf}
use Rattle.dimacs.specs.logic.Literal.{Literal, Clause, IsTautology, IsWithin, negation}
use Rattle.dimacs.proofs.Members.{Contains-cons, Contains-cons_cases, Contains-head, Contains-nil}
use Rattle.lrat_text.specs.Grammar.{IsClauseNumber, IsGroup, IsStepWithin}
use Rattle.lrat_text.specs.Lines.{IsOpen}
use Rattle.lrat_text.specs.Log.{log_top}
use Rattle.lrat_text.specs.Runs.{after_steps, text_of, top_of}
use Rattle.lrat_text.specs.declared.step.Step.TheVariants.{Add}
use Rattle.cube_solve.specs.Session.{last_of, log_of, vars_of}
use Rattle.cube_solve.specs.SessionLog.{AreRightSteps, IsKnown, LogGrowsFrom}
use Rattle.cube_solve.specs.Subsequences.{IsSubsequenceOf}
use Rattle.cube_solve.specs.declared.session.Session.{Session}
use Rattle.shared_logs.specs.SharedLogs.{SharedLogState, SharedStep, IsSharedStep, after_line}
use Rattle.shared_logs.specs.SharedText.{Names, SpellsName, SpellsSharedStep}
use Rattle.cell_worker.specs.WorkerLog.{HasWritten, IsPartOf, IsSharedText, clock_in, formula_in, last_in, log_state, names_in, vars_in}
use Rattle.cell_worker.specs.declared.worker.CellWorker.{CellWorker}
use Rattle.cell_worker.proofs.PartLemmas.{part_steps, right_part}
use Rattle.cell_worker.proofs.TextLemmas.{own, own_state, state_append, state_push, text_lines, text_more, text_named}

-- ---- literals of a core
pub part_within : (xs ys : List Literal) (l : Literal) → IsSubsequenceOf xs ys → Contains xs l → Contains ys l
part_within [] ys l h i = absurd (Contains-nil l i)
part_within (x ∷ xs) [] l h i = absurd h
part_within (x ∷ xs) (y ∷ ys) l h i = elim h [
  | inl p ↦ elim (Contains-cons_cases x l xs i) [
    | inl e ↦ subst (Contains (y ∷ ys)) (sym p.0 ∙ e) (Contains-head y ys)
    | inr j ↦ Contains-cons y l ys (part_within xs ys l p.1 j)
  ]
  | inr p ↦ Contains-cons y l ys (part_within (x ∷ xs) ys l p i)
]

pub part_plain : (core query : List Literal) → IsSubsequenceOf core query → ¬ (IsTautology query) → ¬ (IsTautology core)
part_plain core query h none t = none (t.0, part_within core query t.0 h t.1, part_within core query (negation t.0) h t.2)

-- ---- limits
pub top_few : (F : Cnf) → F.vars ≤ 199999999 → log_top F < 2 ^ 48
top_few F h = omega arith

pub top_more : (F : Cnf) → F.vars ≤ log_top F
top_more F = omega arith

pub lemma_limits : (vars most n : ℕ) (C : Clause) (hints : List ℕ) → vars ≤ most → IsClauseNumber n → All (IsWithin vars) C → All IsClauseNumber hints → IsStepWithin most (Add n C hints [])
lemma_limits vars most n C hints le number within numbers = (number, All-weaker (IsWithin vars) (IsWithin most) (λ l w. (w.0, (let a = w.1 in omega arith))) C within, numbers, All-nil IsGroup)

pub import_limits : (vars most n : ℕ) (C : Clause) (log there : ℕ) → vars ≤ most → IsClauseNumber n → All (IsWithin vars) C → IsClauseNumber log → IsClauseNumber there → IsStepWithin most (Add n C (log ∷ there ∷ []) [])
import_limits vars most n C log there le number within a b =
    lemma_limits vars most n C (log ∷ there ∷ []) le number within (All-cons IsClauseNumber log (there ∷ []) a (All-cons IsClauseNumber there [] b (All-nil IsClauseNumber)))

-- the numbers up to this one
abbrev pub first_numbers : ℕ → List ℕ
first_numbers zero = 0 ∷ []
first_numbers (suc n) = suc n ∷ first_numbers n

pub first_low : (m n : ℕ) → Contains (first_numbers m) n → n ≤ m
first_low zero n i = elim (Contains-cons_cases 0 n [] i) [ inl e ↦ omega arith | inr j ↦ absurd (Contains-nil n j) ]
first_low (suc m) n i = elim (Contains-cons_cases (suc m) n (first_numbers m) i) [ inl e ↦ omega arith | inr j ↦ (let l = first_low m n j in omega arith) ]

pub first_all : (m n : ℕ) → n ≤ m → Contains (first_numbers m) n
first_all zero n l = subst (Contains (0 ∷ [])) (let e : 0 ≡ n = omega arith in e) (Contains-head 0 [])
first_all (suc m) n l = at (cases_lt m n) (first_all m n)
  where
    at : (m < n) ⊎ (n ≤ m) → (n ≤ m → Contains (first_numbers m) n) → Contains (suc m ∷ first_numbers m) n
    at (inl lt) more = subst (Contains (suc m ∷ first_numbers m)) (let e : suc m ≡ n = omega arith in e) (Contains-head (suc m) (first_numbers m))
    at (inr le) more = Contains-cons (suc m) n (first_numbers m) (more le)

-- a session knows some clauses of the map
abbrev pub KnowsPart : {P : Type 0} → List ℕ → ClauseMap → Session P → Type 0
KnowsPart given M s = (knows : ClauseMap) × IsPartOf knows M × IsKnown given knows s

module _ {P : Type 0} (F : Cnf) (names : Names) (steps : List SharedStep) (text : List ℕ) (s u : CellWorker P) where
  -- a name is given
  pub written_named : (line : List ℕ) (number : ℕ) (name : List ℕ) → u.log.items ≡ s.log.items ++ (line ++ 10 ∷ []) → IsOpen line → SpellsName line number name → number ≡ names_in s + 1 → names_in u ≡ number
      → u.search ≡ s.search → formula_in u ≡ formula_in s → clock_in u ≡ clock_in s → HasWritten F names steps text s → HasWritten F ((number, name) ∷ names) steps text u
  written_named line number name bytes bare spelled next used same over clock h = record {
    is_text = subst (IsSharedText F ((number, name) ∷ names) steps) (append_assoc text s.log.items (line ++ 10 ∷ []) ∙ ap (λ (t : List ℕ). text ++ t) (sym bytes))
        (text_named F names steps (text ++ s.log.items) line number name h.is_text bare spelled
        (All-weaker (λ x. x.0 ≤ names_in s) (λ x. x.0 ≡ number → ⊥) (λ x low e. omega arith) names h.used));
    over = over ∙ h.over;
    vars = ap (λ (x : Session P). vars_of x) same ∙ h.vars;
    last = h.last ∙ ap (λ (x : Session P). last_of x) (sym same);
    clock = h.clock ∙ sym clock;
    used = All-cons (λ x. x.0 ≤ names_in u) (number, name) names (omega arith) (All-weaker (λ x. x.0 ≤ names_in s) (λ x. x.0 ≤ names_in u) (λ x low. omega arith) names h.used);
    told = ap (λ (x : Session P). log_of x) same ∙ h.told;
    given = h.given;
    first = h.first;
    knows = h.knows;
    part = h.part;
    known = subst (λ (x : Session P). IsKnown h.given h.knows x) (sym same) h.known;
  }

  -- a line is written
  pub written_line : (line : List ℕ) (step : SharedStep) → u.log.items ≡ s.log.items ++ (line ++ 10 ∷ []) → IsOpen line → SpellsSharedStep (log_top F) names line step
      → IsSharedStep (length F.clauses) (log_state F steps) step → formula_in u ≡ formula_in s → vars_in u ≡ vars_in s → names_in u ≡ names_in s
      → (after_line (log_state F steps) step).last ≡ last_in u → (after_line (log_state F steps) step).clock ≡ clock_in u → log_of u.search ≡ log_of s.search
      → ((given : List ℕ) (M : ClauseMap) → IsPartOf M (log_state F steps).live → IsKnown given M s.search → KnowsPart given (after_line (log_state F steps) step).live u.search)
      → HasWritten F names steps text s → HasWritten F names (steps ++ step ∷ []) text u
  written_line line step bytes bare spelled right over vars used last clock log knows h = let k = knows h.given h.knows h.part h.known in record {
    is_text = subst (IsSharedText F names (steps ++ step ∷ [])) (append_assoc text s.log.items (line ++ 10 ∷ []) ∙ ap (λ (t : List ℕ). text ++ t) (sym bytes))
        (text_more F names steps (text ++ s.log.items) line step h.is_text bare spelled right);
    over = over ∙ h.over;
    vars = vars ∙ h.vars;
    last = ap (λ (t : SharedLogState). t.last) (state_push F steps step) ∙ last;
    clock = ap (λ (t : SharedLogState). t.clock) (state_push F steps step) ∙ clock;
    used = subst (λ n. All (λ x. x.0 ≤ n) names) (sym used) h.used;
    told = log ∙ h.told;
    given = h.given;
    first = h.first;
    knows = k.0;
    part = subst (λ (t : SharedLogState). IsPartOf k.0 t.live) (sym (state_push F steps step)) k.1;
    known = k.2;
  }

  -- lines of the search are written, up to where it stood after it was asked
  module _ (asked : Session P) (h : HasWritten F names steps text s) (x : LogGrowsFrom h.given h.knows s.search asked) where
    pub own_live : (log_state F (steps ++ map own x.steps)).live ≡ after_steps (log_state F steps).live x.steps
    own_live = ap (λ (t : SharedLogState). t.live) (state_append F steps (map own x.steps) ∙ own_state (log_state F steps) x.steps)

    pub written_lines : vars_in s ≤ 199999999 → u.log.items ≡ s.log.items ++ log_of asked → log_of u.search ≡ [] → formula_in u ≡ formula_in s → vars_in u ≡ vars_of asked → last_in u ≡ last_of asked
        → clock_in u ≡ clock_in s → names_in u ≡ names_in s → ((given : List ℕ) (M : ClauseMap) → IsKnown given M asked → IsKnown given M u.search) → HasWritten F names (steps ++ map own x.steps) text u
    written_lines few bytes told over vars last clock used knows =
        let st = log_state F steps in
        let right : AreRightSteps (vars_of s.search) h.given st.live st.last x.steps =
        right_part (vars_of s.search) h.given h.knows st.live st.last x.steps h.part (subst (λ n. AreRightSteps (vars_of s.search) h.given h.knows n x.steps) (sym h.last) x.right) in
        let low : F.vars ≤ 199999999 = subst (λ n. n ≤ 199999999) h.vars few in
        let le : vars_of s.search ≤ log_top F = subst (λ n. n ≤ log_top F) (sym h.vars) (top_more F) in
        let t = text_lines F (vars_of s.search) le (top_few F low) names h.given h.first x.steps steps (text ++ s.log.items) st refl right h.is_text in
        let log : log_of asked ≡ text_of st.last x.steps = x.text ∙ ap (λ (y : List ℕ). y ++ text_of (last_of s.search) x.steps) h.told ∙ ap (λ n. text_of n x.steps) (sym h.last) in
        let is = state_append F steps (map own x.steps) ∙ own_state st x.steps in
        record {
          is_text = subst (IsSharedText F names (steps ++ map own x.steps))
              (append_assoc text s.log.items (text_of st.last x.steps) ∙ ap (λ (y : List ℕ). text ++ (s.log.items ++ y)) (sym log) ∙ ap (λ (y : List ℕ). text ++ y) (sym bytes)) t;
          over = over ∙ h.over;
          vars = vars ∙ x.vars ∙ h.vars;
          last = ap (λ (y : SharedLogState). y.last) is ∙ ap (λ n. top_of n x.steps) h.last ∙ sym x.last ∙ sym last;
          clock = ap (λ (y : SharedLogState). y.clock) is ∙ h.clock ∙ sym clock;
          used = subst (λ n. All (λ y. y.0 ≤ n) names) (sym used) h.used;
          told = told;
          given = h.given;
          first = h.first;
          knows = after_steps h.knows x.steps;
          part = subst (λ (y : SharedLogState). IsPartOf (after_steps h.knows x.steps) y.live) (sym is) (part_steps h.knows st.live x.steps h.part);
          known = knows h.given (after_steps h.knows x.steps) x.known;
        }
