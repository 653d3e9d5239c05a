-- Logs that follow one another.
use Rattle.std.proofs.Common.{◌≡◌, ℕ, ◌+◌, ◌<◌, ◌≤◌, inl, inr, false, not, ◌||◌, List, [], ◌∷◌, ◌++◌, length, Some, None, cond, refl, sym, ◌∙◌, ap, subst, arith}
use Rattle.std.specs.Prelude.{nat_eq}
use Rattle.std.specs.List.{Contains, list_any}
use Rattle.std.specs.FinMap.{get}
use Rattle.std.proofs.lemmas.Bool.{ne_eqb}
use Rattle.std.proofs.lemmas.List.Elements.{All-weaker, All-contains, Contains-append_left, Contains-append_right}
use Rattle.dimacs.specs.logic.ClauseMap.{ClauseMap}
use Rattle.dimacs.specs.logic.Literal.{Clause}
use Rattle.dimacs.specs.logic.Rat.{Group}
use Rattle.dimacs.proofs.Members.{Contains-head, Contains-cons, Contains-cons_cases, Contains-nil}
use Rattle.lrat_text.specs.Log.{after_step, top_after, IsLogStep, AreLogSteps}
use Rattle.lrat_text.specs.Proof.{AddsEmpty, Refutation}
use Rattle.lrat_text.specs.declared.step.Step.{Step}
use Rattle.lrat_text.specs.declared.step.Step.TheVariants.{Add, Delete}
use Rattle.lrat_text.proofs.LogLemmas.{taken}
use Rattle.proof_join.specs.RenumberedSteps.{last_clause}
use Rattle.lrat_text.specs.Runs.{after_steps, top_of}
use Rattle.lrat_text.proofs.RunLemmas.{after_append, top_append}
use Rattle.proof_join.proofs.MapLemmas.{get_here, get_other, get_without}

step_weaker : (m n : ℕ) (M : ClauseMap) (top : ℕ) (step : Step) → m ≤ n → IsLogStep n M top step → IsLogStep m M top step
step_weaker m n M top (Add id lits hints groups) low h = h
step_weaker m n M top (Delete ids) low h = (All-weaker (λ id. n < id) (λ id. m < id) (λ id x. omega arith) ids h.0, h.1, h.2)

-- steps that delete no number up to n delete none up to a lower one
pub log_weaker : (m n : ℕ) (M : ClauseMap) (top : ℕ) (steps : List Step) → m ≤ n → AreLogSteps n M top steps → AreLogSteps m M top steps
log_weaker m n M top [] low h = tt
log_weaker m n M top (step ∷ steps) low h = (step_weaker m n M top step low h.0, log_weaker m n (after_step M step) (top_after top step) steps low h.1)

step_up : (m : ℕ) (M : ClauseMap) (top : ℕ) (step : Step) → IsLogStep m M top step → (top ≤ top_after top step) × (top_after top step ≤ top + 1)
step_up m M top (Add id lits hints groups) h = let e = h.0 in (omega arith, omega arith)
step_up m M top (Delete ids) h = (omega arith, omega arith)

-- the last number is no lower than the first, and a step adds one number at most
pub log_up : (m : ℕ) (M : ClauseMap) (top : ℕ) (steps : List Step) → AreLogSteps m M top steps → (top ≤ top_of top steps) × (top_of top steps ≤ top + length steps)
log_up m M top [] h = (omega arith, omega arith)
log_up m M top (step ∷ steps) h =
    let a = step_up m M top step h.0 in
    let b = log_up m (after_step M step) (top_after top step) steps h.1 in
    let a0 = a.0 in
    let a1 = a.1 in
    let b0 = b.0 in
    let b1 = b.1 in
    (omega arith, omega arith)

-- ---- what stays live
abbrev pub Keeps : ℕ → ClauseMap → ClauseMap → Type 0
Keeps t M N = (n : ℕ) (C : Clause) → n ≤ t → get M n ≡ Some C → get N n ≡ Some C

any_above : (t n : ℕ) (ids : List ℕ) → n ≤ t → ((k : ℕ) → Contains ids k → t < k) → list_any (nat_eq n) ids ≡ false
any_above t n [] low h = refl
any_above t n (k ∷ ids) low h =
    let above = h k (Contains-head k ids) in
    ap (λ b. b || list_any (nat_eq n) ids) (ne_eqb n k (λ e. omega arith)) ∙ any_above t n ids low (λ j i. h j (Contains-cons k j ids i))

step_keeps : (t : ℕ) (M : ClauseMap) (top : ℕ) (step : Step) → t ≤ top → IsLogStep t M top step → Keeps t M (after_step M step)
step_keeps t M top (Add id lits hints groups) low h n C below live =
    let e = h.0 in get_other M id n lits (λ same. omega arith) ∙ live
step_keeps t M top (Delete ids) low h n C below live =
    get_without M ids n
    ∙ ap (λ b. cond (not b) (get M n) None) (any_above t n ids below (λ k i. All-contains (λ id. t < id) ids k h.0 i))
    ∙ live

pub log_keeps : (t : ℕ) (M : ClauseMap) (top : ℕ) (steps : List Step) → t ≤ top → AreLogSteps t M top steps → Keeps t M (after_steps M steps)
log_keeps t M top [] low h n C below live = live
log_keeps t M top (step ∷ steps) low h n C below live =
    let up = (step_up t M top step h.0).0 in
    log_keeps t (after_step M step) (top_after top step) steps (omega arith) h.1 n C below (step_keeps t M top step low h.0 n C below live)

-- ---- clauses that steps add
abbrev pub Adds : Clause → List Step → Type 0
Adds C steps = (id : ℕ) × (hints : List ℕ) × (groups : List Group) × Contains steps (Add id C hints groups)

pub adds_left : (C : Clause) (xs ys : List Step) → Adds C xs → Adds C (xs ++ ys)
adds_left C xs ys a = (a.0, a.1, a.2, Contains-append_left xs ys (Add a.0 C a.1 a.2) a.3)

pub adds_right : (C : Clause) (xs ys : List Step) → Adds C ys → Adds C (xs ++ ys)
adds_right C xs ys a = (a.0, a.1, a.2, Contains-append_right xs ys (Add a.0 C a.1 a.2) a.3)

-- a log that adds the empty clause refutes
pub log_refutes : (m : ℕ) (M : ClauseMap) (top : ℕ) (steps : List Step) → AreLogSteps m M top steps → (step : Step) → Contains steps step → AddsEmpty step → Refutation M top steps
log_refutes m M top [] h step i empty = absurd (Contains-nil step i)
log_refutes m M top (x ∷ steps) h step i empty = (
  after_step M x,
  top_after top x,
  taken m M top x h.0,
  elim (Contains-cons_cases x step steps i) [
    | inl e ↦ inl (subst AddsEmpty (sym e) empty)
    | inr j ↦ inr (log_refutes m (after_step M x) (top_after top x) steps h.1 step j empty)
  ],
)

-- ---- the last step of a fragment
pub last_live : (M : ClauseMap) (top : ℕ) (D : Clause) (front : List Step) (id : ℕ) (lits : Clause) (hints : List ℕ) (groups : List Group)
    → get (after_steps M (front ++ Add id lits hints groups ∷ [])) id ≡ Some lits
last_live M top D front id lits hints groups =
    ap (λ N. get N id) (after_append M front (Add id lits hints groups ∷ [])) ∙ get_here (after_steps M front) id lits

pub last_is : (D : Clause) (front : List Step) (id : ℕ) (lits : Clause) (hints : List ℕ) (groups : List Group) → last_clause D (front ++ Add id lits hints groups ∷ []) ≡ lits
last_is D [] id lits hints groups = refl
last_is D (Add n C more gs ∷ front) id lits hints groups = last_is C front id lits hints groups
last_is D (Delete ids ∷ front) id lits hints groups = last_is D front id lits hints groups

pub last_top : (top : ℕ) (front : List Step) (id : ℕ) (lits : Clause) (hints : List ℕ) (groups : List Group) → top_of top (front ++ Add id lits hints groups ∷ []) ≡ id
last_top top front id lits hints groups = top_append top front (Add id lits hints groups ∷ [])
