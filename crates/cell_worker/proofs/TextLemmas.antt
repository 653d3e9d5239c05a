-- The text of a log, line by line.
use Rattle.std.proofs.Common.{◌≡◌, ℕ, ◌<◌, ◌≤◌, ◌^◌, ◌⊎◌, inl, inr, List, [], ◌∷◌, ◌++◌, length, map, fold, append_assoc, append-nil, refl, sym, ◌∙◌, ap, subst, arith}
use Rattle.std.specs.List.{All, Contains}
use Rattle.std.proofs.lemmas.Bool.{cases_lt}
use Rattle.std.proofs.lemmas.List.Elements.{All-cons, All-contains, All-nil, All-weaker}
use Rattle.std.proofs.lemmas.List.Sums.{fold-append}
use Rattle.dimacs.specs.logic.ClauseMap.{ClauseMap, live_in}
use Rattle.dimacs.specs.logic.Cnf.{Cnf}
use Rattle.dimacs.specs.logic.Literal.{Clause}
use Rattle.dimacs.specs.logic.Rat.{Group}
use Rattle.lrat_text.specs.Grammar.{IsStepWithin, LineSpellsWithin, SpellsStepWithin}
use Rattle.lrat_text.specs.Lines.{IsOpen}
use Rattle.lrat_text.specs.Log.{AreLogSteps, IsLogStep, after_step, log_top, top_after}
use Rattle.lrat_text.specs.Runs.{after_steps, text_of, top_of}
use Rattle.lrat_text.specs.WrittenLine.{line_text}
use Rattle.lrat_text.specs.declared.step.Step.{Step}
use Rattle.lrat_text.specs.declared.step.Step.TheVariants.{Add, Delete}
use Rattle.lrat_text.proofs.ClauseMapLemmas.{get_other}
use Rattle.lrat_text.proofs.LineLemmas.{step_more, written_one_line_within, written_spells_within}
use Rattle.cube_solve.proofs.DeletionLemmas.{map_less}
use Rattle.cube_solve.specs.SessionLog.{AreRightSteps}
use Rattle.shared_logs.specs.SharedLogs.{SharedLogState, SharedStep, Lemma, Import, Deletion, Clock, AreSharedSteps, IsSharedStep, after_line, initial_state}
use Rattle.shared_logs.specs.SharedText.{IsUnused, Names, SpellsName, SpellsSharedStep, SpellsSharedWithin, begins, names, spells}
use Rattle.cell_worker.specs.WorkerLog.{IsOwn, IsSharedText, log_state}
use Rattle.cell_worker.proofs.SpellingLemmas.{open_of}

-- ---- states
pub state_push : (F : Cnf) (steps : List SharedStep) (step : SharedStep) → log_state F (steps ++ step ∷ []) ≡ after_line (log_state F steps) step
state_push F steps step = fold-append after_line (initial_state F) steps (step ∷ [])

pub state_append : (F : Cnf) (steps more : List SharedStep) → log_state F (steps ++ more) ≡ fold after_line (log_state F steps) more
state_append F steps more = fold-append after_line (initial_state F) steps more

shared_append : (m : ℕ) (s : SharedLogState) (xs ys : List SharedStep) → AreSharedSteps m s xs → AreSharedSteps m (fold after_line s xs) ys → AreSharedSteps m s (xs ++ ys)
shared_append m s [] ys h g = g
shared_append m s (x ∷ xs) ys h g = (h.0, shared_append m (after_line s x) xs ys h.1 g)

-- the formula's clauses stay live
pub formula_lives : (m : ℕ) (s : SharedLogState) (steps : List SharedStep) (n : ℕ) (C : Clause) → AreSharedSteps m s steps → m ≤ s.last → n ≤ m → live_in s.live n C → live_in (fold after_line s steps).live n C
formula_lives m s [] n C h low small l = l
formula_lives m s (Lemma number D hints ∷ steps) n C h low small l =
    let e = (h.0).0 in
    formula_lives m (after_line s (Lemma number D hints)) steps n C h.1 (omega arith) small (get_other s.live number n D (λ same. omega arith) ∙ l)
formula_lives m s (Import number D name there ∷ steps) n C h low small l =
    let e = h.0 in
    formula_lives m (after_line s (Import number D name there)) steps n C h.1 (omega arith) small (get_other s.live number n D (λ same. omega arith) ∙ l)
formula_lives m s (Deletion numbers ∷ steps) n C h low small l =
    formula_lives m (after_line s (Deletion numbers)) steps n C h.1 low small
    ((map_less s.live numbers).stays n C l (λ i. let up = All-contains (λ k. m < k) numbers n (h.0).0 i in omega arith))
formula_lives m s (Clock time ∷ steps) n C h low small l = formula_lives m (after_line s (Clock time)) steps n C h.1 low small l

-- ---- one line more
pub text_begins : (F : Cnf) → IsSharedText F [] [] []
text_begins F = record { spelled = begins; is_log = tt }

pub text_more : (F : Cnf) (given : Names) (steps : List SharedStep) (bytes line : List ℕ) (step : SharedStep) → IsSharedText F given steps bytes → IsOpen line → SpellsSharedStep (log_top F) given line step
    → IsSharedStep (length F.clauses) (log_state F steps) step → IsSharedText F given (steps ++ step ∷ []) (bytes ++ (line ++ 10 ∷ []))
text_more F given steps bytes line step h bare spelled right = record {
  spelled = subst (λ (b : List ℕ). SpellsSharedWithin (log_top F) b given (steps ++ step ∷ [])) (append_assoc bytes line (10 ∷ [])) (spells bytes line step h.spelled bare spelled);
  is_log = shared_append (length F.clauses) (initial_state F) steps (step ∷ []) h.is_log (right, tt);
}

pub text_named : (F : Cnf) (given : Names) (steps : List SharedStep) (bytes line : List ℕ) (number : ℕ) (name : List ℕ) → IsSharedText F given steps bytes → IsOpen line → SpellsName line number name
    → IsUnused given number → IsSharedText F ((number, name) ∷ given) steps (bytes ++ (line ++ 10 ∷ []))
text_named F given steps bytes line number name h bare spelled unused = record {
  spelled = subst (λ (b : List ℕ). SpellsSharedWithin (log_top F) b ((number, name) ∷ given) steps) (append_assoc bytes line (10 ∷ [])) (names bytes line number name h.spelled bare spelled unused);
  is_log = h.is_log;
}

-- ---- lines of a search
-- a step of a search as a line of the log
abbrev pub own : Step → SharedStep
own (Add id lits hints groups) = Lemma id lits hints
own (Delete ids) = Deletion ids

pub all_own : (xs : List Step) → All IsOwn (map own xs)
all_own [] = All-nil IsOwn
all_own (Add id lits hints groups ∷ xs) = All-cons IsOwn (Lemma id lits hints) (map own xs) tt (all_own xs)
all_own (Delete ids ∷ xs) = All-cons IsOwn (Deletion ids) (map own xs) tt (all_own xs)

pub own_state : (s : SharedLogState) (xs : List Step) → fold after_line s (map own xs) ≡ record { live = after_steps s.live xs; last = top_of s.last xs; clock = s.clock }
own_state s [] = refl
own_state s (Add id lits hints groups ∷ xs) = own_state (after_line s (Lemma id lits hints)) xs
own_state s (Delete ids ∷ xs) = own_state (after_line s (Deletion ids)) xs

-- what is right of a search is right here, if no clause of the formula may be deleted
right_own : (vars m : ℕ) (given : List ℕ) (s : SharedLogState) (x : Step) (xs : List Step) → ((n : ℕ) → n ≤ m → Contains given n) → AreRightSteps vars given s.live s.last (x ∷ xs) → IsSharedStep m s (own x)
right_own vars m given s (Add id lits hints groups) xs all h = let r = h.1 in (r.0, r.2)
right_own vars m given s (Delete ids) xs all h =
    let r = h.1 in
    (All-weaker (λ id. ¬ (Contains given id)) (λ n. m < n) (λ n out. above n out) ids r.1, r.2, r.3)
  where
    above : (n : ℕ) → ¬ (Contains given n) → m < n
    above n out = at (cases_lt m n)
      where
        at : (m < n) ⊎ (n ≤ m) → m < n
        at (inl lt) = lt
        at (inr le) = absurd (out (all n le))

own_spelled : (vars most : ℕ) → vars ≤ most → most < 2 ^ 48 → (dict : Names) (given : List ℕ) (M : ClauseMap) (top : ℕ) (x : Step) (xs : List Step) → AreRightSteps vars given M top (x ∷ xs)
    → IsOpen (line_text top x) × SpellsSharedStep most dict (line_text top x) (own x)
own_spelled vars most le few dict given M top (Add id lits hints groups) xs h =
    let step = Add id lits hints groups in
    let limits : IsStepWithin most step = step_more vars most le step h.0 in
    let r = h.1 in (
      open_of (line_text id step) (written_one_line_within most few id step limits.0 limits),
      subst (λ (gs : List Group). SpellsStepWithin most (line_text id step) (Add id lits hints gs)) r.1 (written_spells_within most few id step limits.0 limits),
    )
own_spelled vars most le few dict given M top (Delete ids) xs h =
    let r = h.1 in (
      open_of (line_text top (Delete ids)) (written_one_line_within most few top (Delete ids) r.0 h.0),
      written_spells_within most few top (Delete ids) r.0 h.0,
    )

own_after : (s : SharedLogState) (x : Step) → after_line s (own x) ≡ record { live = after_step s.live x; last = top_after s.last x; clock = s.clock }
own_after s (Add id lits hints groups) = refl
own_after s (Delete ids) = refl

-- the lines of right steps
pub text_lines : (F : Cnf) (vars : ℕ) → vars ≤ log_top F → log_top F < 2 ^ 48 → (dict : Names) (given : List ℕ) → ((n : ℕ) → n ≤ length F.clauses → Contains given n)
    → (xs : List Step) (steps : List SharedStep) (bytes : List ℕ) (s : SharedLogState) → log_state F steps ≡ s → AreRightSteps vars given s.live s.last xs → IsSharedText F dict steps bytes
    → IsSharedText F dict (steps ++ map own xs) (bytes ++ text_of s.last xs)
text_lines F vars le few dict given all [] steps bytes s e right h =
    subst (λ (b : List ℕ). IsSharedText F dict (steps ++ []) b) (sym (append-nil bytes)) (subst (λ (l : List SharedStep). IsSharedText F dict l bytes) (sym (append-nil steps)) h)
text_lines F vars le few dict given all (x ∷ xs) steps bytes s e right h =
    let line = line_text s.last x in
    let p = own_spelled vars (log_top F) le few dict given s.live s.last x xs right in
    let fits = subst (λ (t : SharedLogState). IsSharedStep (length F.clauses) t (own x)) (sym e) (right_own vars (length F.clauses) given s x xs all right) in
    let one = text_more F dict steps bytes line (own x) h p.0 p.1 fits in
    let t : SharedLogState = record { live = after_step s.live x; last = top_after s.last x; clock = s.clock } in
    let is : log_state F (steps ++ own x ∷ []) ≡ t = state_push F steps (own x) ∙ ap (λ (y : SharedLogState). after_line y (own x)) e ∙ own_after s x in
    let rest = text_lines F vars le few dict given all xs (steps ++ own x ∷ []) (bytes ++ (line ++ 10 ∷ [])) t is right.2 one in
    subst (λ (b : List ℕ). IsSharedText F dict (steps ++ map own (x ∷ xs)) b) (append_assoc bytes (line ++ 10 ∷ []) (text_of t.last xs))
    (subst (λ (l : List SharedStep). IsSharedText F dict l ((bytes ++ (line ++ 10 ∷ [])) ++ text_of t.last xs)) (append_assoc steps (own x ∷ []) (map own xs)) rest)

-- ---- lines of an LRAT log
-- what is right of a log is right here
right_log : (m : ℕ) (s : SharedLogState) (x : Step) → IsLogStep m s.live s.last x → IsSharedStep m s (own x)
right_log m s (Add id lits hints groups) r = (r.0, r.2)
right_log m s (Delete ids) r = r

spelled_log : (m most : ℕ) (dict : Names) (M : ClauseMap) (top : ℕ) (line : List ℕ) (x : Step) → IsLogStep m M top x → SpellsStepWithin most line x → SpellsSharedStep most dict line (own x)
spelled_log m most dict M top line (Add id lits hints groups) r h = subst (λ (gs : List Group). SpellsStepWithin most line (Add id lits hints gs)) r.1 h
spelled_log m most dict M top line (Delete ids) r h = h

-- the text of a log is that of a log with imports
pub text_of_log : (F : Cnf) (dict : Names) (xs : List Step) (steps : List SharedStep) (bytes text : List ℕ) (s : SharedLogState) → log_state F steps ≡ s
    → AreLogSteps (length F.clauses) s.live s.last xs → LineSpellsWithin (log_top F) text xs → IsSharedText F dict steps bytes
    → IsSharedText F dict (steps ++ map own xs) (bytes ++ text)
text_of_log F dict [] steps bytes text s e right spelled h =
    subst (λ (b : List ℕ). IsSharedText F dict (steps ++ []) b) (sym (ap (λ (t : List ℕ). bytes ++ t) spelled ∙ append-nil bytes))
    (subst (λ (l : List SharedStep). IsSharedText F dict l bytes) (sym (append-nil steps)) h)
text_of_log F dict (x ∷ xs) steps bytes text s e right (line, rest, is, bare, one, more) h =
    let spells = spelled_log (length F.clauses) (log_top F) dict s.live s.last line x right.0 one in
    let fits = subst (λ (t : SharedLogState). IsSharedStep (length F.clauses) t (own x)) (sym e) (right_log (length F.clauses) s x right.0) in
    let first = text_more F dict steps bytes line (own x) h (open_of line bare) spells fits in
    let t : SharedLogState = record { live = after_step s.live x; last = top_after s.last x; clock = s.clock } in
    let after : log_state F (steps ++ own x ∷ []) ≡ t = state_push F steps (own x) ∙ ap (λ (y : SharedLogState). after_line y (own x)) e ∙ own_after s x in
    let all = text_of_log F dict xs (steps ++ own x ∷ []) (bytes ++ (line ++ 10 ∷ [])) rest t after right.1 more first in
    subst (λ (b : List ℕ). IsSharedText F dict (steps ++ map own (x ∷ xs)) b)
    (append_assoc bytes (line ++ 10 ∷ []) rest ∙ ap (λ (y : List ℕ). bytes ++ y) (append_assoc line (10 ∷ []) rest ∙ sym is))
    (subst (λ (l : List SharedStep). IsSharedText F dict l ((bytes ++ (line ++ 10 ∷ [])) ++ rest)) (append_assoc steps (own x ∷ []) (map own xs)) all)
