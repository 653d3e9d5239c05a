-- The history of a session after each call.
use Rattle.std.proofs.Common.{◌≡◌, ℕ, ◌+◌, ◌<◌, ◌≤◌, inl, inr, true, List, [], ◌∷◌, ◌++◌, map, length, cond, None, Ok, refl, sym, ◌∙◌, ap, subst, append_assoc, arith}
use Rattle.std.specs.FinMap.{get, insert, from_entries}
use Rattle.std.specs.List.{All, Contains}
use Rattle.std.proofs.lemmas.List.{append-nil}
use Rattle.std.proofs.lemmas.List.Elements.{All-contains, All-nil, All-push, All-weaker, Contains-append_left, Contains-append_right, Contains-push_cases}
use Rattle.dimacs.specs.logic.ClauseMap.{ClauseMap, live_in}
use Rattle.dimacs.specs.logic.Cnf.{Cnf}
use Rattle.dimacs.specs.logic.Limits.{AreNoMore, Limits, large}
use Rattle.dimacs.specs.logic.Literal.{Clause, IsWithin, has}
use Rattle.dimacs.specs.text.Words.{lines}
use Rattle.dimacs.proofs.Members.{Contains-has, Contains-head, Contains-nil}
use Rattle.lrat_text.specs.Grammar.{IsGroup}
use Rattle.lrat_text.specs.Log.{Cube}
use Rattle.lrat_text.specs.Proof as lrat
use Rattle.lrat_text.specs.Runs.{after_steps, text_of, top_of}
use Rattle.lrat_text.specs.declared.step.Step.{Step}
use Rattle.lrat_text.specs.declared.step.Step.TheVariants.{Add, Delete}
use Rattle.lrat_text.proofs.ClauseMapLemmas.{get_here, get_other}
use Rattle.cube_solve.proofs.DeletionLemmas.{map_less}
use Rattle.cube_solve.specs.Session.{AreGiven, IsRightAnswer, last_of, log_of, vars_of}
use Rattle.cube_solve.specs.SessionLog.{AreRightSteps, HasFailed, IsFailure, IsKnown, IsOver, LogGrows}
use Rattle.cube_solve.specs.declared.answer.Answer as cube
use Rattle.cube_solve.specs.declared.answer.Answer.TheVariants as answer
use Rattle.cube_solve.specs.declared.session.Session as search
use Rattle.sessions.specs.Answers.{Answer, Event, Given, Asked}
use Rattle.sessions.specs.Events.{clauses_of}
use Rattle.sessions.specs.Lines.{Asks, Gives}
use Rattle.sessions.specs.Texts.{Outcome, State, begun, behind, by_left, is_between, lines_top, session_within, stopped, text_from, pieces_from}
use Rattle.incremental.specs.SessionHistory.{IsAccepted, HasHistory, Told, last_in, literals_from, told_of, vars_in}
use Rattle.incremental.specs.declared.proved_session.Session.{Session}
use Rattle.incremental.specs.inner.LidrupLines.{ArePlain, AppendsLine, AppendsLines, line_said}
use Rattle.incremental.specs.inner.ReaderSteps.{WritesAnswer, IsShort, TakesReader}
use Rattle.incremental.proofs.LogLemmas.{plain_steps}
use Rattle.incremental.proofs.ModelLemmas.{all_by, model_holds}
use Rattle.incremental.proofs.ReaderStepLemmas.{closed, leads_asked, leads_core, leads_given, leads_model, leads_on, leads_unknown, log_leads, opened, reads_on, stepped}

-- a formula without a clause
pub no_clauses : (f : Cnf) (vars : ℕ) (done : List Clause) → f ≡ record { vars = vars; clauses = done } → done ≡ [] → f ≡ record { vars = vars; clauses = [] }
no_clauses f vars done e none = e ∙ ap (λ (cs : List Clause). let g : Cnf = record { vars = vars; clauses = cs } in g) none

-- ---- the clauses of events
pub clauses_given : (E : List Event) (C : Clause) → clauses_of (E ++ Given C ∷ []) ≡ clauses_of E ++ C ∷ []
clauses_given [] C = refl
clauses_given (Given D ∷ E) C = ap (λ (F : List Clause). D ∷ F) (clauses_given E C)
clauses_given (Asked A ∷ E) C = clauses_given E C

pub clauses_asked : (E : List Event) (A : Cube) → clauses_of (E ++ Asked A ∷ []) ≡ clauses_of E
clauses_asked [] A = refl
clauses_asked (Given D ∷ E) A = ap (λ (F : List Clause). D ∷ F) (clauses_asked E A)
clauses_asked (Asked B ∷ E) A = clauses_asked E A

-- why a core fails, if these clauses are live
abbrev FailsIn : ClauseMap → cube.Answer → Type 0
FailsIn M (answer.Satisfied values) = Unit {0}
FailsIn M (answer.Failed failure) = IsFailure M failure.core.items failure.hints.items
FailsIn M answer.Unknown = Unit {0}

fails_in : {P : Type 0} (a : cube.Answer) (s : search.Session P) → HasFailed a s → (given : List ℕ) (M : ClauseMap) → IsKnown given M s → FailsIn M a
fails_in (answer.Satisfied values) s h given M k = tt
fails_in (answer.Failed failure) s h given M k = h given M k
fails_in answer.Unknown s h given M k = tt

-- ---- the limits of lines
pub vars_in_lines : (L : Limits) (vars : ℕ) → vars ≤ L.vars → vars ≤ lines_top L
vars_in_lines L vars few = omega arith

pub lines_low : (L : Limits) → AreNoMore L large → lines_top L ≤ 199999999
lines_low L valid = let v = valid.0 in omega arith

-- a reader that is between queries, and comes to the end
ended : (s : State) (n : ℕ) → is_between s.stage ≡ true → text_from s n [] (lines []) ≡ record { answers = []; fault = None }
unfolding text_from pieces_from
ended s n h = ap (λ b. cond b (by_left n []) (stopped n 22 0)) h

module _ {P : Type 0} {L : Limits} where
  pub accepted : (E : List Event) (told : Told) (text : List ℕ) (s : Session P) → HasHistory L E told text s → IsAccepted L E told (text ++ s.out.items)
  accepted E told text s h =
      ap (λ (D : List Event). session_within L D (text ++ s.out.items)) (sym (append-nil E)) ∙ ap (λ (x : List ℕ). session_within L (E ++ []) (text ++ x)) (sym (append-nil s.out.items))
      ∙ h.reads [] [] ∙ ap (behind told) (ended h.reader h.line h.between) ∙ ap (λ (x : List Answer). let r : Outcome = record { answers = x; fault = None } in r) (append-nil told)

  pub begins : (s : Session P) → AreNoMore L large → vars_in s ≤ L.vars → AreGiven [] s.search → log_of s.search ≡ [] → last_in s ≡ 0 → IsKnown [] (from_entries []) s.search → s.out.items ≡ [] → HasHistory L [] [] [] s
  begins s valid few given log last known out = record {
    valid = valid;
    few = few;
    given = given;
    within = All-nil (All (IsWithin (vars_in s)));
    told_all = log;
    reader = begun L;
    limits = refl;
    line = 1;
    between = refl;
    last = sym last;
    known = known;
    named = λ n i. absurd (Contains-nil n i);
    reads = λ D more. ap (λ (x : List ℕ). session_within L D (x ++ more)) out;
  }

  pub forgotten : (E : List Event) (told : Told) (text : List ℕ) (s u : Session P) → u.search ≡ s.search → u.out.items ≡ [] → HasHistory L E told text s → HasHistory L E told (text ++ s.out.items) u
  forgotten E told text s u same out h = record {
    valid = h.valid;
    few = subst (λ (x : search.Session P). vars_of x ≤ L.vars) (sym same) h.few;
    given = subst (λ (x : search.Session P). AreGiven (clauses_of E) x) (sym same) h.given;
    within = subst (λ (x : search.Session P). All (All (IsWithin (vars_of x))) (clauses_of E)) (sym same) h.within;
    told_all = ap (λ (x : search.Session P). log_of x) same ∙ h.told_all;
    reader = h.reader;
    limits = h.limits;
    line = h.line;
    between = h.between;
    last = h.last ∙ ap (λ (x : search.Session P). last_of x) (sym same);
    known = subst (λ (x : search.Session P). IsKnown (h.reader).given (h.reader).live x) (sym same) h.known;
    named = h.named;
    reads = λ D more. ap (λ (x : List ℕ). session_within L (E ++ D) ((text ++ s.out.items) ++ (x ++ more))) out ∙ ap (session_within L (E ++ D)) (append_assoc text s.out.items more) ∙ h.reads D more;
  }

  pub stands_given : (E : List Event) (told : Told) (text : List ℕ) (C : Clause) (s u : Session P) → vars_in u ≡ vars_in s → last_in u ≡ last_in s + 1 → log_of u.search ≡ log_of s.search
      → All (IsWithin (vars_in s)) C → ((F : List Clause) → AreGiven F s.search → AreGiven (F ++ C ∷ []) u.search)
      → ((given : List ℕ) (M : ClauseMap) → IsKnown given M s.search → IsKnown (given ++ last_in u ∷ []) (insert M (last_in u) C) u.search)
      → AppendsLine (lines_top L) (Ok (Gives (last_in u) C)) s.out.items u.out.items → HasHistory L E told text s → HasHistory L (E ++ Given C ∷ []) told text u
  stands_given E told text C s u vars next log within gives knows put h =
      let r = h.reader in
      let id = last_in u in
      let F = clauses_of E in
      let less : r.last < id = (let e = h.last in omega arith) in
      let lead = leads_given r id C h.line s.out.items u.out.items h.between less (subst (λ (M : Limits). AppendsLine (lines_top M) (Ok (Gives id C)) s.out.items u.out.items) (sym h.limits) put) in
      record {
        valid = h.valid;
        few = subst (λ v. v ≤ L.vars) (sym vars) h.few;
        given = subst (λ (G : List Clause). AreGiven G u.search) (sym (clauses_given E C)) (gives F h.given);
        within = subst (λ (G : List Clause). All (All (IsWithin (vars_in u))) G) (sym (clauses_given E C))
            (subst (λ v. All (All (IsWithin v)) (F ++ C ∷ [])) (sym vars) (All-push (All (IsWithin (vars_in s))) F C h.within within));
        told_all = log ∙ h.told_all;
        reader = record r { given = r.given ++ id ∷ []; live = insert r.live id C; last = id };
        limits = h.limits;
        line = h.line + 1;
        between = h.between;
        last = refl;
        known = knows r.given r.live h.known;
        named = λ n i.
            let more : (D : Clause) → Contains F D → Contains (clauses_of (E ++ Given C ∷ [])) D = λ D j. subst (λ (G : List Clause). Contains G D) (sym (clauses_given E C)) (Contains-append_left F (C ∷ []) D j) in
            elim (Contains-push_cases r.given id n i) [
              | inl j ↦
                  let c = h.named n j in
                  let b = (h.known).before n j in
                  (c.0, get_other r.live id n C (λ e. let a = h.last in omega arith) ∙ c.1, more c.0 c.2)
              | inr e ↦ (C, ap (get (insert r.live id C)) (sym e) ∙ get_here r.live id C, subst (λ (G : List Clause). Contains G C) (sym (clauses_given E C)) (Contains-append_right F (C ∷ []) C (Contains-head C [])))
            ];
        reads = λ D more.
            let t : State = record r { given = r.given ++ id ∷ []; live = insert r.live id C; last = id } in
            reads_on L E (Given C ∷ []) told [] text r t h.line (h.line + 1) s.out.items u.out.items lead h.reads D more ∙ ap (λ (x : List Answer). behind x (text_from t (h.line + 1) D (lines more))) (append-nil told);
      }

-- ---- a query
-- what was given stays live
stays : (most : ℕ) (given : List ℕ) (M : ClauseMap) (top : ℕ) (steps : List Step) → AreRightSteps most given M top steps → (n : ℕ) → Contains given n → n ≤ top → (C : Clause) → live_in M n C → live_in (after_steps M steps) n C
stays most given M top [] h n i low C l = l
stays most given M top (Add id lits hints groups ∷ steps) h n i low C l =
    let next = (h.1).0 in
    stays most given (insert M id lits) id steps h.2 n i (omega arith) C (get_other M id n lits (λ e. omega arith) ∙ l)
stays most given M top (Delete ids ∷ steps) h n i low C l =
    stays most given (lrat.without M ids) top steps h.2 n i low C ((map_less M ids).stays n C l (λ j. All-contains (λ id. ¬ (Contains given id)) ids n (h.1).1 j i))

module _ (r : State) (A : Cube) (steps : List Step) (n : ℕ) (old new : List ℕ) (F : List Clause) (vars : ℕ)
    (few : All (All (IsWithin vars)) F) (short : All (IsWithin vars) A)
    (named : (k : ℕ) → Contains r.given k → (C : Clause) × live_in (after_steps r.live steps) k C × Contains F C) where
  abbrev here : State
  here = stepped (opened r A) steps

  -- the lines that close it
  closing : (a : cube.Answer) → WritesAnswer (lines_top r.limits) a old new → IsRightAnswer vars F A a → ((core : cube.Answer) → core ≡ a → FailsIn (after_steps r.live steps) core)
      → (m : ℕ) × TakesReader [] (told_of a ∷ []) here (closed here) n m old new
  closing (answer.Satisfied values) c right fails = (n + 2, leads_model r A steps n old c.0 new (literals_from 1 values) c.1 c.2 (model_holds here F A vars values right few short refl named))
  closing (answer.Failed failure) c right fails = (
    n + 2,
    leads_core r A steps n old c.0 new failure.core.items failure.hints.items c.1 c.2 (fails (answer.Failed failure) refl) (all_by (has A) failure.core.items (λ l i. Contains-has A l (right.within l i))),
  )
  closing answer.Unknown c right fails = (n + 1, leads_unknown r A steps n old old new c)

module _ {P : Type 0} {L : Limits} (E : List Event) (told : Told) (text : List ℕ) (A : Cube) (a : cube.Answer) (s u : Session P) (mid : search.Session P) (first second log : List ℕ) where
  pub stands_answered : All (IsWithin (vars_in s)) A → vars_in u ≡ vars_in s → ((F : List Clause) → AreGiven F s.search → AreGiven F u.search) → log_of u.search ≡ [] → last_in u ≡ last_of mid
      → AppendsLine (lines_top L) (Ok (Asks A)) s.out.items first → LogGrows s.search mid → ((given : List ℕ) (M : ClauseMap) → IsKnown given M mid → IsKnown given M u.search) → log ≡ log_of mid
      → ((top : ℕ) (steps : List Step) → log ≡ text_of top steps → ArePlain (lines_top L) top steps → AppendsLines (lines_top L) (map line_said steps) first second) → WritesAnswer (lines_top L) a second u.out.items
      → ((F : List Clause) → AreGiven F s.search → IsRightAnswer (vars_in s) F A a) → HasFailed a mid → HasHistory L E told text s → HasHistory L (E ++ Asked A ∷ []) (told ++ told_of a ∷ []) text u
  stands_answered short vars gives none last asks tells knows is puts closes right failed h =
      let r = h.reader in
      let F = clauses_of E in
      let t = tells r.given r.live h.known in
      let steps = t.steps in
      let rights : AreRightSteps (vars_in s) r.given r.live r.last steps = subst (λ k. AreRightSteps (vars_in s) r.given r.live k steps) (sym h.last) t.right in
      let spelled : log ≡ text_of (last_of s.search) steps = is ∙ t.text ∙ ap (λ (x : List ℕ). x ++ text_of (last_of s.search) steps) h.told_all in
      let all = puts (last_of s.search) steps spelled (plain_steps (vars_in s) (lines_top L) (vars_in_lines L (vars_in s) h.few) r.given r.live (last_of s.search) steps t.right) in
      let o = opened r A in
      let named : (k : ℕ) → Contains r.given k → (C : Clause) × live_in (after_steps r.live steps) k C × Contains F C =
      λ k i. let c = h.named k i in (c.0, stays (vars_in s) r.given r.live r.last steps rights k i (let b = (h.known).before k i in let e = h.last in omega arith) c.0 c.1, c.2) in
      let n = h.line in
      let k = (n + 1) + length steps in
      let c = closing r A steps k second u.out.items F (vars_in s) h.within short named a (subst (λ (M : Limits). WritesAnswer (lines_top M) a second u.out.items) (sym h.limits) closes) (right F h.given) (λ core e. subst (FailsIn (after_steps r.live steps)) (sym e) (fails_in a mid failed r.given (after_steps r.live steps) t.known)) in
      let lead = leads_on (Asked A ∷ []) [] [] (told_of a ∷ []) r o (closed (stepped o steps)) n (n + 1) c.0 s.out.items first u.out.items (leads_asked r A n s.out.items first h.between (subst (λ (M : Limits). AppendsLine (lines_top M) (Ok (Asks A)) s.out.items first) (sym h.limits) asks))
      (leads_on [] [] [] (told_of a ∷ []) o (stepped o steps) (closed (stepped o steps)) (n + 1) k c.0 first second u.out.items (log_leads (vars_in s) o steps (n + 1) first second rights (subst (λ (M : Limits). AppendsLines (lines_top M) (map line_said steps) first second) (sym h.limits) all)) c.1) in
      record {
        valid = h.valid;
        few = subst (λ v. v ≤ L.vars) (sym vars) h.few;
        given = subst (λ (G : List Clause). AreGiven G u.search) (sym (clauses_asked E A)) (gives F h.given);
        within = subst (λ (G : List Clause). All (All (IsWithin (vars_in u))) G) (sym (clauses_asked E A)) (subst (λ v. All (All (IsWithin v)) F) (sym vars) h.within);
        told_all = none;
        reader = closed (stepped o steps);
        limits = h.limits;
        line = c.0;
        between = refl;
        last = ap (λ x. top_of x steps) h.last ∙ sym t.last ∙ sym last;
        known = knows r.given (after_steps r.live steps) t.known;
        named = λ j i. let d = named j i in (d.0, d.1, subst (λ (G : List Clause). Contains G d.0) (sym (clauses_asked E A)) d.2);
        reads = reads_on L E (Asked A ∷ []) told (told_of a ∷ []) text r (closed (stepped o steps)) n c.0 s.out.items u.out.items lead h.reads;
      }

-- what the lines of an answer name is within their limits
pub short : {P : Type 0} (most : ℕ) (s : Session P) (a : cube.Answer) → vars_in s ≤ most → IsOver (vars_in s) a → IsShort most a
short most s (answer.Satisfied values) few h = omega arith
short most s (answer.Failed failure) few h = ((omega arith, omega arith), All-weaker (IsWithin (vars_in s)) (IsWithin most) (λ l w. (w.0, (let u = w.1 in omega arith))) failure.core.items h.0, h.1, All-nil IsGroup)
short most s answer.Unknown few h = tt

-- the same over more variables
module _ {P : Type 0} {L : Limits} (s u : Session P) (x : search.Session P) (out : List ℕ) (is : x ≡ s.search) (bytes : out ≡ s.out.items) (same : u.out.items ≡ out) (vars : vars_in s ≤ vars_in u) (last : last_in u ≡ last_of x) (log : log_of u.search ≡ log_of x)
    (gives : (F : List Clause) → AreGiven F x → AreGiven F u.search) (knows : (given : List ℕ) (M : ClauseMap) → IsKnown given M x → IsKnown given M u.search) where
  pub stands_grown : (E : List Event) (told : Told) (text : List ℕ) → vars_in u ≤ L.vars → HasHistory L E told text s → HasHistory L E told text u
  stands_grown E told text few h = record {
    valid = h.valid;
    few = few;
    given = gives (clauses_of E) (subst (λ (y : search.Session P). AreGiven (clauses_of E) y) (sym is) h.given);
    within = All-weaker (All (IsWithin (vars_in s))) (All (IsWithin (vars_in u)))
        (λ C w. All-weaker (IsWithin (vars_in s)) (IsWithin (vars_in u)) (λ l v. (v.0, (let a = v.1 in omega arith))) C w) (clauses_of E) h.within;
    told_all = log ∙ ap (λ (y : search.Session P). log_of y) is ∙ h.told_all;
    reader = h.reader;
    limits = h.limits;
    line = h.line;
    between = h.between;
    last = h.last ∙ sym (ap (λ (y : search.Session P). last_of y) is) ∙ sym last;
    known = knows (h.reader).given (h.reader).live (subst (λ (y : search.Session P). IsKnown (h.reader).given (h.reader).live y) (sym is) h.known);
    named = h.named;
    reads = λ D more. ap (λ (t : List ℕ). session_within L (E ++ D) (text ++ (t ++ more))) (same ∙ bytes) ∙ h.reads D more;
  }
