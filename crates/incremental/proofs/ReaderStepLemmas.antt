-- Steps of a reader of a session's text, line by line.
use Rattle.std.proofs.Common.{◌≡◌, ℕ, ◌+◌, ◌<◌, inl, inr, Bool, true, false, not, List, [], ◌∷◌, ◌++◌, map, length, codes, Option, Some, None, Ok, cond, refl, sym, ◌∙◌, ap, subst, append_assoc, arith}
use Rattle.std.specs.Prelude.{nat_eq, nat_le}
use Rattle.std.specs.List.{All, Contains, list_all, list_any}
use Rattle.std.specs.FinMap.{remove}
use Rattle.std.proofs.lemmas.Bool.{cases_Bool, lt-leb}
use Rattle.std.proofs.lemmas.List.{append-nil}
use Rattle.std.proofs.lemmas.List.Elements.{All-head, All-tail}
use Rattle.dimacs.specs.logic.ClauseMap.{ClauseMap, live_in}
use Rattle.dimacs.specs.logic.Limits.{Limits, written}
use Rattle.dimacs.specs.logic.Literal.{Literal, Clause, has, negation}
use Rattle.dimacs.specs.logic.Propagation.{Rup}
use Rattle.dimacs.specs.text.Words.{lines}
use Rattle.lrat_check.specs.StepFaults.{is_tautology, removed}
use Rattle.lrat_check.specs.Logs.{log_lemma_fault}
use Rattle.lrat_check.proofs.Logs.{none_from_rup}
use Rattle.lrat_check.proofs.Pairs.{pair_tautology}
use Rattle.lrat_check.proofs.Taken.{removed-without}
use Rattle.lrat_text.specs.Lines.{IsOpen}
use Rattle.lrat_text.specs.Log.{Cube}
use Rattle.lrat_text.specs.Proof as lrat
use Rattle.lrat_text.specs.Runs.{after_steps, top_of}
use Rattle.lrat_text.specs.declared.step.Step.{Step}
use Rattle.lrat_text.specs.declared.step.Step.TheVariants.{Add, Delete}
use Rattle.cube_solve.proofs.DeletionLemmas.{from_any}
use Rattle.cube_solve.specs.SessionLog.{AreRightSteps, IsFailure}
use Rattle.sessions.specs.Answers.{Answer, Event, Given, Asked, Satisfied, Failed}
use Rattle.sessions.specs.Lines.{Asks, Deletes, Fails, Gives, Learns, Read, Shows, line_within}
use Rattle.sessions.specs.Texts.{Awaits, Goes, Faulty, State, Taken, asks, begun, behind, by_fault, core_fault, going_on, gives, is_between, is_event, is_model, lines_top, listed, session_within, take_line, take_read, text_from, with_clause, without}
use Rattle.sessions.proofs.EventLemmas.{is_clause-Decides}
use Rattle.sessions.proofs.TextLemmas.{behind_behind, text_line}
use Rattle.incremental.specs.inner.LidrupLines.{AppendsLine, AppendsLines, line_said}
use Rattle.incremental.specs.inner.ReaderSteps.{TakesReader}

-- ---- one line
line_reads : (a : State) (n : ℕ) (F : List Event) (line more : List ℕ) → IsOpen line
    → text_from a n F (lines ((line ++ 10 ∷ []) ++ more)) ≡ going_on (take_read a (line_within (lines_top a.limits) line)) n F (λ t D. text_from t (n + 1) D (lines more))
line_reads a n F line more bare = ap (λ (xs : List ℕ). text_from a n F (lines xs)) (append_assoc line (10 ∷ []) more) ∙ text_line a n F line more bare

pub leads_goes : (r : Read) (answer : Option Answer) (a b : State) (n : ℕ) (old new : List ℕ) → AppendsLine (lines_top a.limits) r old new → take_read a r ≡ Goes answer b → TakesReader [] (listed answer) a b n (n + 1) old new
leads_goes r answer a b n old new p e = record {
  bytes = p.line ++ 10 ∷ [];
  text = p.text;
  reads = λ D more. line_reads a n D p.line more p.bare ∙ ap (λ (x : Taken). going_on x n D (λ t F. text_from t (n + 1) F (lines more))) (ap (take_read a) p.read ∙ e);
}

event_itself : (e : Event) → is_event e e ≡ true
event_itself (Given C) = (is_clause-Decides C C).1 refl
event_itself (Asked A) = (is_clause-Decides A A).1 refl

pub leads_awaits : (r : Read) (e : Event) (a b : State) (n : ℕ) (old new : List ℕ) → AppendsLine (lines_top a.limits) r old new → take_read a r ≡ Awaits e b → TakesReader (e ∷ []) [] a b n (n + 1) old new
leads_awaits r e a b n old new p is = record {
  bytes = p.line ++ 10 ∷ [];
  text = p.text;
  reads = λ D more.
      let later : State → List Event → Rattle.sessions.specs.Texts.Outcome = λ t F. text_from t (n + 1) F (lines more) in
      line_reads a n (e ∷ D) p.line more p.bare ∙ ap (λ (x : Taken). going_on x n (e ∷ D) later) (ap (take_read a) p.read ∙ is)
      ∙ ap (λ x. cond x (later b D) (Rattle.sessions.specs.Texts.stopped n 18 0)) (event_itself e);
}

-- ---- one after the other
pub leads_none : (a : State) (n : ℕ) (old : List ℕ) → TakesReader [] [] a a n n old old
leads_none a n old = record { bytes = []; text = sym (append-nil old); reads = λ D more. refl }

pub leads_on : (E F : List Event) (x y : List Answer) (a b c : State) (n m k : ℕ) (old mid new : List ℕ) → TakesReader E x a b n m old mid → TakesReader F y b c m k mid new → TakesReader (E ++ F) (x ++ y) a c n k old new
leads_on E F x y a b c n m k old mid new f g = record {
  bytes = f.bytes ++ g.bytes;
  text = g.text ∙ ap (λ (t : List ℕ). t ++ g.bytes) f.text ∙ append_assoc old f.bytes g.bytes;
  reads = λ D more.
      ap (λ (t : List ℕ). text_from a n ((E ++ F) ++ D) (lines t)) (append_assoc f.bytes g.bytes more)
      ∙ ap (λ (G : List Event). text_from a n G (lines (f.bytes ++ (g.bytes ++ more)))) (append_assoc E F D)
      ∙ f.reads (F ++ D) (g.bytes ++ more) ∙ ap (behind x) (g.reads D more) ∙ behind_behind x y (text_from c k D (lines more));
}

-- a text that has been read so far
pub reads_on : (L : Limits) (E F : List Event) (x y : List Answer) (text : List ℕ) (a b : State) (n m : ℕ) (old new : List ℕ) → TakesReader F y a b n m old new
    → ((D : List Event) (more : List ℕ) → session_within L (E ++ D) (text ++ (old ++ more)) ≡ behind x (text_from a n D (lines more)))
    → (D : List Event) (more : List ℕ) → session_within L ((E ++ F) ++ D) (text ++ (new ++ more)) ≡ behind (x ++ y) (text_from b m D (lines more))
reads_on L E F x y text a b n m old new f h D more =
    ap (λ (G : List Event). session_within L G (text ++ (new ++ more))) (append_assoc E F D)
    ∙ ap (λ (t : List ℕ). session_within L (E ++ (F ++ D)) (text ++ t)) (ap (λ (t : List ℕ). t ++ more) f.text ∙ append_assoc old f.bytes more)
    ∙ h (F ++ D) (f.bytes ++ more) ∙ ap (behind x) (f.reads D more) ∙ behind_behind x y (text_from b m D (lines more))

-- ---- events
pub leads_given : (s : State) (id : ℕ) (C : Clause) (n : ℕ) (old new : List ℕ) → is_between s.stage ≡ true → s.last < id → AppendsLine (lines_top s.limits) (Ok (Gives id C)) old new
    → TakesReader (Given C ∷ []) [] s (record (with_clause s id C) { given = s.given ++ id ∷ [] }) n (n + 1) old new
leads_given s id C n old new between less p =
    let t : State = record (with_clause s id C) { given = s.given ++ id ∷ [] } in
    leads_awaits (Ok (Gives id C)) (Given C) s t n old new p
    (ap (λ b. cond (not b) (Faulty 19 0) (cond (nat_le id s.last) (Faulty 2 0) (Awaits (Given C) t))) between ∙ ap (λ b. cond b (Faulty 2 0) (Awaits (Given C) t)) (lt-leb id s.last less))

abbrev pub then_of : Taken → State
then_of (Goes answer t) = t
then_of (Awaits e t) = t
then_of (Faulty number text) = begun written

-- a query is open
abbrev pub opened : State → Cube → State
opened s A = then_of (asks (record s { stage = (begun s.limits).stage }) A)

pub leads_asked : (s : State) (A : Cube) (n : ℕ) (old new : List ℕ) → is_between s.stage ≡ true → AppendsLine (lines_top s.limits) (Ok (Asks A)) old new → TakesReader (Asked A ∷ []) [] s (opened s A) n (n + 1) old new
leads_asked s A n old new between p = leads_awaits (Ok (Asks A)) (Asked A) s (opened s A) n old new p (ap (λ b. cond (not b) (Faulty 19 0) (Awaits (Asked A) (opened s A))) between)

-- ---- the lines of a log
abbrev pub stepped : State → List Step → State
stepped s steps = record s { live = after_steps s.live steps; last = top_of s.last steps }

no_fault : (M : ClauseMap) (C : Clause) (hints : List ℕ) → Rup (live_in M) C hints → log_lemma_fault M C hints [] ≡ None
no_fault M C hints rup = none_from_rup M 0 1 C hints [] refl refl rup

lemma_goes : (s : State) (id : ℕ) (C : Clause) (hints : List ℕ) → s.last < id → Rup (live_in s.live) C hints → take_line s (Learns id C hints) ≡ Goes None (with_clause s id C)
lemma_goes s id C hints less rup =
    ap (λ b. cond b (Faulty 2 0) (by_fault (log_lemma_fault s.live C hints []) (Goes None (with_clause s id C)))) (lt-leb id s.last less)
    ∙ ap (λ f. by_fault f (Goes None (with_clause s id C))) (no_fault s.live C hints rup)

not_any : (given : List ℕ) (id : ℕ) → ¬ (Contains given id) → list_any (nat_eq id) given ≡ false
not_any given id out = elim (cases_Bool (list_any (nat_eq id) given)) [ inl t ↦ absurd (out (from_any given id t)) | inr f ↦ f ]

without_given : (given : List ℕ) (M : ClauseMap) (ids : List ℕ) → All (λ id. ¬ (Contains given id)) ids → without given M ids ≡ removed M ids
without_given given M [] h = refl
without_given given M (id ∷ ids) h =
    ap (λ b. without given (cond b M (remove M id)) ids) (not_any given id (All-head (λ k. ¬ (Contains given k)) id ids h)) ∙ without_given given (remove M id) ids (All-tail (λ k. ¬ (Contains given k)) id ids h)

pub log_leads : (vars : ℕ) (s : State) (steps : List Step) (n : ℕ) (old new : List ℕ) → AreRightSteps vars s.given s.live s.last steps → AppendsLines (lines_top s.limits) (map line_said steps) old new
    → TakesReader [] [] s (stepped s steps) n (n + length steps) old new
log_leads vars s [] n old new h e = subst (λ (x : List ℕ). TakesReader [] [] s s n (n + 0) old x) (sym e) (subst (λ k. TakesReader [] [] s s n k old old) (omega arith) (leads_none s n old))
log_leads vars s (Add id lits hints groups ∷ steps) n old new h p =
    let t = with_clause s id lits in
    let r = h.1 in
    let first = leads_goes (Ok (Learns id lits hints)) None s t n old p.0 p.1 (lemma_goes s id lits hints (let e = r.0 in omega arith) r.2) in
    let rest = log_leads vars t steps (n + 1) p.0 new h.2 p.2 in
    subst (λ k. TakesReader [] [] s (stepped t steps) n k old new) (omega arith) (leads_on [] [] [] [] s t (stepped t steps) n (n + 1) ((n + 1) + length steps) old p.0 new first rest)
log_leads vars s (Delete ids ∷ steps) n old new h p =
    let t : State = record s { live = lrat.without s.live ids } in
    let is : without s.given s.live ids ≡ lrat.without s.live ids = without_given s.given s.live ids (h.1).1 ∙ removed-without s.live ids in
    let first = leads_goes (Ok (Deletes ids)) None s t n old p.0 p.1 (ap (λ (M : ClauseMap). Goes None (record s { live = M })) is) in
    let rest = log_leads vars t steps (n + 1) p.0 new h.2 p.2 in
    subst (λ k. TakesReader [] [] s (stepped t steps) n k old new) (omega arith) (leads_on [] [] [] [] s t (stepped t steps) n (n + 1) ((n + 1) + length steps) old p.0 new first rest)

-- ---- what closes a query
abbrev pub closed : State → State
closed s = record s { stage = (begun s.limits).stage }

module _ (s : State) (A : Cube) (steps : List Step) (n : ℕ) (old mid new : List ℕ) where
  abbrev here : State
  here = stepped (opened s A) steps

  pub leads_model : (model : List Literal) → AppendsLine (lines_top s.limits) (line_within (lines_top s.limits) (codes "s SATISFIABLE")) old mid → AppendsLine (lines_top s.limits) (Ok (Shows model)) mid new → is_model here model ≡ true
      → TakesReader [] (Satisfied model ∷ []) here (closed here) n (n + 2) old new
  leads_model model p q holds =
      let said = then_of (take_read here (line_within (lines_top s.limits) (codes "s SATISFIABLE"))) in
      let first = leads_goes (line_within (lines_top s.limits) (codes "s SATISFIABLE")) None here said n old mid p refl in
      let second = leads_goes (Ok (Shows model)) (Some (Satisfied model)) said (closed here) (n + 1) mid new q (ap (λ b. cond b (Goes (Some (Satisfied model)) (closed here)) (Faulty 20 0)) holds) in
      subst (λ k. TakesReader [] (Satisfied model ∷ []) here (closed here) n k old new) (omega arith) (leads_on [] [] [] (Satisfied model ∷ []) here said (closed here) n (n + 1) ((n + 1) + 1) old mid new first second)

  core_none : (M : ClauseMap) (core : List Literal) (hints : List ℕ) → IsFailure M core hints → core_fault M core hints ≡ None
  core_none M core hints f = elim f [
    | inl t ↦ ap (λ b. cond b None (log_lemma_fault M (map negation core) hints [])) (pair_tautology core t)
    | inr r ↦ either (is_tautology core) (no_fault M (map negation core) hints r)
  ]
    where
      either : (b : Bool) → log_lemma_fault M (map negation core) hints [] ≡ None → cond b None (log_lemma_fault M (map negation core) hints []) ≡ None
      either true e = refl
      either false e = e

  pub leads_core : (core : List Literal) (hints : List ℕ) → AppendsLine (lines_top s.limits) (line_within (lines_top s.limits) (codes "s UNSATISFIABLE")) old mid → AppendsLine (lines_top s.limits) (Ok (Fails core hints)) mid new
      → IsFailure here.live core hints → list_all (has A) core ≡ true → TakesReader [] (Failed core ∷ []) here (closed here) n (n + 2) old new
  leads_core core hints p q fails within =
      let said = then_of (take_read here (line_within (lines_top s.limits) (codes "s UNSATISFIABLE"))) in
      let first = leads_goes (line_within (lines_top s.limits) (codes "s UNSATISFIABLE")) None here said n old mid p refl in
      let second = leads_goes (Ok (Fails core hints)) (Some (Failed core)) said (closed here) (n + 1) mid new q
      (ap (λ f. by_fault f (cond (list_all (has A) core) (Goes (Some (Failed core)) (closed here)) (Faulty 21 0))) (core_none here.live core hints fails)
      ∙ ap (λ b. cond b (Goes (Some (Failed core)) (closed here)) (Faulty 21 0)) within) in
      subst (λ k. TakesReader [] (Failed core ∷ []) here (closed here) n k old new) (omega arith) (leads_on [] [] [] (Failed core ∷ []) here said (closed here) n (n + 1) ((n + 1) + 1) old mid new first second)

  pub leads_unknown : AppendsLine (lines_top s.limits) (line_within (lines_top s.limits) (codes "s UNKNOWN")) old new → TakesReader [] (Rattle.sessions.specs.Answers.Unknown ∷ []) here (closed here) n (n + 1) old new
  leads_unknown p = leads_goes (line_within (lines_top s.limits) (codes "s UNKNOWN")) (Some Rattle.sessions.specs.Answers.Unknown) here (closed here) n old new p refl
