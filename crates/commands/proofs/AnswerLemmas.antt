-- A query that is answered, a clause that is given: what is so after each, and where nobody reads any more.
use Rattle.std.proofs.Common.{◌≡◌, ◌⊎◌, inl, inr, ℕ, ◌+◌, ◌≤◌, Bool, true, false, List, [], ◌∷◌, ◌++◌, Option, Some, None, Result, Ok, Err, OnErr, All, refl, sym, ◌∙◌, ap, subst, append-nil, arith}
use Rattle.std.specs.Prelude.{IsTrue}
use Rattle.cube_solve.specs.Session.{IfUnknown, IsRightAnswer}
use Rattle.cube_solve.specs.declared.answer.Answer.{Answer}
use Rattle.cube_solve.specs.declared.answer.Answer.TheVariants as answer
use Rattle.dimacs.specs.logic.Limits.{Limits}
use Rattle.dimacs.specs.logic.Cnf.{AreWithin}
use Rattle.dimacs.specs.logic.Literal.{Clause, Literal, IsWithin}
use Rattle.sessions.specs.Answers.{Event, Given, Asked}
use Rattle.sessions.specs.Events.{clauses_of}
use Rattle.sessions.specs.Heard.{greatest}
use Rattle.sessions.specs.Rows.{event_of}
use Rattle.sessions.specs.declared.event_lines.Sent.{Sent}
use Rattle.sessions.specs.declared.event_lines.Sent.TheVariants as sent
use Rattle.incremental.specs.SessionHistory.{IsAccepted, HasHistory, Told, last_in, told_of, vars_in}
use Rattle.incremental.specs.declared.proved_session.Session.{Session}
use Rattle.commands.specs.SessionLines.{answer_text, cut, status_of}
use Rattle.commands.specs.SessionMoments.{GivesUp, IsAnswered, IsCutShort, Moment, last_proof, moment, told_all}
use Rattle.commands.specs.declared.session_loop.Asking.{Asking}
use Rattle.commands.specs.declared.session_loop.Run.{Run}
use Rattle.commands.specs.inner.SessionLoop.{HasWritten, IsHandedOut, IsLeftOf, GoesOnOrIsUnheard, IsRunning}
use Rattle.commands.specs.inner.EventSource.{HasHeard, Hears}
use Rattle.commands.proofs.AnsweringLemmas.{gives_up, left_so, left_with, running_clause, running_query}
use Rattle.commands.proofs.CutLemmas.{clauses_up_to, right_cut}
use Rattle.commands.proofs.SessionLemmas.{last_proof_is}

pub on_err : {T E : Type 0} (P : Type 0) (r : Result T E) → P → OnErr r P
on_err P (Ok x) h = tt
on_err P (Err e) h = h

pub left_as : (all : Option (List ℕ)) (has : List ℕ → List Moment → Type 0) (o p : Asking) → o ≡ p → IsLeftOf all has o → IsLeftOf all has p
left_as all has o p e h =
    let P : Asking → Type 0 = λ a. IsLeftOf all has a in
    subst P e h

-- a query adds no clause
clauses_before : (E : List Event) (A : List Literal) → clauses_of (E ++ Asked A ∷ []) ≡ clauses_of E
clauses_before [] A = refl
clauses_before (Given C ∷ E) A = ap (λ (F : List Clause). C ∷ F) (clauses_before E A)
clauses_before (Asked B ∷ E) A = clauses_before E A

-- a query is given up after as many lemmas as the limit allows
limited : {P : Type 0} (L : Limits) (a : Answer) (limit : ℕ) (E : List Event) (A : List Literal) (told : Told) (text more : List ℕ) (s t : Session P) → HasHistory L E told text s → HasHistory L (E ++ Asked A ∷ []) (told ++ told_of a ∷ []) text t
    → t.out.items ≡ s.out.items ++ more → IfUnknown a (last_in t ≡ last_in s + limit) → IfUnknown a (GivesUp L limit E A told (text ++ t.out.items))
limited L (answer.Satisfied values) limit E A told text more s t h k grows last = tt
limited L (answer.Failed failure) limit E A told text more s t h k grows last = tt
limited L answer.Unknown limit E A told text more s t h k grows last = gives_up L limit E A told text more s t h k grows last

-- what is printed stands alone in the text
pub printed_is : (text items old : List ℕ) (witness : Bool) (vars n : ℕ) (a : Answer) → text ≡ items → items ≡ old ++ answer_text witness (cut vars a) → old ≡ [] → vars ≡ n → text ≡ answer_text witness (cut n a)
printed_is text items old witness vars n a e put empty v =
    e ∙ put ∙ ap (λ (xs : List ℕ). xs ++ answer_text witness (cut vars a)) empty ∙ ap (λ (m : ℕ). answer_text witness (cut m a)) v

module _ {B P : Type 0} (all : Option (List ℕ)) (remaining : B → Option (List ℕ)) where
  -- an answer that is right over all variables of a session is right, as it is told, over those of the events
  is_answered : (has : List ℕ → List Moment → Type 0) (A : List Literal) (a : Answer) (m : Moment) (x : Run B) (s : Session P) (r : IsRunning all remaining has (Some (Asked A)) x s)
      → x.events.greatest ≤ vars_in s → All (IsWithin x.events.greatest) A → IsRightAnswer (vars_in s) (clauses_of r.events) A a
      → m.printed ≡ answer_text x.asking.witness (cut x.events.greatest a)
      → IsAccepted x.asking.limits (r.events ++ Asked A ∷ []) (told_all r.answers ++ told_of a ∷ []) m.proof
      → IfUnknown a (GivesUp x.asking.limits x.asking.limit r.events A (told_all r.answers) m.proof)
      → IsAnswered x.asking r.events A (told_all r.answers) a m
  is_answered has A a m x s r less within right printed accepted limit =
      let h = r.hears.heard_so in
      let n = x.events.greatest in
      let E = r.events ++ Asked A ∷ [] in
      let few : AreWithin n (clauses_of r.events) =
      let Q : List Clause → Type 0 = λ F. AreWithin n F in
      let R : ℕ → Type 0 = λ g. g ≤ n in
      subst Q (clauses_before r.events A) (clauses_up_to x.asking.limits.vars n E (subst R h.greatest_is (omega arith)) h.within) in
      let S : ℕ → Type 0 = λ g. IsRightAnswer g (clauses_of r.events) A (cut g a) in
      let T : ℕ → Type 0 = λ g. m.printed ≡ answer_text x.asking.witness (cut g a) in
      record {
        right = subst S h.greatest_is (right_cut (vars_in s) n (clauses_of r.events) A a less few within right);
        printed = subst T h.greatest_is printed;
        accepted = accepted;
        limited = limit;
      }

  -- the answer was printed, or only a front of it
  printed_so : (after : List ℕ → List Moment → Type 0) (unheard : Type 0) (has : List ℕ → List Moment → Type 0) (A : List Literal) (a : Answer) (text proof : List ℕ) (b : Bool) (x y : Run B) (s t : Session P)
      (r : IsRunning all remaining has (Some (Asked A)) x s) → y.events ≡ x.events → y.asking ≡ x.asking → y.status ≡ status_of a
      → HasHistory x.asking.limits (r.events ++ Asked A ∷ []) (told_all r.answers ++ told_of a ∷ []) proof t → IsAnswered x.asking r.events A (told_all r.answers) a (moment text proof)
      → (IsTrue b → after proof (r.moments ++ moment text proof ∷ []))
      → (b ≡ false → (front : List ℕ) × (rest : List ℕ) × (text ≡ front ++ rest) × after proof (r.moments ++ moment front proof ∷ [])) → (b ≡ false → unheard)
      → GoesOnOrIsUnheard all remaining after unheard b y t
  unfolding running_query
  printed_so after unheard has A a text proof true x y s t r events asking status stands answered whole front refused =
      running_query all remaining has after A a (moment text proof) x y s t r events asking status stands answered (whole refl)
  printed_so after unheard has A a text proof false x y s t r events asking status stands answered whole front refused =
      let f = front refl in
      let m : Moment = moment text proof in
      let none : List ℕ → List Moment → Type 0 = λ bytes moments. Unit {0} in
      let now = running_query all remaining has none A a m x y s t r events asking status stands answered tt in
      let cuts : List Moment = r.moments ++ moment f.0 proof ∷ [] in
      let Q : List ℕ → Type 0 = λ bytes. after bytes cuts in (
        refused refl,
        left_with all remaining none None y t now after [] cuts
            (inr (record { before = r.moments; last = m; printed = f.0; rest = f.1; whole = refl; splits = f.2; short = refl }))
            (subst Q (sym (append-nil (last_proof now.moments) ∙ last_proof_is [] r.moments m)) f.3),
      )

  -- a query was answered by a session, its lines handed out, and the answer printed
  pub query_goes : {O : Type 0} (has : O → List ℕ → List Moment → Type 0) (unheard : O → Type 0) (old new last : O) (A q : List Literal) (a : Answer) (b : Bool) (text : List ℕ) (x y : Run B) (s one t : Session P)
      (r : IsRunning all remaining (has old) (Some (Asked A)) x s) → q ≡ A → y.events ≡ x.events → y.asking ≡ x.asking → y.status ≡ status_of a
      → x.events.greatest ≤ vars_in s → All (IsWithin x.events.greatest) A
      → ((L : Limits) (E : List Event) (told : Told) (bytes : List ℕ) → HasHistory L E told bytes s → HasHistory L (E ++ Asked q ∷ []) (told ++ told_of a ∷ []) bytes one)
      → ((L : Limits) (E : List Event) (told : Told) (bytes : List ℕ) → HasHistory L E told bytes s → IsRightAnswer (vars_in s) (clauses_of E) q a)
      → IfUnknown a (last_in one ≡ last_in s + x.asking.limit)
      → ((L : Limits) (E : List Event) (told : Told) (bytes : List ℕ) → HasHistory L E told bytes s → (more : List ℕ) × (one.out.items ≡ s.out.items ++ more))
      → text ≡ answer_text x.asking.witness (cut x.events.greatest a) → HasWritten has old new one t
      → (IsTrue b → (proof : List ℕ) (moments : List Moment) → has new proof moments → has last proof (moments ++ moment text proof ∷ []))
      → (b ≡ false → (proof : List ℕ) (moments : List Moment) → has new proof moments
      → (front : List ℕ) × (rest : List ℕ) × (text ≡ front ++ rest) × has last proof (moments ++ moment front proof ∷ []))
      → (b ≡ false → unheard last) → GoesOnOrIsUnheard all remaining (has last) (unheard last) b y t
  query_goes has unheard old new last A q a b text x y s one t r e events asking status less within stands_ right_ unknown grows printed written whole front refused =
      let stands = subst (λ (Q : List Literal). (L : Limits) (E : List Event) (told : Told) (bytes : List ℕ) → HasHistory L E told bytes s → HasHistory L (E ++ Asked Q ∷ []) (told ++ told_of a ∷ []) bytes one) e stands_ in
      let right = subst (λ (Q : List Literal). (L : Limits) (E : List Event) (told : Told) (bytes : List ℕ) → HasHistory L E told bytes s → IsRightAnswer (vars_in s) (clauses_of E) Q a) e right_ in
      let E = r.events in
      let told = told_all r.answers in
      let before = last_proof r.moments in
      let h = r.stands in
      let L = x.asking.limits in
      let k = stands L E told before h in
      let out = written L (E ++ Asked A ∷ []) (told ++ told_of a ∷ []) before r.moments k r.out in
      let proof = before ++ one.out.items in
      let more = grows L E told before h in
      printed_so (has last) (unheard last) (has old) A a text proof b x y s t r events asking status out.stands
      (is_answered (has old) A a (moment text proof) x s r less within (right L E told before h) printed out.accepted
      (limited L a x.asking.limit E A told before more.0 s one h k more.1 unknown))
      (λ yes. whole yes proof r.moments out.out) (λ no. front no proof r.moments out.out) refused

  -- a clause was given to a session
  pub clause_goes : (has : List ℕ → List Moment → Type 0) (said : Sent) (C q : Clause) (x : Run B) (s t : Session P) → said ≡ sent.Clause → q ≡ C
      → ((L : Limits) (E : List Event) (told : Told) (bytes : List ℕ) → HasHistory L E told bytes s → HasHistory L (E ++ Given q ∷ []) told bytes t)
      → IsRunning all remaining has (event_of said C) x s → IsRunning all remaining has None x t
  clause_goes has said C q x s t says e stands_ r_ =
      let stands = subst (λ (D : Clause). (L : Limits) (E : List Event) (told : Told) (bytes : List ℕ) → HasHistory L E told bytes s → HasHistory L (E ++ Given D ∷ []) told bytes t) e stands_ in
      let r = subst (λ (m : Sent). IsRunning all remaining has (event_of m C) x s) says r_ in
      running_clause all remaining has C x s t r (stands x.asking.limits r.events (told_all r.answers) (last_proof r.moments) r.stands)

  -- a line had no event
  pub nothing_goes : (has : List ℕ → List Moment → Type 0) (said : Sent) (C : Clause) (x : Run B) (s : Session P) → said ≡ sent.Nothing
      → IsRunning all remaining has (event_of said C) x s → IsRunning all remaining has None x s
  nothing_goes has said C x s says r = subst (λ (m : Sent). IsRunning all remaining has (event_of m C) x s) says r

  -- what was written did not all reach the proof
  pub written_some : {O : Type 0} (has : O → List ℕ → List Moment → Type 0) (old new : O) (waiting : Option Event) (x : Run B) (s : Session P)
      → ((proof : List ℕ) (moments : List Moment) → has old proof moments → (written : List ℕ) × has new (proof ++ written) moments)
      → IsRunning all remaining (has old) waiting x s → IsLeftOf all (has new) x.asking
  written_some has old new waiting x s some r =
      let w = some (last_proof r.moments) r.moments r.out in
      left_with all remaining (has old) waiting x s r (has new) w.0 r.moments (inl refl) w.1
