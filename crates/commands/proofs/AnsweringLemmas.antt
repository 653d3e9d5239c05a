-- A session that goes on, and what is left of it where it ends.
use Rattle.std.proofs.Common.{◌≡◌, ◌⊎◌, inl, ℕ, ◌+◌, Bool, true, false, List, [], ◌∷◌, ◌++◌, Option, Some, None, refl, sym, ◌∙◌, ap, subst, append_assoc, append-nil}
use Rattle.cube_solve.specs.declared.answer.Answer.{Answer}
use Rattle.dimacs.specs.logic.Limits.{Limits}
use Rattle.dimacs.specs.logic.Literal.{Clause, Literal}
use Rattle.sessions.specs.Answers.{Event, Given, Asked, Unknown}
use Rattle.sessions.specs.Heard.{Heard, heard_within}
use Rattle.sessions.specs.Sides.{Ends}
use Rattle.sessions.specs.Texts.{session_within}
use Rattle.incremental.specs.SessionHistory.{HasHistory, Told, last_in, told_of}
use Rattle.incremental.specs.declared.proved_session.Session.{Session}
use Rattle.commands.specs.SessionLines.{status_of}
use Rattle.commands.specs.SessionMoments.{AreAnswered, GivesUp, IsAnswered, IsCutShort, IsLeft, Moment, last_proof, told_all}
use Rattle.commands.specs.declared.session_loop.Asking.{Asking}
use Rattle.commands.specs.declared.session_loop.Run.{Run}
use Rattle.commands.specs.declared.event_source.EventSource.{EventSource}
use Rattle.commands.specs.inner.SessionLoop.{IsLeftOf, IsRunning}
use Rattle.commands.specs.inner.EventSource.{HasHeard, Hears, coming_by, listed}
use Rattle.commands.specs.inner.Texts.{IsTaken}
use Rattle.commands.proofs.SessionLemmas.{answered_clause, answered_query, last_proof_is, last_status_is, told_behind}

ends_nil : (b : Bool) → Ends {X = ℕ} b []
ends_nil true = refl
ends_nil false = tt

-- of all events that a text has these are a front
front_heard : {B : Type 0} (L : Limits) (bytes more : List ℕ) (E D : List Event) (x : EventSource B) → HasHeard L bytes (E ++ D) x → Ends x.has_ended more → (rest : List Event) × ((heard_within L (bytes ++ more)).events ≡ E ++ rest)
front_heard L bytes more E D x h ends =
    let later : Heard = coming_by x.has_ended x.read x.lines.progress more in
    (D ++ later.events, ap (λ (k : Heard). k.events) (h.is more ends) ∙ append_assoc E D later.events)

-- what is so for whatever has these events in front is so for what the source has
left_by : {B : Type 0} (all left : Option (List ℕ)) (bytes : List ℕ) (E D : List Event) (x : EventSource B) (has : List ℕ → List Moment → Type 0) (o : Asking)
    → IsTaken all bytes left x.has_ended → HasHeard o.limits bytes (E ++ D) x → ((h : Heard) (rest : List Event) → h.events ≡ E ++ rest → IsLeft has o h) → IsLeftOf all has o
left_by None left bytes E D x has o taken h k =
    let front = front_heard o.limits bytes [] E D x h (ends_nil x.has_ended) in
    (bytes ++ [], k (heard_within o.limits (bytes ++ [])) front.0 front.1)
left_by (Some a) None bytes E D x has o taken h k = absurd taken
left_by (Some a) (Some l) bytes E D x has o taken h k =
    let front = front_heard o.limits bytes l E D x h taken.1 in
    let P : List ℕ → Type 0 = λ text. IsLeft has o (heard_within o.limits text) in
    subst P (sym taken.0) (k (heard_within o.limits (bytes ++ l)) front.0 front.1)

module _ {B P : Type 0} (all : Option (List ℕ)) (remaining : B → Option (List ℕ)) (has : List ℕ → List Moment → Type 0) (waiting : Option Event) (x : Run B) (s : Session P) (r : IsRunning all remaining has waiting x s) where
  -- other bytes came after the last answer's, or of what was printed at last only a front was
  pub left_with : (after : List ℕ → List Moment → Type 0) (more : List ℕ) (cuts : List Moment) → (cuts ≡ r.moments) ⊎ IsCutShort r.moments cuts → after (last_proof r.moments ++ more) cuts → IsLeftOf all after x.asking
  left_with after more cuts cut out =
      let h = r.hears in
      left_by all (remaining x.events.source) h.bytes r.events (listed waiting) x.events after x.asking h.taken h.heard_so
      (λ k rest splits. record {
        front = r.events;
        rest = rest;
        splits = splits;
        answers = r.answers;
        moments = r.moments;
        answered = r.answered;
        cuts = cuts;
        are_cut = cut;
        more = more;
        out = out;
      })

  -- nothing went out since
  pub left_so : IsLeftOf all has x.asking
  left_so =
      let Q : List ℕ → Type 0 = λ text. has text r.moments in
      left_with has [] r.moments (inl refl) (subst Q (sym (append-nil (last_proof r.moments))) r.out)

-- ---- one event more
-- a clause was given
pub running_clause : {B P : Type 0} (all : Option (List ℕ)) (remaining : B → Option (List ℕ)) (has : List ℕ → List Moment → Type 0) (C : Clause) (x : Run B) (s t : Session P) (r : IsRunning all remaining has (Some (Given C)) x s)
    → HasHistory x.asking.limits (r.events ++ Given C ∷ []) (told_all r.answers) (last_proof r.moments) t → IsRunning all remaining has None x t
running_clause all remaining has C x s t r stands =
    let P : List Event → Type 0 = λ E. Hears x.asking.limits all remaining E x.events in
    record {
      events = r.events ++ Given C ∷ [];
      hears = subst P (sym (append-nil (r.events ++ Given C ∷ []))) r.hears;
      answers = r.answers;
      moments = r.moments;
      answered = answered_clause x.asking [] [] r.events r.answers r.moments C r.answered;
      stands = stands;
      out = r.out;
      status = r.status;
    }

-- a query was answered, and the answer printed
unfoldable pub running_query : {B P : Type 0} (all : Option (List ℕ)) (remaining : B → Option (List ℕ)) (has after : List ℕ → List Moment → Type 0) (A : List Literal) (a : Answer) (m : Moment) (x y : Run B) (s t : Session P)
    (r : IsRunning all remaining has (Some (Asked A)) x s) → y.events ≡ x.events → y.asking ≡ x.asking → y.status ≡ status_of a
    → HasHistory x.asking.limits (r.events ++ Asked A ∷ []) (told_all r.answers ++ told_of a ∷ []) m.proof t → IsAnswered x.asking r.events A (told_all r.answers) a m → after m.proof (r.moments ++ m ∷ [])
    → IsRunning all remaining after None y t
running_query all remaining has after A a m x y s t r events asking status stands answered out =
    let E : List Event = r.events ++ Asked A ∷ [] in
    let P : List Event → Type 0 = λ D. Hears x.asking.limits all remaining D x.events in
    let Q : Asking → Type 0 = λ o. AreAnswered o [] [] E (r.answers ++ a ∷ []) (r.moments ++ m ∷ []) in
    let R : Told → Type 0 = λ told. HasHistory x.asking.limits E told m.proof t in
    let S : List ℕ → Type 0 = λ proof. HasHistory x.asking.limits E (told_all (r.answers ++ a ∷ [])) proof t in
    let T : List ℕ → Type 0 = λ proof. after proof (r.moments ++ m ∷ []) in
    let U : Asking → Type 0 = λ o. HasHistory o.limits E (told_all (r.answers ++ a ∷ [])) (last_proof (r.moments ++ m ∷ [])) t in
    let V : Asking → Type 0 = λ o. Hears o.limits all remaining (E ++ []) y.events in
    let last = last_proof_is [] r.moments m in
    record {
      events = E;
      hears = subst V (sym asking) (subst (λ z. Hears x.asking.limits all remaining (E ++ []) z) (sym events) (subst P (sym (append-nil E)) r.hears));
      answers = r.answers ++ a ∷ [];
      moments = r.moments ++ m ∷ [];
      answered = subst Q (sym asking) (answered_query x.asking [] [] r.events r.answers r.moments A a m r.answered answered);
      stands = subst U (sym asking) (subst S (sym last) (subst R (sym (told_behind r.answers a)) stands));
      out = subst T (sym last) out;
      status = status ∙ sym (last_status_is 0 r.answers a);
    }

-- ---- a query that is given up
pub gives_up : {P : Type 0} (L : Limits) (limit : ℕ) (E : List Event) (A : List Literal) (told : Told) (text more : List ℕ) (s t : Session P) → HasHistory L E told text s → HasHistory L (E ++ Asked A ∷ []) (told ++ Unknown ∷ []) text t
    → t.out.items ≡ s.out.items ++ more → last_in t ≡ last_in s + limit → GivesUp L limit E A told (text ++ t.out.items)
gives_up L limit E A told text more s t h k grows last = record {
  front = text ++ s.out.items;
  own = more;
  splits = ap (λ (b : List ℕ). text ++ b) grows ∙ sym (append_assoc text s.out.items more);
  old = h.reader;
  old_line = h.line;
  before = λ D b. ap (λ (c : List ℕ). session_within L (E ++ D) c) (append_assoc text s.out.items b) ∙ h.reads D b;
  new = k.reader;
  new_line = k.line;
  after = λ D b. ap (λ (c : List ℕ). session_within L ((E ++ Asked A ∷ []) ++ D) c) (append_assoc text t.out.items b) ∙ k.reads D b;
  lemmas = k.last ∙ last ∙ ap (λ (n : ℕ). n + limit) (sym h.last);
}
