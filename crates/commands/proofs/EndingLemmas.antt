-- A session that begins, grows and ends.
use Rattle.std.proofs.Common.{◌≡◌, ◌⊎◌, inl, inr, ℕ, Bool, true, false, List, [], ◌++◌, Option, Some, None, Result, Ok, Err, IfOk, refl, sym, ◌∙◌, ap, subst, append-nil}
use Rattle.icnf.specs.declared.fault.IcnfFault.{IcnfFault}
use Rattle.leaves.specs.Leaf.{Prints}
use Rattle.reports.specs.declared.refusal.Refusal.{Refusal}
use Rattle.reports.specs.declared.report.Report.{Report}
use Rattle.sessions.specs.Answers.{Event}
use Rattle.sessions.specs.Heard.{Heard, heard_within}
use Rattle.sessions.specs.Rows.{event_of}
use Rattle.sessions.specs.declared.event_lines.Sent.{Sent}
use Rattle.incremental.specs.SessionHistory.{IsAccepted, HasHistory, Told}
use Rattle.incremental.specs.declared.proved_session.Session.{Session}
use Rattle.commands.specs.Known.{HoldsOf}
use Rattle.commands.specs.SessionMoments.{AllAnswered, AreAnswered, Ends, EndsAs, IsLeft, IsWhole, Moment, last_proof, told_all}
use Rattle.commands.specs.declared.session_loop.Asking.{Asking}
use Rattle.commands.specs.declared.session_loop.Ended.{Ended}
use Rattle.commands.specs.declared.session_loop.Ended.TheVariants as ended
use Rattle.commands.specs.declared.session_loop.Pause.{Pause}
use Rattle.commands.specs.declared.session_loop.Pause.TheVariants as pause
use Rattle.commands.specs.declared.session_loop.Run.{Run}
use Rattle.commands.specs.declared.event_source.Next.{Next}
use Rattle.commands.specs.declared.event_source.Next.TheVariants as next
use Rattle.commands.specs.inner.SessionLoop.{CanRun, EndsSo, HasWritten, IsAtEnd, IsLeftOf, GoesOnOrIsUnheard, IsRunning}
use Rattle.commands.specs.inner.EventSource.{Hears, HearsNext}
use Rattle.commands.proofs.KnownLemmas.{of_any}
use Rattle.commands.proofs.OfLemmas.{of_map, of_ok}

-- ---- the beginning
pub left_at_start : (all : Option (List ℕ)) (has : List ℕ → List Moment → Type 0) (o : Asking) → has [] [] → IsLeftOf all has o
left_at_start all has o out =
    of_any (λ text. IsLeft has o (heard_within o.limits text)) all
    (λ text. record {
      front = [];
      rest = (heard_within o.limits text).events;
      splits = refl;
      answers = [];
      moments = [];
      answered = tt;
      cuts = [];
      are_cut = inl refl;
      more = [];
      out = out;
    })

module _ {B P : Type 0} (all : Option (List ℕ)) (remaining : B → Option (List ℕ)) where
  pub running_at_start : (has : List ℕ → List Moment → Type 0) (x : Run B) (s : Session P) → Hears x.asking.limits all remaining [] x.events → HasHistory x.asking.limits [] [] [] s → x.status ≡ 0 → has [] [] → IsRunning all remaining has None x s
  running_at_start has x s hears stands status out = record {
    events = [];
    hears = hears;
    answers = [];
    moments = [];
    answered = tt;
    stands = stands;
    out = out;
    status = status;
  }

  -- a session that has grown stands where the one before it stood
  pub grown_goes : (has : List ℕ → List Moment → Type 0) (waiting : Option Event) (x : Run B) (s t : Session P)
      → ((E : List Event) (told : Told) (text : List ℕ) → HasHistory x.asking.limits E told text s → HasHistory x.asking.limits E told text t) → IsRunning all remaining has waiting x s → IsRunning all remaining has waiting x t
  grown_goes has waiting x s t grows r = record {
    events = r.events;
    hears = r.hears;
    answers = r.answers;
    moments = r.moments;
    answered = r.answered;
    stands = grows r.events (told_all r.answers) (last_proof r.moments) r.stands;
    out = r.out;
    status = r.status;
  }

  -- the events have ended, or have a fault
  pub end_is : (has : List ℕ → List Moment → Type 0) (fault : Option IcnfFault) (x y : Run B) (s : Session P) (r : IsRunning all remaining has None x s) → y.asking ≡ x.asking → y.status ≡ x.status
      → HoldsOf all (λ text. heard_within x.asking.limits text ≡ record { events = r.events ++ []; fault = fault }) → HoldsOf all (IsAtEnd has fault y s)
  end_is has fault x y s r asking status h =
      let is : List Event → Heard = λ E. record { events = E; fault = fault } in
      let Q : Asking → Type 0 = λ o. AreAnswered o [] [] r.events r.answers r.moments in
      let R : Asking → Type 0 = λ o. HasHistory o.limits r.events (told_all r.answers) (last_proof r.moments) s in
      of_map (λ text. heard_within x.asking.limits text ≡ is (r.events ++ [])) (IsAtEnd has fault y s) all
      (λ text e. record {
        events = r.events;
        heard_all = ap (λ (o : Asking). heard_within o.limits text) asking ∙ e ∙ ap is (append-nil r.events);
        answers = r.answers;
        moments = r.moments;
        answered = subst Q (sym asking) r.answered;
        stands = subst R (sym asking) r.stands;
        out = r.out;
        status = status ∙ r.status;
      })
      h

  pub ended_by : (has : List ℕ → List Moment → Type 0) (found : Next) (x y : Run B) (s : Session P) (r : IsRunning all remaining has None x s) → y.asking ≡ x.asking → y.status ≡ x.status
      → found ≡ next.Ended → HearsNext x.asking.limits all remaining (r.events ++ []) y.events found → HoldsOf all (IsAtEnd has None y s)
  ended_by has found x y s r asking status e h =
      let Q : Next → Type 0 = λ n. HearsNext x.asking.limits all remaining (r.events ++ []) y.events n in
      end_is has None x y s r asking status (subst Q e h)

  pub faulty_by : (has : List ℕ → List Moment → Type 0) (found : Next) (fault : IcnfFault) (x y : Run B) (s : Session P) (r : IsRunning all remaining has None x s) → y.asking ≡ x.asking → y.status ≡ x.status
      → found ≡ next.Faulty fault → HearsNext x.asking.limits all remaining (r.events ++ []) y.events found → HoldsOf all (IsAtEnd has (Some fault) y s)
  faulty_by has found fault x y s r asking status e h =
      let Q : Next → Type 0 = λ n. HearsNext x.asking.limits all remaining (r.events ++ []) y.events n in
      end_is has (Some fault) x y s r asking status (subst Q e h)

  -- whether what is printed is still read
  pub is_read : (has : List ℕ → List Moment → Type 0) (unheard : Type 0) (b : Bool) (x : Run B) (s : Session P) → b ≡ true → GoesOnOrIsUnheard all remaining has unheard b x s → IsRunning all remaining has None x s
  is_read has unheard true x s e h = h
  is_read has unheard false x s e h = absurd cc

  pub is_unread : (has : List ℕ → List Moment → Type 0) (unheard : Type 0) (b : Bool) (x : Run B) (s : Session P) → b ≡ false → GoesOnOrIsUnheard all remaining has unheard b x s → unheard × IsLeftOf all has x.asking
  is_unread has unheard true x s e h = absurd cc
  is_unread has unheard false x s e h = h

  -- why no further line is taken
  pub outgrown_is : (has : List ℕ → List Moment → Type 0) (unheard : Type 0) (p : Pause) (says : Sent) (x : Run B) (s : Session P) → p ≡ pause.Outgrown says → CanRun all remaining has unheard p x s
      → IsRunning all remaining has (event_of says x.events.lines.read.literals) x s
  outgrown_is has unheard p says x s e h =
      let Q : Pause → Type 0 = λ q. CanRun all remaining has unheard q x s in
      subst Q e h

  pub ended_is : (has : List ℕ → List Moment → Type 0) (unheard : Type 0) (p : Pause) (fault : Option IcnfFault) (x : Run B) (s : Session P) → p ≡ pause.Ended fault → CanRun all remaining has unheard p x s → HoldsOf all (IsAtEnd has fault x s)
  ended_is has unheard p fault x s e h =
      let Q : Pause → Type 0 = λ q. CanRun all remaining has unheard q x s in
      subst Q e h

  pub unheard_is : (has : List ℕ → List Moment → Type 0) (unheard : Type 0) (p : Pause) (x : Run B) (s : Session P) → p ≡ pause.Unheard → CanRun all remaining has unheard p x s → unheard × IsLeftOf all has x.asking
  unheard_is has unheard p x s e h =
      let Q : Pause → Type 0 = λ q. CanRun all remaining has unheard q x s in
      subst Q e h

-- ---- the end
module _ {O B P : Type 0} (all : Option (List ℕ)) (has : O → List ℕ → List Moment → Type 0) (old new : O) (fault : Option IcnfFault) (x : Run B) where
  -- the rest was handed out
  pub all_answered : (unheard : Type 0) (s t : Session P) → HasWritten has old new s t → HoldsOf all (IsAtEnd (has old) fault x s) → EndsSo all (has new) unheard x.asking x.status (ended.Whole fault)
  all_answered unheard s t written h =
      of_map (IsAtEnd (has old) fault x s) (λ text. ((heard_within x.asking.limits text).fault ≡ fault) × AllAnswered (has new) x.asking (heard_within x.asking.limits text) x.status) all
      (λ text e.
      let out = written x.asking.limits e.events (told_all e.answers) (last_proof e.moments) e.moments e.stands e.out in
      let events = ap (λ (k : Heard). k.events) e.heard_all in
      let Q : List Event → Type 0 = λ E. AreAnswered x.asking [] [] E e.answers e.moments in
      let R : List Event → Type 0 = λ E. IsAccepted x.asking.limits E (told_all e.answers) (last_proof e.moments ++ s.out.items) in (
        ap (λ (k : Heard). k.fault) e.heard_all,
        record {
          answers = e.answers;
          moments = e.moments;
          answered = subst Q (sym events) e.answered;
          status_is = e.status;
          more = s.out.items;
          accepted = subst R (sym events) out.accepted;
          out = out.out;
        },
      ))
      h

  -- not all of the rest was
  pub end_left : (s : Session P) → ((proof : List ℕ) (moments : List Moment) → has old proof moments → (written : List ℕ) × has new (proof ++ written) moments)
      → HoldsOf all (IsAtEnd (has old) fault x s) → IsLeftOf all (has new) x.asking
  end_left s some h =
      of_map (IsAtEnd (has old) fault x s) (λ text. IsLeft (has new) x.asking (heard_within x.asking.limits text)) all
      (λ text e.
      let w = some (last_proof e.moments) e.moments e.out in
      record {
        front = e.events;
        rest = [];
        splits = ap (λ (k : Heard). k.events) e.heard_all ∙ sym (append-nil e.events);
        answers = e.answers;
        moments = e.moments;
        answered = e.answered;
        cuts = e.moments;
        are_cut = inl refl;
        more = w.0;
        out = w.1;
      })
      h

-- ---- the report
ok_map : {T E : Type 0} (P Q : T → Type 0) (r : Result T E) → ((x : T) → P x → Q x) → IfOk r P → IfOk r Q
ok_map P Q (Ok x) f h = f x h
ok_map P Q (Err e) f h = tt

pub ends_as : (all : Option (List ℕ)) (has : List ℕ → List Moment → Type 0) (unheard : Type 0) (o p : Asking) (status : ℕ) (e : Ended) → o ≡ p → EndsSo all has unheard o status e → EndsSo all has unheard p status e
ends_as all has unheard o p status e same h =
    let Q : Asking → Type 0 = λ a. EndsSo all has unheard a status e in
    subst Q same h

module _ (all : Option (List ℕ)) (has : List ℕ → List Moment → Type 0) (unheard : Type 0) (o : Asking) (status : ℕ) where
  pub ends_so : (e : Ended) (res : Result Report Refusal) → EndsSo all has unheard o status e → ((fault : Option IcnfFault) → e ≡ ended.Whole fault → IfOk res (EndsAs fault status))
      → (e ≡ ended.Unheard → IfOk res (Prints 1 [])) → IfOk res (λ r. HoldsOf all (λ text. Ends has unheard o (heard_within o.limits text) r))
  ends_so (ended.Whole fault) res h whole cut =
      of_ok (λ text. ((heard_within o.limits text).fault ≡ fault) × AllAnswered has o (heard_within o.limits text) status) (λ text r. Ends has unheard o (heard_within o.limits text) r) all res h
      (λ text a.
      ok_map (EndsAs fault status) (Ends has unheard o (heard_within o.limits text)) res
      (λ r prints.
      let Q : Option IcnfFault → Type 0 = λ f. EndsAs f status r in
      inl (status, a.1, subst Q (sym a.0) prints))
      (whole fault refl))
  ends_so ended.Unheard res h whole cut =
      of_ok (λ text. IsLeft has o (heard_within o.limits text)) (λ text r. Ends has unheard o (heard_within o.limits text) r) all res h.1
      (λ text l. ok_map (Prints 1 []) (Ends has unheard o (heard_within o.limits text)) res (λ r prints. inr (h.0, l, prints)) (cut refl))

  pub left_of_end : (e : Ended) → EndsSo all has unheard o status e → IsLeftOf all has o
  left_of_end (ended.Whole fault) h =
      of_map (λ text. ((heard_within o.limits text).fault ≡ fault) × AllAnswered has o (heard_within o.limits text) status) (λ text. IsLeft has o (heard_within o.limits text)) all
      (λ text a. record {
        front = (heard_within o.limits text).events;
        rest = [];
        splits = sym (append-nil (heard_within o.limits text).events);
        answers = a.1.answers;
        moments = a.1.moments;
        answered = a.1.answered;
        cuts = a.1.moments;
        are_cut = inl refl;
        more = a.1.more;
        out = a.1.out;
      })
      h
  left_of_end ended.Unheard h = h.1
