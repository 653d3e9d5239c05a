-- The states of a session that goes on, between two lines and at its end.
use Rattle.std.specs.Prelude.{◌≡◌, ℕ, ◌<◌, Bool, true, false, List, [], ◌++◌, Option, None}
use Rattle.commands.specs.Known.{HoldsOf}
use Rattle.commands.specs.SessionLines.{last_status}
use Rattle.commands.specs.SessionMoments.{AllAnswered, AreAnswered, IsLeft, Moment, last_proof, told_all}
use Rattle.commands.specs.declared.session_loop.Asking.{Asking}
use Rattle.commands.specs.declared.session_loop.Ended.{Ended}
use Rattle.commands.specs.declared.session_loop.Ended.TheVariants as ended
use Rattle.commands.specs.declared.session_loop.Pause.{Pause}
use Rattle.commands.specs.declared.session_loop.Pause.TheVariants as pause
use Rattle.commands.specs.declared.session_loop.Run.{Run}
use Rattle.commands.specs.inner.EventSource.{Hears, IsWaiting, listed}
use Rattle.cube_solve.specs.declared.answer.Answer.{Answer}
use Rattle.dimacs.specs.logic.Limits.{Limits}
use Rattle.dimacs.specs.logic.Literal.{Literal}
use Rattle.icnf.specs.declared.fault.IcnfFault.{IcnfFault}
use Rattle.incremental.specs.SessionHistory.{IsAccepted, HasHistory, Told}
use Rattle.incremental.specs.declared.proved_session.Session.{Session}
use Rattle.sessions.specs.Answers.{Event}
use Rattle.sessions.specs.Heard.{heard_within}
use Rattle.sessions.specs.Rows.{event_of}

-- ---- literals
-- an event is pending only if it has a greater variable than `vars`; its variables are then from 1 to `greatest`
abbrev pub Waits : ℕ → ℕ → List Literal → Pause → Type 0
Waits vars greatest ls (pause.Outgrown says) = (vars < greatest) × IsWaiting says greatest ls
Waits vars greatest ls (pause.Ended fault) = Unit {0}
Waits vars greatest ls pause.Unheard = Unit {0}

-- ---- what goes out
-- the bytes that the session `s` had not handed out were appended to the proof `text`, and the proof is accepted then
pub record IsHandedOut {O P : Type 0} (has : O → List ℕ → List Moment → Type 0) (new : O) (s t : Session P) (L : Limits) (E : List Event) (told : Told) (text : List ℕ) (moments : List Moment) : Type 0 where
  pub stands : HasHistory L E told (text ++ s.out.items) t
  pub accepted : IsAccepted L E told (text ++ s.out.items)
  pub out : has new (text ++ s.out.items) moments

-- if the proof has what the session `s` handed out, the bytes that it had not handed out were appended to the proof (`IsHandedOut`)
abbrev pub HasWritten : {O P : Type 0} → (O → List ℕ → List Moment → Type 0) → O → O → Session P → Session P → Type 0
HasWritten has old new s t = (L : Limits) (E : List Event) (told : Told) (text : List ℕ) (moments : List Moment) → HasHistory L E told text s → has old text moments → IsHandedOut has new s t L E told text moments

-- what is left if a session ends before its events do, if `all` are the bytes of its source
abbrev pub IsLeftOf : Option (List ℕ) → (List ℕ → List Moment → Type 0) → Asking → Type 0
IsLeftOf all has o = HoldsOf all (λ text. IsLeft has o (heard_within o.limits text))

-- ---- between two lines
module _ {B P : Type 0} where
  -- All events that were heard were answered, except `waiting`, if that is one.
  pub record IsRunning (all : Option (List ℕ)) (remaining : B → Option (List ℕ)) (has : List ℕ → List Moment → Type 0) (waiting : Option Event) (x : Run B) (s : Session P) : Type 0 where
    pub events : List Event
    pub hears : Hears x.asking.limits all remaining (events ++ listed waiting) x.events
    pub answers : List Answer
    pub moments : List Moment
    pub answered : AreAnswered x.asking [] [] events answers moments
    pub stands : HasHistory x.asking.limits events (told_all answers) (last_proof moments) s
    pub out : has (last_proof moments) moments
    pub status : x.status ≡ last_status answers

  -- All events that were heard were answered, if the flag says that the last answer was printed; else `unheard` holds, and something is
  -- left. The positions are: all bytes of the source, those that a source has left, what has gone out, `unheard`, the flag, the run, the
  -- session.
  abbrev pub GoesOnOrIsUnheard : Option (List ℕ) → (B → Option (List ℕ)) → (List ℕ → List Moment → Type 0) → Type 0 → Bool → Run B → Session P → Type 0
  GoesOnOrIsUnheard all remaining has unheard true x s = IsRunning all remaining has None x s
  GoesOnOrIsUnheard all remaining has unheard false x s = unheard × IsLeftOf all has x.asking

  -- all events were answered that come before this fault, or before the end
  pub record IsAtEnd (has : List ℕ → List Moment → Type 0) (fault : Option IcnfFault) (x : Run B) (s : Session P) (text : List ℕ) : Type 0 where
    pub events : List Event
    pub heard_all : heard_within x.asking.limits text ≡ record { events = events; fault = fault }
    pub answers : List Answer
    pub moments : List Moment
    pub answered : AreAnswered x.asking [] [] events answers moments
    pub stands : HasHistory x.asking.limits events (told_all answers) (last_proof moments) s
    pub out : has (last_proof moments) moments
    pub status : x.status ≡ last_status answers

  -- What holds if the loop over the lines stops: all events that were heard were answered, except one that is pending; or all before the
  -- end or a fault; or `unheard` holds, and something is left. The positions are: all bytes of the source, those that a source has left,
  -- what has gone out, `unheard`, why the loop stops, the run, the session.
  abbrev pub CanRun : Option (List ℕ) → (B → Option (List ℕ)) → (List ℕ → List Moment → Type 0) → Type 0 → Pause → Run B → Session P → Type 0
  CanRun all remaining has unheard (pause.Outgrown says) x s = IsRunning all remaining has (event_of says x.events.lines.read.literals) x s
  CanRun all remaining has unheard (pause.Ended fault) x s = HoldsOf all (IsAtEnd has fault x s)
  CanRun all remaining has unheard pause.Unheard x s = unheard × IsLeftOf all has x.asking

-- ---- the end
-- How a run of a session ended: all events were answered, and the first fault is this one, or none; or `unheard` holds, and something is
-- left. The positions are: all bytes of the source, what has gone out, `unheard`, how queries are asked, the last answer's status, how the
-- run ended.
abbrev pub EndsSo : Option (List ℕ) → (List ℕ → List Moment → Type 0) → Type 0 → Asking → ℕ → Ended → Type 0
EndsSo all has unheard o status (ended.Whole fault) = HoldsOf all (λ text. ((heard_within o.limits text).fault ≡ fault) × AllAnswered has o (heard_within o.limits text) status)
EndsSo all has unheard o status ended.Unheard = unheard × IsLeftOf all has o
