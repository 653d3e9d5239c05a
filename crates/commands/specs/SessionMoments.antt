-- What goes out of a session: its proof, and what is printed, each time with what the proof has then.
use Rattle.std.specs.Prelude.{◌≡◌, ◌⊎◌, ℕ, ◌+◌, List, [], ◌∷◌, ◌++◌, Option, Some, None, map}
use Rattle.cube_solve.specs.Session.{IfUnknown, IsRightAnswer}
use Rattle.cube_solve.specs.declared.answer.Answer.{Answer}
use Rattle.dimacs.specs.logic.Limits.{Limits}
use Rattle.dimacs.specs.logic.Literal.{Literal}
use Rattle.icnf.specs.declared.fault.IcnfFault.{IcnfFault}
use Rattle.incremental.specs.SessionHistory.{IsAccepted, Reaches, Told, told_of}
use Rattle.leaves.specs.Leaf.{Prints}
use Rattle.reports.specs.declared.report.Report.{Report}
use Rattle.sessions.specs.Answers.{Event, Asked, Given, Unknown}
use Rattle.sessions.specs.Events.{clauses_of}
use Rattle.sessions.specs.Heard.{Heard, greatest}
use Rattle.sessions.specs.Reports.{events_text}
use Rattle.sessions.specs.Texts.{State}
use Rattle.commands.specs.SessionLines.{answer_text, cut, last_status}
use Rattle.commands.specs.declared.session_loop.Asking.{Asking}

-- what is printed at once, and the bytes that the proof has by then
pub record Moment : Type 0 where
  pub printed : List ℕ
  pub proof : List ℕ

-- the moment at which `printed` is printed, while the proof has the bytes `proof`
abbrev pub moment : List ℕ → List ℕ → Moment
moment printed proof = record { printed = printed; proof = proof }

-- the answers in the form in which the proof tells them
abbrev pub told_all : List Answer → Told
told_all answers = map told_of answers

-- ---- one answer
-- A query A, after the events E, within the limits, and the answers `told`, is given up only after `limit` lemmas. Each lemma takes the
-- next number: from the end of `front`, which reaches the events E, to the end of the proof the greatest number grows by `limit`.
pub record GivesUp (L : Limits) (limit : ℕ) (E : List Event) (A : List Literal) (told : Told) (proof : List ℕ) : Type 0 where
  pub front : List ℕ
  pub own : List ℕ
  pub splits : proof ≡ front ++ own
  pub old : State
  pub old_line : ℕ
  pub before : Reaches L E told front old old_line
  pub new : State
  pub new_line : ℕ
  pub after : Reaches L (E ++ Asked A ∷ []) (told ++ Unknown ∷ []) proof new new_line
  pub lemmas : new.last ≡ old.last + limit

-- The answer to a query A, after the events E and the answers `told`, at the moment `m`: it is right for the clauses of E, over all
-- variables of E and A. It is printed, and by then the proof is accepted beside the events up to the query, with this answer.
pub record IsAnswered (o : Asking) (E : List Event) (A : List Literal) (told : Told) (answer : Answer) (m : Moment) : Type 0 where
  pub right : IsRightAnswer (greatest (E ++ Asked A ∷ [])) (clauses_of E) A (cut (greatest (E ++ Asked A ∷ [])) answer)
  pub printed : m.printed ≡ answer_text o.witness (cut (greatest (E ++ Asked A ∷ [])) answer)
  pub accepted : IsAccepted o.limits (E ++ Asked A ∷ []) (told ++ told_of answer ∷ []) m.proof
  pub limited : IfUnknown answer (GivesUp o.limits o.limit E A told m.proof)

-- ---- all answers
-- After the events E and the answers `told` these events come: each query has its answer and its moment, in order, and a clause has none.
-- The positions are: how queries are asked, E, `told`, the events that come, their answers, their moments.
abbrev pub AreAnswered : Asking → List Event → Told → List Event → List Answer → List Moment → Type 0
AreAnswered o E told [] [] [] = Unit {0}
AreAnswered o E told [] [] (m ∷ ms) = ⊥
AreAnswered o E told [] (a ∷ answers) ms = ⊥
AreAnswered o E told (Given C ∷ D) answers ms = AreAnswered o (E ++ Given C ∷ []) told D answers ms
AreAnswered o E told (Asked A ∷ D) [] ms = ⊥
AreAnswered o E told (Asked A ∷ D) (a ∷ answers) [] = ⊥
AreAnswered o E told (Asked A ∷ D) (a ∷ answers) (m ∷ ms) = IsAnswered o E A told a m × AreAnswered o (E ++ Asked A ∷ []) (told ++ told_of a ∷ []) D answers ms

-- ---- the end
-- the bytes that the proof has by the last of these moments; without one, `bytes`
abbrev pub proof_behind : List ℕ → List Moment → List ℕ
proof_behind bytes [] = bytes
proof_behind bytes (m ∷ ms) = proof_behind m.proof ms

-- the bytes that the proof has by the last of these moments; without one, none
abbrev pub last_proof : List Moment → List ℕ
last_proof ms = proof_behind [] ms

-- All events before the first fault were answered, and the last answer has this status. After the last answer the proof gets the bytes
-- `more`, and is accepted beside all of these events.
pub record AllAnswered (has : List ℕ → List Moment → Type 0) (o : Asking) (h : Heard) (status : ℕ) : Type 0 where
  pub answers : List Answer
  pub moments : List Moment
  pub answered : AreAnswered o [] [] h.events answers moments
  pub status_is : status ≡ last_status answers
  pub more : List ℕ
  pub accepted : IsAccepted o.limits h.events (told_all answers) (last_proof moments ++ more)
  pub out : has (last_proof moments ++ more) moments

-- the report has what is printed after the answers, and the status: those of the first fault of the events, or of the last answer
abbrev pub EndsAs : Option IcnfFault → ℕ → Report → Type 0
EndsAs None status r = Prints status [] r
EndsAs (Some fault) status r = Prints 1 (events_text fault) r

-- `IsWhole has o h r`: a session came to the end of its events (h) or to their first fault, all
-- events before it were answered, and the report r tells so. `has` says which proof and which
-- printed texts the outputs have; o has the options.
abbrev pub IsWhole : (List ℕ → List Moment → Type 0) → Asking → Heard → Report → Type 0
IsWhole has o h r = (status : ℕ) × AllAnswered has o h status × EndsAs h.fault status r

-- `cuts` are the moments, except that of the text of the last one only a prefix was printed
pub record IsCutShort (moments cuts : List Moment) : Type 0 where
  pub before : List Moment
  pub last : Moment
  pub printed : List ℕ
  pub rest : List ℕ
  pub whole : moments ≡ before ++ last ∷ []
  pub splits : last.printed ≡ printed ++ rest
  pub short : cuts ≡ before ++ moment printed last.proof ∷ []

-- What is left if a session ends before its events do. Some of the events, from the first on, were answered; of the last answer perhaps not
-- all was printed, and after the bytes that the proof had by then it may have others.
pub record IsLeft (has : List ℕ → List Moment → Type 0) (o : Asking) (h : Heard) : Type 0 where
  pub front : List Event
  pub rest : List Event
  pub splits : h.events ≡ front ++ rest
  pub answers : List Answer
  pub moments : List Moment
  pub answered : AreAnswered o [] [] front answers moments
  pub cuts : List Moment
  pub are_cut : (cuts ≡ moments) ⊎ IsCutShort moments cuts
  pub more : List ℕ
  pub out : has (last_proof moments ++ more) cuts

-- `Ends has unheard o h r`: a session ended with the report r. All events (h) were answered; or not
-- all that was to be printed was, for which `unheard` holds: status 1, and nothing more is printed.
abbrev pub Ends : (List ℕ → List Moment → Type 0) → Type 0 → Asking → Heard → Report → Type 0
Ends has unheard o h r = IsWhole has o h r ⊎ (unheard × IsLeft has o h × Prints 1 [] r)
