-- The state of a session's proof after some bytes and events, and what its text answers from there on.
use Rattle.std.specs.Prelude.{◌≡◌, ℕ, ◌+◌, ◌<◌, Bool, true, false, List, [], Some}
use Rattle.lrat_check.specs.ProofFaults.{no_memory}
use Rattle.sessions.specs.Answers.{Event, Given, Asked}
use Rattle.sessions.specs.Texts.{Outcome, awaited, by_left, text_from}
use Rattle.sessions.specs.View.{reached_clause, reached_query, state_of}
use Rattle.sessions.specs.declared.known.Known.{Known}
use Rattle.sessions.specs.declared.proof_side.Phase.{Phase}
use Rattle.sessions.specs.declared.proof_side.Phase.TheVariants as phase
use Rattle.sessions.specs.declared.proof_side.ProofSide.{ProofSide}

-- whether the input has ended, the rest of it: an input that has ended has no rest
abbrev pub Ends : {X : Type 0} → Bool → List X → Type 0
Ends true xs = xs ≡ []
Ends false xs = Unit {0}

-- phase, state, number of the line (from 1), events left, pieces of the proof left: what the proof answers from here on
abbrev pub later_by : Phase → Known → ℕ → List Event → List (List ℕ) → Outcome
later_by phase.Reading k line D pieces = text_from (state_of k) line D pieces
later_by phase.Clause k line D pieces = awaited (Given k.awaited.items) line D (λ G. text_from (reached_clause k) (line + 1) G pieces)
later_by phase.Query k line D pieces = awaited (Asked k.awaited.items) line D (λ G. text_from (reached_query k) (line + 1) G pieces)
later_by phase.Ended k line D pieces = by_left line D
later_by (phase.Stopped fault) k line D pieces = record { answers = []; fault = Some fault }

-- the proof's side, events left, pieces of the proof left: what the proof answers from here on
abbrev pub later : ProofSide → List Event → List (List ℕ) → Outcome
later x D pieces = later_by x.phase x.lines.known x.line D pieces

-- phase, state: if a clause is awaited, its number is above all numbers before it
abbrev pub IsHigh : Phase → Known → Type 0
IsHigh phase.Reading k = Unit {0}
IsHigh phase.Clause k = k.numbers.last < k.id
IsHigh phase.Query k = Unit {0}
IsHigh phase.Ended k = Unit {0}
IsHigh (phase.Stopped fault) k = Unit {0}

-- no line of the proof and no event is awaited: the proof has ended, or has a fault
abbrev pub IsResting : Phase → Type 0
IsResting phase.Reading = ⊥
IsResting phase.Clause = ⊥
IsResting phase.Query = ⊥
IsResting phase.Ended = Unit {0}
IsResting (phase.Stopped fault) = Unit {0}

-- the proof has stopped because memory was refused
abbrev pub IsBroken : ProofSide → Type 0
IsBroken x = x.phase ≡ phase.Stopped no_memory
