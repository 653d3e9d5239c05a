-- Small formulas and small runs of a closed cluster, as examples of the definitions.
use Rattle.std.specs.Prelude.{◌≡◌, List, [], ◌∷◌}
use Rattle.dimacs.specs.logic.Cnf.{Cnf}
use Rattle.dimacs.specs.logic.Literal.{Pos, Neg}
use Rattle.lrat_check.specs.declared.verdict.Reaction.{Reaction}
use Rattle.lrat_check.specs.declared.verdict.Reaction.TheVariants.{Ignored, Taken, Finished, Verdict}
use Rattle.frames.specs.declared.frame.Attempt.{Attempt}
use Rattle.cube_split.specs.Pairs.{no_definitions}
use Rattle.coordinator_core.specs.Coordinator.{CoordinatorState, new_coordinator, coordinator_poll}
use Rattle.honest_cluster.specs.ClosedSchedule.{Beginning, ClosedState, HappensClosed, new_closed}
use Rattle.honest_cluster.specs.declared.event.ClosedEvent.{ClosedEvent}
use Rattle.honest_cluster.specs.declared.event.ClosedEvent.TheVariants.{Deliver, Work, Poll, Restart}

-- the formula `p cnf 2 2, 1 0, -2 0`, which is satisfiable
abbrev pub two : Cnf
two = record { vars = 2; clauses = (Pos 1 ∷ []) ∷ (Neg 2 ∷ []) ∷ [] }

-- the formula `p cnf 2 4, 1 2 0, -1 2 0, 1 -2 0, -1 -2 0`, which is unsatisfiable
abbrev pub four : Cnf
four = record { vars = 2; clauses = (Pos 1 ∷ Pos 2 ∷ []) ∷ (Neg 1 ∷ Pos 2 ∷ []) ∷ (Pos 1 ∷ Neg 2 ∷ []) ∷ (Neg 1 ∷ Neg 2 ∷ []) ∷ [] }

-- how the cluster of the examples begins: the formula `two`, one worker, and a tree of one leaf
abbrev pub beginning : Beginning
beginning = record { formula = two; definitions = no_definitions; tree = [] ∷ []; limit = 100000; workers = 1 }

-- the cluster of the examples at its beginning
abbrev pub begun : ClosedState
begun = new_closed beginning

-- an event and the reaction to it
pub record Turn : Type 0 where
  pub event : ClosedEvent
  pub answer : Reaction

-- the turn of this event and this reaction
abbrev pub answered : ClosedEvent → Reaction → Turn
answered event answer = record { event = event; answer = answer }

-- `Plays s turns new`: the events may lead from s to `new` with these reactions, one after the other
abbrev pub Plays : ClosedState → List Turn → ClosedState → Type 0
Plays s [] new = new ≡ s
Plays s (turn ∷ turns) new = (mid : ClosedState) × HappensClosed s turn.event turn.answer mid × Plays mid turns new

-- a run to a verdict: a Task, a Done that is delivered twice, a Fetch, and a Piece that is delivered twice
abbrev pub whole_run : List Turn
whole_run =
    answered (Poll 0 1) Taken ∷ answered (Deliver 1 0) Taken ∷ answered (Work 1) Finished ∷ answered (Poll 1 0) Taken
    ∷ answered (Deliver 0 1) Taken ∷ answered (Deliver 0 1) Ignored ∷ answered (Poll 0 1) Taken ∷ answered (Deliver 1 2) Taken
    ∷ answered (Poll 1 0) Taken ∷ answered (Deliver 0 3) Verdict ∷ answered (Deliver 0 3) Ignored ∷ []

-- A run with a restart: a Task and a Done; then the worker is restarted under 3 (a second restart under 3 is ignored) and sends Idle. Its
-- leaf is given again, as another job, and the first Done is ignored.
abbrev pub restart_run : List Turn
restart_run =
    answered (Poll 0 1) Taken ∷ answered (Deliver 1 0) Taken ∷ answered (Work 1) Finished ∷ answered (Poll 1 0) Taken
    ∷ answered (Deliver 0 1) Taken ∷ answered (Restart 1 3) Taken ∷ answered (Restart 1 3) Ignored ∷ answered (Poll 1 0) Taken
    ∷ answered (Deliver 0 2) Taken ∷ answered (Poll 0 1) Taken ∷ answered (Deliver 0 1) Ignored ∷ []

-- a coordinator of this formula with one worker and a tree of one leaf, after one poll
abbrev pub asked : Cnf → CoordinatorState
asked F = (coordinator_poll (new_coordinator F ([] ∷ []) 100000 1 1) 1).after

-- the attempt of worker 1 at job 1 under its first incarnation, which is 2
abbrev pub second : Attempt
second = record { session = 1; job = 1; worker = 1; incarnation = 2 }

-- the attempt of worker 1 at job 1 under incarnation 9
abbrev pub ninth : Attempt
ninth = record { session = 1; job = 1; worker = 1; incarnation = 9 }
