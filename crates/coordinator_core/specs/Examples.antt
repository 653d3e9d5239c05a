-- Two small runs as examples of the split rule, with one worker each.
use Rattle.std.specs.Prelude.{ℕ, [], ◌∷◌}
use Rattle.dimacs.specs.logic.Cnf.{Cnf}
use Rattle.dimacs.specs.logic.Literal.{Pos, Neg}
use Rattle.lrat_check.specs.declared.verdict.Reaction.{Reaction}
use Rattle.frames.specs.declared.answer.Ending.TheVariants as told
use Rattle.frames.specs.declared.frame.Attempt.{Attempt}
use Rattle.frames.specs.declared.frame.Frame.{Frame}
use Rattle.frames.specs.declared.frame.Frame.TheVariants.{Done}
use Rattle.cube_split.specs.Pairs.{Definitions}
use Rattle.coordinator_core.specs.Coordinator.{CoordinatorState, new_coordinator, coordinator_poll, CoordinatorDelivers}

-- the formula with every clause of two variables: p cnf 2 4, 1 2 0, -1 2 0, 1 -2 0, -1 -2 0
abbrev pub four : Cnf
four = record { vars = 2; clauses = (Pos 1 ∷ Pos 2 ∷ []) ∷ (Neg 1 ∷ Pos 2 ∷ []) ∷ (Pos 1 ∷ Neg 2 ∷ []) ∷ (Neg 1 ∷ Neg 2 ∷ []) ∷ [] }

-- a coordinator of that formula with one worker, a tree of one leaf, and a limit of 100
abbrev pub begun : CoordinatorState
begun = new_coordinator four ([] ∷ []) 100 1 1

-- the formula with two clauses by which 1 and 2 are equal: p cnf 2 2, 1 -2 0, -1 2 0
abbrev pub same_two : Cnf
same_two = record { vars = 2; clauses = (Pos 1 ∷ Neg 2 ∷ []) ∷ (Neg 1 ∷ Pos 2 ∷ []) ∷ [] }

-- one definition: 3 stands for 1 and -2 together
abbrev pub one_defined : Definitions
one_defined = record { wanted = 1; pairs = record { first = Pos 1; second = Neg 2 } ∷ [] }

-- a coordinator of the formula `same_two` with one definition, one worker, a tree of one leaf, and a limit of 100
abbrev pub begun_with_one : CoordinatorState
begun_with_one = record (new_coordinator same_two ([] ∷ []) 100 1 1) { definitions = one_defined }

-- the frame that a poll sends to worker 1
abbrev pub sent : CoordinatorState → Frame
sent c = (coordinator_poll c 1).frame

-- the coordinator after a poll for worker 1
abbrev pub polled : CoordinatorState → CoordinatorState
polled c = (coordinator_poll c 1).after

-- the attempt of worker 1 at the job of this number
abbrev pub at_job : ℕ → Attempt
at_job job = record { session = 1; job = job; worker = 1; incarnation = 2 }

-- a Done that says that the search met its limit is delivered for this job, with this reaction and this next state
abbrev pub MetLimit : CoordinatorState → ℕ → Reaction → CoordinatorState → Type 0
MetLimit c job answer new = CoordinatorDelivers c (Done (at_job job) told.Limit) answer new
