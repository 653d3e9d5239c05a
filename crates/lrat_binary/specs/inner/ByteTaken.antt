-- What the methods of a partial step answer.
use Rattle.std.specs.Prelude.{◌≡◌, ◌≢◌, ◌≤◌, Bool, true, false, Result, Ok, Err}
use Rattle.lrat_text.specs.declared.fault.TextFault.{TextFault}
use Rattle.lrat_text.specs.declared.fault.TextFault.TheVariants.{NoMemory}
use Rattle.lrat_text.specs.declared.step.Step.{Step}
use Rattle.lrat_text.specs.declared.step.Step.TheVariants.{Add, Delete}
use Rattle.lrat_binary.specs.PartialStep.{state_of}
use Rattle.lrat_binary.specs.Parser.{Outcome, Goes, Ends, Fails}
use Rattle.lrat_binary.specs.declared.token.Token.{Token}
use Rattle.lrat_binary.specs.declared.token.Token.TheVariants.{End, Plus, Minus, Other}
use Rattle.lrat_binary.specs.declared.partial_step.PartialStep.{PartialStep}
use Rattle.lrat_binary.specs.declared.partial_step.Taken.{Taken}
use Rattle.lrat_binary.specs.declared.partial_step.Taken.TheVariants.{More, Addition, Deletion}

-- the number in a Plus or Minus token is at least 1
abbrev pub IsPositive : Token → Type 0
IsPositive End = Unit {0}
IsPositive (Plus n) = 1 ≤ n
IsPositive (Minus n) = 1 ≤ n
IsPositive Other = Unit {0}

-- the complete step in the fields of p: a deletion if the Bool is true, otherwise an addition
abbrev pub step_held : Bool → PartialStep → Step
step_held false p = Add p.id p.literals.items p.numbers.items p.groups
step_held true p = Delete p.numbers.items

-- a method's result, and the fields p after it, are those of this outcome; if memory was refused, nothing is said
abbrev pub Tells : Outcome → Result Taken TextFault → PartialStep → Type 0
Tells outcome (Ok More) p = outcome ≡ Goes (state_of p)
Tells outcome (Ok Addition) p = outcome ≡ Ends p.limit.most (step_held false p)
Tells outcome (Ok Deletion) p = outcome ≡ Ends p.limit.most (step_held true p)
Tells outcome (Err fault) p = fault ≢ NoMemory → outcome ≡ Fails fault
