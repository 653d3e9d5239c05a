-- What the consumer that appends steps does with one line, and the invariant of the reader of pieces.
use Rattle.std.specs.Prelude.{◌≡◌, ◌≢◌, ℕ, List, [], ◌∷◌, ◌++◌, Option, Some, None, Err}
use Rattle.std.specs.Global.{Vec}
use Rattle.lrat_text.specs.Grammar.{SpellsStep}
use Rattle.lrat_text.specs.Lines.{IsOpen}
use Rattle.lrat_text.specs.Parser.{step_in}
use Rattle.lrat_text.specs.declared.fault.TextFault.{TextFault}
use Rattle.lrat_text.specs.declared.fault.TextFault.TheVariants.{NoMemory}
use Rattle.lrat_text.specs.declared.step.Step.{Step}

-- the consumer takes a line: old is the list of steps before, and new is that list and the step that the line spells
abbrev pub AppendsStep : Vec Step → List ℕ → Vec Step → Type 0
AppendsStep old line new = (step : Step) × (new.items ≡ old.items ++ step ∷ []) × SpellsStep line step

-- the consumer refuses a line: the list of steps is unchanged, and the fault is the line's first one, unless memory was refused
abbrev pub AppendsNone : Vec Step → List ℕ → Vec Step → TextFault → Type 0
AppendsNone old line new fault = (new.items ≡ old.items) × (fault ≢ NoMemory → step_in line ≡ Err fault)

-- the invariant of a reader's fields: the incomplete line has no LF, and the fault, if any, is not NoMemory
abbrev pub IsReadProgress : Option TextFault → List ℕ → Type 0
IsReadProgress None begun = IsOpen begun
IsReadProgress (Some fault) begun = fault ≢ NoMemory
