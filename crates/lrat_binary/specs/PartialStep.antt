-- The state of a reader, from the fields of its partial step.
use Rattle.std.specs.Prelude.{Option, Some, None}
use Rattle.lrat_binary.specs.Parser.{StepPrefix, AtId, AtLiterals, AtHints, AtDeleted, ReaderState, BetweenStepsWithin, InStep}
use Rattle.lrat_binary.specs.declared.partial_step.PartialStep.{PartialStep}
use Rattle.lrat_binary.specs.declared.partial_step.Place.{Place}
use Rattle.lrat_binary.specs.declared.partial_step.Place.TheVariants as place

-- what has been read of the step p, whose next number belongs to the given list
abbrev pub prefix_of : Place → PartialStep → StepPrefix
prefix_of place.Id p = AtId p.limit.most
prefix_of place.Literals p = AtLiterals p.limit.most p.id p.literals.items
prefix_of place.Hints p = AtHints p.limit.most p.id p.literals.items p.numbers.items p.groups
prefix_of place.Deleted p = AtDeleted p.limit.most p.numbers.items

-- the state of a reader whose partial step is p and whose next number belongs to the given list; None is between two steps
abbrev pub state_at : Option Place → PartialStep → ReaderState
state_at None p = BetweenStepsWithin p.limit.most
state_at (Some at) p = InStep (prefix_of at p) p.number.value p.number.weight

-- the state of a reader whose partial step is p
abbrev pub state_of : PartialStep → ReaderState
state_of p = state_at p.place p
