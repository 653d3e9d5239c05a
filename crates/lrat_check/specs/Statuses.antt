-- The statuses of clauses in the code, as those of the definitions.
use Rattle.std.specs.Prelude.{if◌then◌else◌}
use Rattle.dimacs.specs.logic.Literal.{Literal, same}
use Rattle.lrat_check.specs.declared.status.Status.{Status as Answer}
use Rattle.lrat_check.specs.declared.status.Status.TheVariants.{Satisfied as IsSatisfied, Falsified as IsFalsified, Unit as IsUnit, Undecided as IsUndecided}
use Rattle.lrat_check.specs.StepFaults.{Status, Satisfied, Falsified, Unit, Undecided}

-- the status of the definitions for a status of the code
abbrev pub status_in : Answer → Status
status_in IsSatisfied = Satisfied
status_in IsFalsified = Falsified
status_in (IsUnit l) = Unit l
status_in IsUndecided = Undecided

-- the status of a clause that has one more literal l, which is not false
abbrev pub with_free_literal : Status → Literal → Status
with_free_literal Falsified l = Unit l
with_free_literal (Unit k) l = if same k l then Unit k else Undecided
with_free_literal Undecided l = Undecided
with_free_literal Satisfied l = Satisfied
