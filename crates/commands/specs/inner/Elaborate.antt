-- The states of a DRAT proof that comes in pieces, and is elaborated.
use Rattle.std.specs.Prelude.{◌≡◌, ⊤}
use Rattle.commands.specs.declared.elaborate.DratText.{DratText}
use Rattle.commands.specs.declared.elaborate.DratText.TheVariants.{Right, Refused}
use Rattle.dimacs.specs.logic.Cnf.{Cnf}

-- the proof is one of the formula, or it is refused
abbrev pub IsOf : Cnf → DratText → Type 0
IsOf F (Right e) = e ≡ F
IsOf F (Refused f) = ⊤
