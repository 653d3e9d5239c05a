use Rattle.std.proofs.Common.{take, All}
use Rattle.dimacs.specs.logic.Literal.{IsWithin}
use Rattle.lrat_forms.proofs.limits.literals_fit.Given as goal

abbrev pub invariant-loop-lit : goal.invariant-loop-lit
invariant-loop-lit l = All (IsWithin 199999999) (take l.lit-index l.lits)
