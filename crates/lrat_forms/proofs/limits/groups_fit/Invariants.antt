use Rattle.std.proofs.Common.{take, All}
use Rattle.lrat_text.specs.Grammar.{IsGroup}
use Rattle.lrat_forms.proofs.limits.groups_fit.Given as goal

abbrev pub invariant-loop-i : goal.invariant-loop-i
invariant-loop-i l = All IsGroup (take l.i l.groups)
