use Rattle.std.proofs.Common.{take}
use Rattle.std.specs.List.{flat_map}
use Rattle.lrat_binary.specs.Grammar.{group_codes}
use Rattle.lrat_forms.specs.inner.Codes.{Adds}
use Rattle.lrat_forms.proofs.codes.put_groups.Given as goal

abbrev pub invariant-loop-i : goal.invariant-loop-i
invariant-loop-i l = Adds l.fn.out.items l.out.items (flat_map group_codes (take l.i l.groups))
